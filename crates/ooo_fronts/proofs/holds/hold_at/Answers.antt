-- By its parts.
use Rattle.std.proofs.Common.{◌≢◌, ◌∙◌, sym, ap, Some}
use Rattle.ooo_time.specs.declared.stamp.Stamp.{Stamp}
use Rattle.ooo_fronts.specs.Fronts.{process_in}
use Rattle.ooo_fronts.specs.Holds.{clashes_at}
use Rattle.ooo_fronts.proofs.Holding.{none_own, none_unled, none_apart, some_clashing}
use Rattle.ooo_fronts.proofs.holds.hold_at.Goals as goal

pub returns-then-process_of-p : goal.returns-then-process_of-p
returns-then-process_of-p c = let a = c.args in none_own a.tables.now a.g a.p a.f a.b (sym c.process_of.ensures ∙ c.if-process_of-p.true)

pub returns-in_default : goal.returns-in_default
returns-in_default c =
    let a = c.args in
    let other : process_in a.tables.now a.b ≢ a.p = λ e. c.if-process_of-p.false (c.process_of.ensures ∙ e) in
    none_unled a.tables.now a.g a.p a.f a.b other (sym c.least.ensures ∙ c.in_default.is)

pub returns-then-clashes_at : goal.returns-then-clashes_at
returns-then-clashes_at c =
    let a = c.args in
    let d = c.in-Some.delay in
    let other : process_in a.tables.now a.b ≢ a.p = λ e. c.if-process_of-p.false (c.process_of.ensures ∙ e) in
    let clashes = sym (ap (λ s. clashes_at a.tables.now a.b s a.p a.f) c.advance-at.ensures) ∙ sym c.clashes_at.ensures ∙ c.if-clashes_at.true in
    ap (λ (s : Stamp). Some s) c.advance-at.ensures ∙ some_clashing a.tables.now a.g a.p a.f a.b d other (sym c.least.ensures ∙ c.in-Some.is) clashes

pub returns-else-clashes_at : goal.returns-else-clashes_at
returns-else-clashes_at c =
    let a = c.args in
    let d = c.in-Some.delay in
    let other : process_in a.tables.now a.b ≢ a.p = λ e. c.if-process_of-p.false (c.process_of.ensures ∙ e) in
    let apart = sym (ap (λ s. clashes_at a.tables.now a.b s a.p a.f) c.advance-at.ensures) ∙ sym c.clashes_at.ensures ∙ c.if-clashes_at.false in
    none_apart a.tables.now a.g a.p a.f a.b d other (sym c.least.ensures ∙ c.in-Some.is) apart
