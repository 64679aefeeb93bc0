-- By its delay.
use Rattle.std.proofs.Common.{◌∙◌, sym, ap, subst, true}
use Rattle.ooo_time.specs.Delays.{advanced}
use Rattle.ooo_time.specs.Stamps.{IsBefore}
use Rattle.ooo_fronts.specs.Holds.{clashes_at}
use Rattle.ooo_fronts.proofs.Holding.{as_it_clashes, clashes_before, unled}
use Rattle.ooo_fronts.proofs.holds.holds_by.Goals as goal

pub returns-in_default : goal.returns-in_default
returns-in_default c = let a = c.args in unled a.tables.now a.g a.p a.f a.b c.requires.held c.requires.meets (sym c.least.ensures ∙ c.in_default.is)

pub returns-then-is_before : goal.returns-then-is_before
returns-then-is_before c =
    let a = c.args in
    let t = a.tables.now in
    let d = c.in-Some.delay in
    let early : IsBefore (advanced a.g.stamp d) a.f.stamp = subst (λ s. IsBefore s a.f.stamp) c.advance-at.ensures (c.is_before.ensures.0 c.if-is_before.true) in
    as_it_clashes t a.g a.p a.f a.b d c.requires.held c.requires.meets (sym c.least.ensures ∙ c.in-Some.is) true (clashes_before t a.b (advanced a.g.stamp d) a.p a.f early c.requires.meets)

pub returns : goal.returns
returns c =
    let a = c.args in
    let t = a.tables.now in
    let d = c.in-Some.delay in
    as_it_clashes t a.g a.p a.f a.b d c.requires.held c.requires.meets (sym c.least.ensures ∙ c.in-Some.is) c.clashes_at.result (c.clashes_at.ensures ∙ ap (λ s. clashes_at t a.b s a.p a.f) c.advance-at.ensures)
