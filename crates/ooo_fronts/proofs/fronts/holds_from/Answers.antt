-- What the entry becomes.
use Rattle.std.proofs.Common.{◌≡◌, ◌∙◌, Some, sym, ap, length}
use Rattle.ooo_fronts.specs.Holds.{holds_of}
use Rattle.ooo_fronts.proofs.Counted.{at_front, fit_at, fit_itself}
use Rattle.ooo_fronts.proofs.Entries.{entry_is, entry_set}
use Rattle.ooo_fronts.proofs.fronts.holds_from.Goals as goal

pub holds_of-count-requires-clause-fit : goal.holds_of-count-requires-clause-fit
holds_of-count-requires-clause-fit c = fit_itself c.args.tables.now c.args.q c.in-Some.g (fit_at c.args.tables.now c.args.fronts.now c.requires.fit c.args.q c.in-Some.g (sym c.front_at.ensures ∙ c.in-Some.is))

pub returns-clause-others : goal.returns-clause-others
returns-clause-others c =
    let a = c.args in
    let there = at_front a.fronts.now a.q c.in-Some.g (sym c.front_at.ensures ∙ c.in-Some.is) in
    rw c.entry_of.ensures.place (entry_set (length a.fronts.now) a.q a.p c.holds_of-count.result a.holds.now there c.requires.within c.requires.size)

pub returns-clause-entry : goal.returns-clause-entry
returns-clause-entry c = λ g ne e.
    let a = c.args in
    let is = sym c.front_at.ensures ∙ c.in-Some.is in
    let there = at_front a.fronts.now a.q c.in-Some.g is in
    let same : c.in-Some.g ≡ g = let both : Some c.in-Some.g ≡ Some g = sym is ∙ e in cc in
    rw c.entry_of.ensures.place (entry_is (length a.fronts.now) a.q a.p c.holds_of-count.result a.holds.now there c.requires.within c.requires.size ∙ c.holds_of-count.ensures.exact ∙ ap (λ x. holds_of a.tables.now x a.p a.f) same)
