use Rattle.std.proofs.Common.{◌∙◌, sym, subst}
use Rattle.ooo_fronts.specs.Fronts.{AreFit}
use Rattle.ooo_fronts.specs.Holds.{IsFirstHold}
use Rattle.ooo_fronts.proofs.Counted.{held_none, first_or_none, front_read, same_fronts}
use Rattle.ooo_fronts.proofs.fronts.Fronts.first_hold.Goals as goal

pub returns-in_err-held-clause-none : goal.returns-in_err-held-clause-none
returns-in_err-held-clause-none c =
    let kept = c.args.self.now in
    let none = front_read kept c.self.inside.fronts.items c.self.inside.counts.items c.self.inside.holds.items c.self.view_is c.args.p c.index.result.now c.requires.within c.index.ensures ∙ c.in_err-held.was {u = tt} in
    (λ _. held_none c.args.tables.now kept.fronts c.args.p none, λ _. c.from_residual.ensures)

pub returns-clause-none : goal.returns-clause-none
returns-clause-none c =
    let kept = c.args.self.now in
    let same = same_fronts kept c.self.inside.fronts.items c.self.inside.counts.items c.self.inside.holds.items c.self.view_is in
    let first = subst (λ xs. IsFirstHold c.args.tables.now xs c.args.p c.first_hold.result) (c.as_slice.ensures.value ∙ sym same) c.first_hold.ensures in
    first_or_none c.args.tables.now kept.fronts c.args.p c.first_hold.result first

pub first_hold-requires-clause-fit : goal.first_hold-requires-clause-fit
first_hold-requires-clause-fit c =
    let same = same_fronts c.args.self.now c.self.inside.fronts.items c.self.inside.counts.items c.self.inside.holds.items c.self.view_is in
    subst (AreFit c.args.tables.now) (same ∙ sym c.as_slice.ensures.value) c.requires.fit
