use Rattle.std.proofs.Common.{◌∙◌, sym, subst}
use Rattle.ooo_fronts.specs.Fronts.{IsLeastOf}
use Rattle.ooo_fronts.proofs.Counted.{same_fronts}
use Rattle.ooo_fronts.proofs.Earliest.{least_on_board}
use Rattle.ooo_fronts.proofs.fronts.Fronts.least.Goals as goal

pub returns-clause-least : goal.returns-clause-least
returns-clause-least c =
    let same = same_fronts c.args.self.now c.self.inside.fronts.items c.self.inside.counts.items c.self.inside.holds.items c.self.view_is in
    subst (λ fronts. IsLeastOf fronts c.least_of.result) (c.as_slice.ensures.value ∙ sym same) c.least_of.ensures

pub returns-clause-board : goal.returns-clause-board
returns-clause-board c = λ r b are.
    let same = same_fronts c.args.self.now c.self.inside.fronts.items c.self.inside.counts.items c.self.inside.holds.items c.self.view_is in
    least_on_board r b c.args.self.now.fronts c.least_of.result are (subst (λ fronts. IsLeastOf fronts c.least_of.result) (c.as_slice.ensures.value ∙ sym same) c.least_of.ensures)
