-- The fronts are those of the board.
use Rattle.ooo_fronts.proofs.Earliest.{least_on_board}
use Rattle.ooo_fronts.proofs.choice.Choice.least.Goals as goal

pub returns : goal.returns
returns c = λ r least b k. least_on_board r b c.args.self.now.fronts.now c.least_of.result k.fronts c.least_of.ensures
