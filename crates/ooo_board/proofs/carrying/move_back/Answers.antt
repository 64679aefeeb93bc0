use Rattle.ooo_board.proofs.Moving.{putting_on}
use Rattle.ooo_board.proofs.carrying.move_back.Goals as goal

pub variables-preserved : goal.variables-preserved
variables-preserved c = putting_on c.args.variables.now.items c.args.owned.items c.variables.variables.items c.variables.owned.items c.pop.new.self.items c.in-Some.x c.in-Some.cells c.in-Some.ensures.items c.variables.invariant
