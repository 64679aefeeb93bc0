use Rattle.std.proofs.Common.{length}
use Rattle.ooo_board.proofs.Moving.{IsPutting}
use Rattle.ooo_board.proofs.carrying.move_back.Given as goal

abbrev pub invariant-variables : goal.invariant-variables
invariant-variables l = IsPutting l.fn.variables.items l.fn.owned.items l.variables.items l.owned.items

abbrev pub decreases-variables : goal.decreases-variables
decreases-variables l = length l.owned.items
