use Rattle.ooo_board.proofs.Moving.{IsMoving}
use Rattle.ooo_board.proofs.carrying.move_out.Given as goal

abbrev pub invariant-loop-i : goal.invariant-loop-i
invariant-loop-i l = IsMoving l.fn.variables.items l.fn.owned.items l.i l.variables.items l.owned.items
