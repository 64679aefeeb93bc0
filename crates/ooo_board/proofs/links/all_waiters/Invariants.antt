use Rattle.ooo_board.specs.Links.{AreWaiters}
use Rattle.ooo_board.proofs.links.all_waiters.Given as goal

abbrev pub invariant-loop-g : goal.invariant-loop-g
invariant-loop-g l = AreWaiters l.design l.g l.segments l.access l.waiters.items
