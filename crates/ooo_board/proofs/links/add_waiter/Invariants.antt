use Rattle.std.proofs.Common.{take}
use Rattle.ooo_board.specs.Links.{Adds}
use Rattle.ooo_board.proofs.links.add_waiter.Given as goal

abbrev pub invariant-loop-e : goal.invariant-loop-e
invariant-loop-e l = Adds (take l.e-index l.events) l.p l.fn.waiters.items l.waiters.items
