-- The least of the delays so far.
use Rattle.ooo_fronts.proofs.Meeting.{LeastBelow, delays_to}
use Rattle.ooo_fronts.proofs.soonest.soonest_by_others.Given as goal

abbrev pub invariant-loop-b : goal.invariant-loop-b
invariant-loop-b l = LeastBelow (delays_to l.tables l.a l.c l.clashing) l.b-index l.least
