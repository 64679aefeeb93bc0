-- The row so far.
use Rattle.ooo_fronts.specs.Reaching.{IsSoonestRow}
use Rattle.ooo_fronts.proofs.soonest.soonest_from.Given as goal

abbrev pub invariant-loop-c : goal.invariant-loop-c
invariant-loop-c l = IsSoonestRow l.tables l.a l.c l.row
