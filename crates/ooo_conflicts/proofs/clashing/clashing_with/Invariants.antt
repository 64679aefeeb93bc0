-- The segments so far that clash strictly.
use Rattle.ooo_conflicts.proofs.ClashingLemmas.{ListedBefore}
use Rattle.ooo_conflicts.proofs.clashing.clashing_with.Given as goal

abbrev pub invariant-loop-b : goal.invariant-loop-b
invariant-loop-b l = ListedBefore l.rows l.g l.b l.clashing
