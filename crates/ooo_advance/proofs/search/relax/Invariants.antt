-- What is known of the segments so far was lowered, and the nearest of them was found.
use Rattle.ooo_advance.proofs.SearchLemmas.{LoweredSoFar, NearestSoFar}
use Rattle.ooo_advance.proofs.search.relax.Given as goal

abbrev pub invariant-loop-n : goal.invariant-loop-n
invariant-loop-n l = record {
  lowered : LoweredSoFar l.done l.fn.least l.least l.links l.delay l.n;
  nearest : NearestSoFar l.least l.done l.n l.best;
}
