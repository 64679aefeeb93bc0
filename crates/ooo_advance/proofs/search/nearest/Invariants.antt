-- The nearest of the segments so far.
use Rattle.ooo_advance.proofs.SearchLemmas.{NearestSoFar}
use Rattle.ooo_advance.proofs.search.nearest.Given as goal

abbrev pub invariant-loop-n : goal.invariant-loop-n
invariant-loop-n l = NearestSoFar l.least l.done l.n l.best
