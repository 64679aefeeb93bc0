-- The accesses so far, one for each segment.
use Rattle.ooo_tables.proofs.AccessLemmas.{AccessesSoFar}
use Rattle.ooo_tables.proofs.tables.access_of.Given as goal

abbrev pub invariant-loop-segment : goal.invariant-loop-segment
invariant-loop-segment l = AccessesSoFar l.design l.segments l.segment-index l.access
