-- The edges from the segments so far.
use Rattle.ooo_segments.specs.Edges.{AreEdgesBefore}
use Rattle.ooo_segments.proofs.edges.all_edges.Given as goal

abbrev pub invariant-loop-from : goal.invariant-loop-from
invariant-loop-from l = AreEdgesBefore l.design l.segments l.from 0 l.edges.items
