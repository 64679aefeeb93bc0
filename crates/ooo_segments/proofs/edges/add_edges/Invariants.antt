-- The edges to the segments so far.
use Rattle.ooo_segments.specs.Edges.{AreEdgesBefore}
use Rattle.ooo_segments.proofs.edges.add_edges.Given as goal

abbrev pub invariant-loop-to : goal.invariant-loop-to
invariant-loop-to l = AreEdgesBefore l.design l.segments l.from l.to l.edges.items
