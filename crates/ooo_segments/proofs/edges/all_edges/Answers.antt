-- Row by row.
use Rattle.std.proofs.Common.{arith}
use Rattle.ooo_segments.proofs.EdgeLemmas.{row_end, edges_end}
use Rattle.ooo_segments.proofs.edges.all_edges.Goals as goal

pub loop-from-preserved : goal.loop-from-preserved
loop-from-preserved c = row_end _ _ _ _ _ (omega arith) c.in_ok-add_edges.ensures

pub returns : goal.returns
returns c = edges_end _ _ _ _ c.loop-from-test.false c.loop-from.invariant
