-- The waits among the nodes so far.
use Rattle.std.proofs.Common.{◌≡◌, take, count_by}
use Rattle.ooo_code.specs.Segments.{is_wait}
use Rattle.ooo_segments.proofs.counting.waits.Given as goal

abbrev pub invariant-loop-node : goal.invariant-loop-node
invariant-loop-node l = l.count ≡ count_by is_wait (take l.node-index l.nodes)
