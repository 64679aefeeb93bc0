-- The segments so far and those that may still come are as many as there may be.
use Rattle.std.proofs.Common.{◌≡◌, ◌+◌, length, drop}
use Rattle.ooo_segments.specs.Beginnings.{beginnings, beginnings_from, greatest_segments}
use Rattle.ooo_segments.proofs.counting.count_of_closed.Given as goal

abbrev pub invariant-loop-process : goal.invariant-loop-process
invariant-loop-process l = record {
  items : l.process-items ≡ l.design.processes;
  count : length (beginnings l.design) + l.left ≡ greatest_segments + length (beginnings_from l.design l.process-index (drop l.process-index l.design.processes));
}
