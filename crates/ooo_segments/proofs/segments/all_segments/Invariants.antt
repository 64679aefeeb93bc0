-- Added are the segments of the processes so far.
use Rattle.std.proofs.Common.{◌≡◌, [], take}
use Rattle.ooo_segments.specs.Beginnings.{beginnings_from, AddsSegments}
use Rattle.ooo_segments.proofs.segments.all_segments.Given as goal

abbrev pub invariant-loop-p : goal.invariant-loop-p
invariant-loop-p l = record {
  items : l.process-items ≡ l.design.processes;
  adds : AddsSegments l.design [] l.segments.items (beginnings_from l.design 0 (take l.p l.design.processes));
}
