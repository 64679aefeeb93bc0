use Rattle.std.proofs.Common.{◌≤◌, ◌-◌, length, take}
use Rattle.std.specs.Io.KnownBytes.{Appends}
use Rattle.ooo_sim.proofs.pump.write_text.Given as goal

abbrev pub invariant-writing : goal.invariant-writing
invariant-writing g l = record {
  within : l.written ≤ length l.text;
  bytes : Appends (g.Si.Sink.held l.initial.sink) (g.Si.Sink.held l.sink) (take l.written l.text);
  later : g.Si.Sink.faults l.initial.sink ≤ g.Si.Sink.faults l.sink;
}

abbrev pub decreases-writing : goal.decreases-writing
decreases-writing g l = length l.text - l.written
