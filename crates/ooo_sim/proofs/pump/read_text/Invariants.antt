use Rattle.std.proofs.Common.{◌≡◌, ◌≤◌, ◌-◌, length}
use Rattle.std.specs.Io.KnownBytes.{Consumes}
use Rattle.ooo_sim.proofs.pump.read_text.Given as goal

abbrev pub invariant-reading : goal.invariant-reading
invariant-reading g l = record {
  chunk : length l.chunk ≡ 4096;
  within : length l.text.items ≤ l.limit;
  bytes : Consumes (g.So.Source.rest l.initial.source) (g.So.Source.rest l.source) l.text.items;
  later : g.So.Source.faults l.initial.source ≤ g.So.Source.faults l.source;
}

abbrev pub decreases-reading : goal.decreases-reading
decreases-reading g l = l.limit - length l.text.items
