use Rattle.std.proofs.Common.{◌≡◌, ◌≤◌, ◌*◌, ◌^◌, take}
use Rattle.ooo_sim.specs.Summaries.{entry_count}
use Rattle.ooo_sim.proofs.summary.entry_count.Given as goal

abbrev pub invariant-channels : goal.invariant-channels
invariant-channels l = record {
  count : l.count ≡ entry_count (take l.entries-index l.channels);
  within : l.count ≤ l.entries-index * 2 ^ 64;
}
