use Rattle.std.proofs.Common.{◌≡◌, ◌+◌, ◌-◌, ◌++◌, drop, take, map, vec_len}
use Rattle.std.specs.Prelude.{vec_capacity}
use Rattle.ooo_channels.specs.Entries.{put_entry}
use Rattle.ooo_channels.proofs.fifo.log_written.Given as goal

abbrev pub invariant-loop-n : goal.invariant-loop-n
invariant-loop-n l = record {
  items : l.history.items ≡ l.initial.history.items ++ map (put_entry l.stamp) (take (l.n - l.first) (drop l.first l.values.items));
  capacity : vec_capacity l.history ≡ vec_capacity l.initial.history;
  len : vec_len l.history ≡ vec_len l.initial.history + (l.n - l.first);
}
