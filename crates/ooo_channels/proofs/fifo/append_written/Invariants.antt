use Rattle.std.proofs.Common.{◌≡◌, ◌-◌, ◌++◌, drop, take, map}
use Rattle.ooo_channels.specs.Entries.{put_entry}
use Rattle.ooo_channels.proofs.fifo.append_written.Given as goal

abbrev pub invariant-loop-n : goal.invariant-loop-n
invariant-loop-n l =
    l.history.items ≡ l.initial.history.items ++ map (put_entry l.stamp) (take (l.n - l.first) (drop l.first l.values.items))
