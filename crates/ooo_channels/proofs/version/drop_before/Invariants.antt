use Rattle.std.proofs.Common.{◌≡◌, ◌≤◌, ◌++◌, List}
use Rattle.std.specs.VecDeque.{deque_capacity, deque_len}
use Rattle.ooo_time.specs.declared.stamp.Stamp.{Stamp}
use Rattle.ooo_code.specs.Channels.{Channel}
use Rattle.ooo_channels.specs.declared.version.Version.{Version}
use Rattle.ooo_channels.specs.Versions.{StartsBy, AreVersionsOf}
use Rattle.ooo_channels.proofs.version.drop_before.Given as goal

abbrev pub invariant-loop-second : goal.invariant-loop-second
invariant-loop-second l = record {
  start : StartsBy l.below l.initial.versions.items → StartsBy l.below l.versions.items;
  left : (was : Stamp → Channel) (rest : List Version) → AreVersionsOf was (l.initial.versions.items ++ rest) → AreVersionsOf was (l.versions.items ++ rest);
  fewer : deque_len l.versions ≤ deque_len l.initial.versions;
  capacity : deque_capacity l.versions ≡ deque_capacity l.initial.versions;
}

abbrev pub decreases-loop-second : goal.decreases-loop-second
decreases-loop-second l = deque_len l.versions
