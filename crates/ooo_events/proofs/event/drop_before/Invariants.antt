use Rattle.std.proofs.Common.{◌≡◌, ◌≤◌}
use Rattle.std.specs.VecDeque.{deque_capacity, deque_len}
use Rattle.ooo_events.specs.Events.{firings_from, last_before}
use Rattle.ooo_events.proofs.event.drop_before.Given as goal

abbrev pub invariant-loop-first : goal.invariant-loop-first
invariant-loop-first l = record {
  left : firings_from l.below l.firings.items ≡ firings_from l.below l.initial.firings.items;
  last : last_before l.below l.dropped l.firings.items ≡ last_before l.below l.fn.last l.initial.firings.items;
  fewer : deque_len l.firings ≤ deque_len l.initial.firings;
  capacity : deque_capacity l.firings ≡ deque_capacity l.initial.firings;
}

abbrev pub decreases-loop-first : goal.decreases-loop-first
decreases-loop-first l = deque_len l.firings
