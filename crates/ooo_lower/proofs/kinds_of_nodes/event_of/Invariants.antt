use Rattle.std.proofs.Common.{◌≡◌, drop}
use Rattle.std.specs.List.{position_from}
use Rattle.ooo_lower.specs.Changes.{is_event}
use Rattle.ooo_lower.proofs.kinds_of_nodes.event_of.Given as goal

abbrev pub invariant-events : goal.invariant-events
invariant-events l =
    (l.at ≡ l.event-index)
    × (position_from (is_event l.change l.fifo) l.at (drop l.event-index l.events) ≡ position_from (is_event l.change l.fifo) 0 l.events)
