use Rattle.ooo_plain.specs.Schedule.{AreEmpty}
use Rattle.ooo_plain.proofs.starting.no_events.Given as goal

abbrev pub invariant-loop-channel : goal.invariant-loop-channel
invariant-loop-channel l = AreEmpty l._channel l.lists.items
