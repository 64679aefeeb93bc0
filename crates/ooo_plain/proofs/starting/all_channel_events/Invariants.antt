use Rattle.ooo_plain.specs.Schedule.{lists_of}
use Rattle.ooo_plain.specs.Starting.{AreFirstChannelEvents}
use Rattle.ooo_plain.proofs.starting.all_channel_events.Given as goal

abbrev pub invariant-loop-e : goal.invariant-loop-e
invariant-loop-e l = AreFirstChannelEvents l.design l.e (lists_of l.channel_events.items)
