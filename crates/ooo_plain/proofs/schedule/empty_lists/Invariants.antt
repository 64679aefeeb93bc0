use Rattle.ooo_plain.specs.Schedule.{AreEmpty}
use Rattle.ooo_plain.proofs.schedule.empty_lists.Given as goal

abbrev pub invariant-loop-event : goal.invariant-loop-event
invariant-loop-event l = AreEmpty l._event l.lists.items
