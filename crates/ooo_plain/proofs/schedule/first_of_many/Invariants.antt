use Rattle.std.specs.Prelude.{◌≤◌, length, drop}
use Rattle.ooo_plain.specs.Schedule.{IsLeastOf}
use Rattle.ooo_plain.proofs.schedule.first_of_many.Given as goal

abbrev pub invariant-events : goal.invariant-events
invariant-events l = record {
  within : l.left ≤ length l.events;
  found : IsLeastOf l.bank l.now (drop l.left l.events) l.found;
}

abbrev pub decreases-events : goal.decreases-events
decreases-events l = l.left
