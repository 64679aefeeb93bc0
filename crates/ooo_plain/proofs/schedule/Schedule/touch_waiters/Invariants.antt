use Rattle.std.specs.Prelude.{◌≡◌, ◌≤◌, length}
use Rattle.ooo_plain.specs.Schedule.{TouchedSoFar, waiting_on}
use Rattle.ooo_plain.proofs.schedule.Schedule.touch_waiters.Given as goal

abbrev pub invariant-loop-i : goal.invariant-loop-i
invariant-loop-i l = record {
  end : l.count ≡ length (waiting_on l.fn.self l.e);
  within : l.i ≤ l.count;
  so_far : TouchedSoFar l.e l.i l.bank l.now l.fn.self l.self;
}
