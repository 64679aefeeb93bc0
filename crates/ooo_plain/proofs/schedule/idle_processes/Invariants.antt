use Rattle.ooo_plain.specs.Schedule.{AreIdle}
use Rattle.ooo_plain.proofs.schedule.idle_processes.Given as goal

abbrev pub invariant-loop-process : goal.invariant-loop-process
invariant-loop-process l = AreIdle l._process l.awaited.items
