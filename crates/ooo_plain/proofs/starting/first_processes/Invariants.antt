use Rattle.std.specs.Prelude.{take}
use Rattle.ooo_plain.specs.Starting.{AreFirstProcesses}
use Rattle.ooo_plain.proofs.starting.first_processes.Given as goal

abbrev pub invariant-loop-process : goal.invariant-loop-process
invariant-loop-process l = AreFirstProcesses (take l.process-index l.bound) l.made.items
