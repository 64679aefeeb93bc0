use Rattle.std.proofs.Common.{◌≡◌, ◌++◌, drop}
use Rattle.ooo_walk.specs.Plans.{filed}
use Rattle.ooo_elaborate.specs.Processes.{processes_of}
use Rattle.ooo_elaborate.proofs.processes.all_processes.Given as goal

abbrev pub invariant-parts : goal.invariant-parts
invariant-parts l =
    l.all ++ processes_of (filed l.modules) l.model l.instances (drop l.e-index l.processes)
    ≡ processes_of (filed l.modules) l.model l.instances l.processes
