use Rattle.std.proofs.Common.{◌≡◌, ◌++◌, drop}
use Rattle.ooo_walk.specs.Plans.{filed}
use Rattle.ooo_elaborate.specs.Processes.{functions_of}
use Rattle.ooo_elaborate.proofs.processes.all_functions.Given as goal

abbrev pub invariant-parts : goal.invariant-parts
invariant-parts l =
    l.all ++ functions_of (filed l.modules) l.model l.instances (drop l.e-index l.functions)
    ≡ functions_of (filed l.modules) l.model l.instances l.functions
