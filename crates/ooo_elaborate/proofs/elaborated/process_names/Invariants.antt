use Rattle.std.proofs.Common.{◌≡◌, ◌++◌, drop}
use Rattle.ooo_elaborate.specs.Elaborated.{process_names}
use Rattle.ooo_elaborate.proofs.elaborated.process_names.Given as goal

abbrev pub invariant-parts : goal.invariant-parts
invariant-parts l = l.all ++ process_names (drop l.e-index l.processes) ≡ process_names l.processes
