use Rattle.std.proofs.Common.{◌≡◌, ◌++◌, drop}
use Rattle.ooo_elaborate.specs.Processes.{kinds_of}
use Rattle.ooo_elaborate.proofs.processes.kinds_of.Given as goal

abbrev pub invariant-parts : goal.invariant-parts
invariant-parts l = l.all ++ kinds_of (drop l.e-index l.params) ≡ kinds_of l.params
