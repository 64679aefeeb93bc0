use Rattle.std.proofs.Common.{◌≡◌, drop}
use Rattle.ooo_elaborate.specs.Processes.{initialized_by}
use Rattle.ooo_elaborate.proofs.processes.initialized.Given as goal

abbrev pub invariant-parts : goal.invariant-parts
invariant-parts l = initialized_by (drop l.e-index l.setups) ≡ initialized_by l.setups
