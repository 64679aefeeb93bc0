use Rattle.std.proofs.Common.{◌≡◌, drop}
use Rattle.ooo_types.specs.Modules.{params_count}
use Rattle.ooo_types.proofs.modules.params_count.Given as goal

abbrev pub invariant-parts : goal.invariant-parts
invariant-parts l = params_count (drop l.e-index l.members) ≡ params_count l.members
