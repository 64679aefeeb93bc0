use Rattle.std.proofs.Common.{◌≡◌, drop}
use Rattle.ooo_types.specs.Modules.{initialised_by}
use Rattle.ooo_types.proofs.modules.declare_initialised.Given as goal

abbrev pub invariant-parts : goal.invariant-parts
invariant-parts l = initialised_by (drop l.e-index l.e-items) l.scopes ≡ initialised_by l.e-items l.initial.scopes
