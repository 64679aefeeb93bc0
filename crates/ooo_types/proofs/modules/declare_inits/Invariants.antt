use Rattle.std.proofs.Common.{◌≡◌, drop}
use Rattle.ooo_types.specs.Modules.{with_inits}
use Rattle.ooo_types.proofs.modules.declare_inits.Given as goal

abbrev pub invariant-parts : goal.invariant-parts
invariant-parts l = with_inits (drop l.e-index l.e-items) l.scopes ≡ with_inits l.e-items l.initial.scopes
