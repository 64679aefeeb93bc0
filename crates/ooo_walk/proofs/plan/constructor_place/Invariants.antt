use Rattle.std.proofs.Common.{◌≡◌, drop}
use Rattle.std.specs.Prelude.{None}
use Rattle.ooo_walk.specs.Plans.{constructor_from}
use Rattle.ooo_walk.proofs.plan.constructor_place.Given as goal

abbrev pub invariant-parts : goal.invariant-parts
invariant-parts l = constructor_from l.found l.place (drop l.place l.members) ≡ constructor_from None 0 l.members
