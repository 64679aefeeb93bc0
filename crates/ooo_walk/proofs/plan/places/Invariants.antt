use Rattle.std.proofs.Common.{◌≡◌, ◌++◌, drop}
use Rattle.ooo_walk.specs.Plans.{places_from}
use Rattle.ooo_walk.proofs.plan.places.Given as goal

abbrev pub invariant-parts : goal.invariant-parts
invariant-parts l = l.all ++ places_from l.place (drop l.place l.members) ≡ places_from 0 l.members
