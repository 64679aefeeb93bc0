use Rattle.std.proofs.Common.{◌≡◌, ◌++◌, drop}
use Rattle.ooo_walk.specs.Plans.{plans_from}
use Rattle.ooo_walk.proofs.plan.plans.Given as goal

abbrev pub invariant-parts : goal.invariant-parts
invariant-parts l = l.all ++ plans_from l.place (drop l.place l.items) ≡ plans_from 0 l.items
