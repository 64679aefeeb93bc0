use Rattle.std.proofs.Common.{◌≡◌, drop, replicate}
use Rattle.std.specs.Prelude.{None}
use Rattle.ooo_walk.specs.Plans.{counted_from}
use Rattle.ooo_walk.proofs.plan.count_inits.Given as goal

abbrev pub invariant-parts : goal.invariant-parts
invariant-parts l = counted_from l.table l.place (drop l.place l.inits) ≡ counted_from (replicate l.names None) 0 l.inits
