use Rattle.std.proofs.Common.{◌≡◌, drop}
use Rattle.ooo_elaborate.specs.Functions.{numbered, numbered_by}
use Rattle.ooo_walk.specs.Plans.{filed}
use Rattle.ooo_elaborate.proofs.functions.number_all.Given as goal

abbrev pub invariant-parts : goal.invariant-parts
invariant-parts l = numbered_by (filed l.modules) (drop l.e-index l.instances) l.all ≡ numbered (filed l.modules) l.instances
