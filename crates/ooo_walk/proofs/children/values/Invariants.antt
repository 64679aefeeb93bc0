use Rattle.std.proofs.Common.{◌≡◌, ◌++◌, drop}
use Rattle.ooo_walk.specs.Instances.{values_from}
use Rattle.ooo_walk.proofs.children.values.Given as goal

abbrev pub invariant-parts : goal.invariant-parts
invariant-parts l = l.all ++ values_from l.params l.place (drop l.place l.args) ≡ values_from l.params 0 l.args
