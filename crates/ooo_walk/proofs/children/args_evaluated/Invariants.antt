use Rattle.std.proofs.Common.{◌≡◌, ◌++◌, drop}
use Rattle.ooo_constants.specs.Meanings.{constants_of}
use Rattle.ooo_walk.specs.Instances.{args_evaluated}
use Rattle.ooo_walk.proofs.children.args_evaluated.Given as goal

abbrev pub invariant-parts : goal.invariant-parts
invariant-parts l =
    l.all ++ args_evaluated (constants_of l.known) (drop l.e-index l.args) ≡ args_evaluated (constants_of l.known) l.args
