use Rattle.std.proofs.Common.{◌≡◌, drop}
use Rattle.ooo_walk.specs.Instances.{after_args}
use Rattle.ooo_walk.proofs.state.Walk.after_args.Given as goal

abbrev pub invariant-parts : goal.invariant-parts
invariant-parts l = after_args l.name (drop l.e-index l.args) l.self ≡ after_args l.name l.args l.initial.self
