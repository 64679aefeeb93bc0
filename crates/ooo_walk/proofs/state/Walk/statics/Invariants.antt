use Rattle.std.proofs.Common.{◌≡◌, drop}
use Rattle.ooo_walk.specs.Members.{statics_of}
use Rattle.ooo_walk.specs.Plans.{viewed}
use Rattle.ooo_walk.proofs.state.Walk.statics.Given as goal

abbrev pub invariant-parts : goal.invariant-parts
invariant-parts l = statics_of (viewed l.view) (drop l.e-index l.members) l.self ≡ statics_of (viewed l.view) l.members l.initial.self
