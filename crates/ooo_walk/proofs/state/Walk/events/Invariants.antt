use Rattle.std.proofs.Common.{◌≡◌, drop}
use Rattle.ooo_walk.specs.Members.{event_of}
use Rattle.ooo_walk.specs.States.{in_order}
use Rattle.ooo_walk.proofs.state.Walk.events.Given as goal

abbrev pub invariant-parts : goal.invariant-parts
invariant-parts l = in_order event_of (drop l.e-index l.names) l.self ≡ in_order event_of l.names l.initial.self
