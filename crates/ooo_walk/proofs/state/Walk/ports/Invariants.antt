use Rattle.std.proofs.Common.{◌≡◌, drop}
use Rattle.ooo_walk.specs.Members.{port_of}
use Rattle.ooo_walk.specs.States.{in_order}
use Rattle.ooo_walk.proofs.state.Walk.ports.Given as goal

abbrev pub invariant-parts : goal.invariant-parts
invariant-parts l = in_order (port_of l.form) (drop l.e-index l.names) l.self ≡ in_order (port_of l.form) l.names l.initial.self
