use Rattle.std.proofs.Common.{◌≡◌, drop}
use Rattle.ooo_elaborate.specs.Bindings.{unbound_from}
use Rattle.ooo_elaborate.proofs.bindings.unbound.Given as goal

abbrev pub invariant-parts : goal.invariant-parts
invariant-parts l = unbound_from l.place (drop l.place l.ports) l.ends ≡ unbound_from 0 l.ports l.ends
