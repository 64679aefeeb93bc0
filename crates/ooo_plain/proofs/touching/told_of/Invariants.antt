use Rattle.std.specs.Prelude.{◌≡◌, List, take}
use Rattle.ooo_value.specs.declared.bound.BoundEvent.{BoundEvent}
use Rattle.ooo_plain.specs.Shown.{shown_to_nodes}
use Rattle.ooo_plain.proofs.touching.told_of.Given as goal

abbrev pub invariant-loop-node : goal.invariant-loop-node
invariant-loop-node l = (events : List BoundEvent) → l.told.items ≡ shown_to_nodes l.count events (take l.node-index l.nodes)
