use Rattle.std.proofs.Common.{◌≡◌, ◌++◌, drop, length}
use Rattle.ooo_shapes.specs.Shapes.{zero_nodes}
use Rattle.ooo_lower.proofs.calls.put_zeros.Given as goal

abbrev pub invariant-slots : goal.invariant-slots
invariant-slots l =
    (l.code.slots ≡ l.initial.code.slots)
    × (l.code.nodes ++ zero_nodes l.line l.slot (drop l.slot l.code.slots) (length l.code.nodes) ≡ l.initial.code.nodes ++ zero_nodes l.line l.first (drop l.first l.initial.code.slots) (length l.initial.code.nodes))
