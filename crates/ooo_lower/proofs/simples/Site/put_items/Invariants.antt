use Rattle.std.proofs.Common.{◌≡◌, ◌++◌, length, drop}
use Rattle.ooo_shapes.specs.Simples.{item_nodes}
use Rattle.ooo_lower.proofs.simples.Site.put_items.Given as goal

abbrev pub invariant-parts : goal.invariant-parts
invariant-parts l =
    (l.left ≡ length (drop l.item-index l.items))
    × (l.code.nodes ++ item_nodes l.self.spot.around (drop l.item-index l.items) l.self.spot.line (length l.code.nodes) l.self.spot.next ≡ l.initial.code.nodes ++ item_nodes l.self.spot.around l.items l.self.spot.line (length l.initial.code.nodes) l.self.spot.next)
    × (l.code.slots ≡ l.initial.code.slots)
