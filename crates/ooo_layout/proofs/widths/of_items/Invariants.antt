use Rattle.std.proofs.Common.{◌≡◌, drop}
use Rattle.ooo_shapes.specs.Widths.{both, items_widths}
use Rattle.ooo_layout.proofs.widths.of_items.Given as goal

abbrev pub invariant-parts : goal.invariant-parts
invariant-parts l = both l.all (items_widths (drop l.part-index l.items)) ≡ items_widths l.items
