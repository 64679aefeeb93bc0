use Rattle.std.proofs.Common.{◌≡◌, drop}
use Rattle.ooo_elaborate.specs.Ends.{items_hold}
use Rattle.ooo_elaborate.proofs.ends.hold_items.Given as goal

abbrev pub invariant-parts : goal.invariant-parts
invariant-parts l = items_hold l.process (drop l.part-index l.items) l.all ≡ items_hold l.process l.items l.initial.all
