use Rattle.std.proofs.Common.{◌≡◌, drop}
use Rattle.ooo_walk.specs.States.{in_order}
use Rattle.ooo_walk.specs.Texts.{item_of}
use Rattle.ooo_walk.proofs.state.Walk.file_items.Given as goal

abbrev pub invariant-parts : goal.invariant-parts
invariant-parts l = in_order item_of (drop l.e-index l.items) l.self ≡ in_order item_of l.items l.initial.self
