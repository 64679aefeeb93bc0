use Rattle.std.proofs.Common.{◌≡◌, drop}
use Rattle.ooo_walk.specs.Plans.{filed}
use Rattle.ooo_walk.specs.States.{in_order}
use Rattle.ooo_walk.specs.Texts.{main_item_of}
use Rattle.ooo_walk.proofs.state.Walk.main_items.Given as goal

abbrev pub invariant-parts : goal.invariant-parts
invariant-parts l =
    in_order (main_item_of (filed l.modules)) (drop l.e-index l.items) l.self
    ≡ in_order (main_item_of (filed l.modules)) l.items l.initial.self
