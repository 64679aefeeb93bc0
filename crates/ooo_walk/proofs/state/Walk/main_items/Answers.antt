use Rattle.std.proofs.Common.{◌∙◌}
use Rattle.ooo_walk.specs.Plans.{filed}
use Rattle.ooo_walk.specs.Texts.{main_item_of}
use Rattle.ooo_walk.proofs.Order.{in_order_more, left_out, one_more}
use Rattle.ooo_walk.proofs.state.Walk.main_items.Goals as goal
use Rattle.ooo_walk.proofs.state.Walk.main_items.Goals.{then-is_none+in-Ok, else-is_none}

pub parts-preserved : goal.parts-preserved
parts-preserved c =
    let f = filed c.args.modules in
    let x = c.e-item.result in
    in_order_more (main_item_of f) c.args.items.now c.parts.e-index x c.parts.self c.if-is_none.self _ c.parts-test.true c.e-item.is
    (elim c.if-is_none.branch [
      | then-is_none+in-Ok w ↦ one_more (main_item_of f x) c.parts.self c.if-is_none.self c.is_none.result c.is_none.ensures w.if-is_none.true (w.self-is ∙ w.in-Ok.ensures)
      | else-is_none w ↦ left_out (main_item_of f x) c.parts.self c.if-is_none.self c.is_none.result c.is_none.ensures w.if-is_none.false w.self-is
    ])
    c.parts.invariant
