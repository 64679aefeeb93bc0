use Rattle.std.proofs.Common.{◌∙◌, ap}
use Rattle.ooo_checked.specs.Exprs.{kind_written}
use Rattle.ooo_value.specs.declared.kinds.Kind.{Kind}
use Rattle.ooo_walk.specs.Members.{part_of}
use Rattle.ooo_walk.specs.Plans.{viewed}
use Rattle.ooo_walk.proofs.Order.{in_order_more, left_out, one_more}
use Rattle.ooo_walk.proofs.state.Walk.parts.Goals as goal
use Rattle.ooo_walk.proofs.state.Walk.parts.Goals.{then-is_none+in-Ok, else-is_none}

pub parts-preserved : goal.parts-preserved
parts-preserved c =
    let kind : Kind = kind_written c.args.channels.now.form.form in
    let v = viewed c.args.view in
    let word = c.args.channels.now.channel in
    let x = c.e-item.result in
    in_order_more (part_of v word kind) c.as_slice-e-items.result.now c.parts.e-index x c.parts.self c.if-is_none.self _ c.parts-test.true c.e-item.is
    (elim c.if-is_none.branch [
      | then-is_none+in-Ok w ↦ one_more (part_of v word kind x) c.parts.self c.if-is_none.self c.is_none.result c.is_none.ensures w.if-is_none.true
          (w.self-is ∙ w.in-Ok.ensures ∙ ap (λ k. part_of v word k x c.parts.self) c.kind_written-kind.ensures)
      | else-is_none w ↦ left_out (part_of v word kind x) c.parts.self c.if-is_none.self c.is_none.result c.is_none.ensures w.if-is_none.false w.self-is
    ])
    c.parts.invariant
