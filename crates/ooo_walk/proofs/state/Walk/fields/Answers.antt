use Rattle.std.proofs.Common.{◌∙◌, ap}
use Rattle.ooo_checked.specs.Exprs.{kind_written}
use Rattle.ooo_value.specs.declared.kinds.Kind.{Kind}
use Rattle.ooo_walk.specs.Members.{field_of}
use Rattle.ooo_walk.specs.Plans.{viewed}
use Rattle.ooo_walk.proofs.Order.{in_order_more, left_out, one_more}
use Rattle.ooo_walk.proofs.state.Walk.fields.Goals as goal
use Rattle.ooo_walk.proofs.state.Walk.fields.Goals.{then-is_none+in-Ok, else-is_none}

pub parts-preserved : goal.parts-preserved
parts-preserved c =
    let kind : Kind = kind_written c.args.fields.now.form.form in
    let v = viewed c.args.view in
    let is_const = c.args.fields.now.is_const in
    let x = c.e-item.result in
    in_order_more (field_of v is_const kind) c.as_slice-e-items.result.now c.parts.e-index x c.parts.self c.if-is_none.self _ c.parts-test.true c.e-item.is
    (elim c.if-is_none.branch [
      | then-is_none+in-Ok w ↦ one_more (field_of v is_const kind x) c.parts.self c.if-is_none.self c.is_none.result c.is_none.ensures w.if-is_none.true
          (w.self-is ∙ w.in-Ok.ensures ∙ ap (λ k. field_of v is_const k x c.parts.self) c.kind_written-kind.ensures)
      | else-is_none w ↦ left_out (field_of v is_const kind x) c.parts.self c.if-is_none.self c.is_none.result c.is_none.ensures w.if-is_none.false w.self-is
    ])
    c.parts.invariant
