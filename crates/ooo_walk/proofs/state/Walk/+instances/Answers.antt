use Rattle.std.proofs.Common.{◌≡◌, ◌∙◌, ◌-◌, ap, subst, sym, OnOk}
use Rattle.ooo_walk.specs.declared.state.Walk.{Walk}
use Rattle.ooo_walk.specs.Instances.{args_evaluated, child_of, inside_of, member_of, walked_with}
use Rattle.ooo_walk.specs.Plans.{filed, init_args, view_at, viewed}
use Rattle.ooo_walk.specs.States.{known_here}
use Rattle.ooo_walk.proofs.Instances.{child_is, instance_is}
use Rattle.ooo_walk.proofs.Levels.{inside_step}
use Rattle.ooo_walk.proofs.Order.{in_order_more, left_out, one_more}
use Rattle.ooo_walk.proofs.state.Walk.+instances.Goals as goal
use Rattle.ooo_walk.proofs.state.Walk.+instances.Goals.{members-then-is_none+in-Ok, members-else-is_none, children-then-is_none+in-Ok, children-else-is_none}

pub inside-returns : goal.inside-returns
inside-returns t c =
    subst (λ (w : Walk). OnOk c.walked.result (c.walked.new.self ≡ w))
    (ap (λ v. walked_with (inside_of (c.args.levels - 1) (filed c.args.modules)) (filed c.args.modules) v c.args.self.now) c.view.ensures
    ∙ sym (inside_step c.args.levels (filed c.args.modules) c.args.number c.args.self.now c.if-levels-eq0.false))
    c.walked.ensures

pub instance-returns : goal.instance-returns
instance-returns t c =
    subst (λ (w : Walk). OnOk c.instance_of.result (c.instance_of.new.self ≡ w))
    (instance_is (inside_of c.args.levels (filed c.args.modules)) (view_at (filed c.args.modules) c.args.number)
    (viewed c.view-view.result) c.args.number c.args.word.now c.args.declared.now c.args.initial.now
    c.counting.result.now c.args.self.now c.add_object.new.self c.after_args.new.self c.after_args-2.new.self
    c.in-Ok.found c.in-Ok-values.found c.entered.result c.in-Ok.ensures c.in-Ok-add_object.ensures
    c.in-Ok-after_args.ensures c.in-Ok-after_args-2.ensures c.view-view.ensures c.counting.ensures
    c.in-Ok-values.ensures c.entered.ensures)
    c.instance_of.ensures

pub child-returns : goal.child-returns
child-returns t c =
    subst (λ (w : Walk). OnOk c.instance.result (c.instance.new.self ≡ w))
    (child_is (inside_of c.args.levels (filed c.args.modules)) (filed c.args.modules) (viewed c.args.view) c.args.number
    c.args.part.now c.args.self.now c.as_slice.result.now c.as_slice-2.result.now
    (c.as_slice.ensures ∙ c.in-Ok.ensures ∙ ap (λ k. args_evaluated k c.args_given.result.now) c.known.ensures
    ∙ ap (args_evaluated (known_here c.args.self.now)) c.args_given.ensures)
    (c.as_slice-2.ensures ∙ c.in-Ok-args_evaluated.ensures ∙ ap (λ k. args_evaluated k c.init_args-given.result.now) c.known-2.ensures
    ∙ ap (args_evaluated (known_here c.args.self.now)) (c.init_args-given.ensures ∙ ap (init_args (viewed c.args.view)) c.len.ensures)))
    c.instance.ensures

pub members-parts-preserved : goal.members-parts-preserved
members-parts-preserved t c =
    let f = filed c.args.modules in
    let inside = inside_of c.args.levels f in
    let v = viewed c.args.view in
    let x = c.e-item.result in
    in_order_more (member_of inside f v) c.args.view.members.now c.parts.e-index x c.parts.self c.if-is_none.self _ c.parts-test.true c.e-item.is
    (elim c.if-is_none.branch [
      | members-then-is_none+in-Ok w ↦ one_more (member_of inside f v x) c.parts.self c.if-is_none.self c.is_none.result c.is_none.ensures w.if-is_none.true (w.self-is ∙ w.in-Ok.ensures)
      | members-else-is_none w ↦ left_out (member_of inside f v x) c.parts.self c.if-is_none.self c.is_none.result c.is_none.ensures w.if-is_none.false w.self-is
    ])
    c.parts.invariant

pub children-parts-preserved : goal.children-parts-preserved
children-parts-preserved t c =
    let f = filed c.args.modules in
    let inside = inside_of c.args.levels f in
    let v = viewed c.args.view in
    let n = c.args.children.now.module_name.denotes.number in
    let x = c.e-item.result in
    in_order_more (child_of inside f v n) c.as_slice-e-items.result.now c.parts.e-index x c.parts.self c.if-is_none.self _ c.parts-test.true c.e-item.is
    (elim c.if-is_none.branch [
      | children-then-is_none+in-Ok w ↦ one_more (child_of inside f v n x) c.parts.self c.if-is_none.self c.is_none.result c.is_none.ensures w.if-is_none.true (w.self-is ∙ w.in-Ok.ensures)
      | children-else-is_none w ↦ left_out (child_of inside f v n x) c.parts.self c.if-is_none.self c.is_none.result c.is_none.ensures w.if-is_none.false w.self-is
    ])
    c.parts.invariant
