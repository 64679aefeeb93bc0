-- Equations of lowered expressions, form by form.
use Rattle.std.proofs.Common.{◌≡◌, ◌∙◌, ap, subst, sym, ℕ, Bool, Result}
use Rattle.std.specs.Prelude.{IfOk}
use Rattle.std.specs.declared.alloc.AllocError.{AllocError}
use Rattle.ooo_value.specs.declared.kinds.Kind.{Kind}
use Rattle.ooo_value.specs.declared.operators.Op.{Op}
use Rattle.ooo_value.specs.declared.values.Value.{Value}
use Rattle.ooo_bound.specs.declared.expr.BoundExpr.{BoundExpr, BoundExpr-F, map-BoundExpr, roll-BoundExpr, fold-roll-BoundExpr}
use Rattle.ooo_bound.specs.declared.expr.BoundExpr.TheOpen as layer
use Rattle.ooo_bound.specs.declared.expr.BoundExpr.TheVariants as tree
use Rattle.ooo_code.specs.declared.expression.NodeExpr.{NodeExpr}
use Rattle.ooo_code.specs.declared.expression.NodeExpr.TheVariants as node
use Rattle.ooo_shapes.specs.declared.around.Around.{Around}
use Rattle.ooo_shapes.specs.Expressions.{kept, lowered, lowered_step, slot_of}

-- an expression by its form
at_layer : (t : Around) (y : BoundExpr-F BoundExpr) →
    lowered t (roll-BoundExpr y) ≡ lowered_step t (map-BoundExpr BoundExpr NodeExpr (lowered t) y)
unfolding lowered
at_layer t y = fold-roll-BoundExpr NodeExpr (lowered_step t) y

module _ (t : Around) where
  pub lowered-Constant : (v : Value) → lowered t (tree.Constant v) ≡ node.Constant v
  lowered-Constant v = ap (lowered t) (sym (tree.rolls-Constant v)) ∙ at_layer t (layer.Constant v)

  pub lowered-Local : (k : Kind) (n : ℕ) → lowered t (tree.Local k n) ≡ node.Slot (slot_of t k n)
  lowered-Local k n = ap (lowered t) (sym (tree.rolls-Local k n)) ∙ at_layer t (layer.Local k n)

  pub lowered-Variable : (x : ℕ) → lowered t (tree.Variable x) ≡ node.Variable x
  lowered-Variable x = ap (lowered t) (sym (tree.rolls-Variable x)) ∙ at_layer t (layer.Variable x)

  pub lowered-Element : (x : ℕ) (i : BoundExpr) → lowered t (tree.Element x i) ≡ node.Element x (lowered t i)
  lowered-Element x i = ap (lowered t) (sym (tree.rolls-Element x i)) ∙ at_layer t (layer.Element x i)

  pub lowered-Signal : (c : ℕ) → lowered t (tree.Signal c) ≡ node.Signal c
  lowered-Signal c = ap (lowered t) (sym (tree.rolls-Signal c)) ∙ at_layer t (layer.Signal c)

  pub lowered-Changed : (c : ℕ) → lowered t (tree.Changed c) ≡ node.Event c
  lowered-Changed c = ap (lowered t) (sym (tree.rolls-Changed c)) ∙ at_layer t (layer.Changed c)

  pub lowered-Edge : (c : ℕ) (up : Bool) → lowered t (tree.Edge c up) ≡ node.Edge c up
  lowered-Edge c up = ap (lowered t) (sym (tree.rolls-Edge c up)) ∙ at_layer t (layer.Edge c up)

  pub lowered-Available : (c : ℕ) → lowered t (tree.Available c) ≡ node.Available c
  lowered-Available c = ap (lowered t) (sym (tree.rolls-Available c)) ∙ at_layer t (layer.Available c)

  pub lowered-Free : (c : ℕ) → lowered t (tree.Free c) ≡ node.Free c
  lowered-Free c = ap (lowered t) (sym (tree.rolls-Free c)) ∙ at_layer t (layer.Free c)

  pub lowered-Convert : (k : Kind) (e : BoundExpr) → lowered t (tree.Convert k e) ≡ node.Convert k (lowered t e)
  lowered-Convert k e = ap (lowered t) (sym (tree.rolls-Convert k e)) ∙ at_layer t (layer.Convert k e)

  pub lowered-Promote : (e : BoundExpr) → lowered t (tree.Promote e) ≡ kept (lowered t e)
  lowered-Promote e = ap (lowered t) (sym (tree.rolls-Promote e)) ∙ at_layer t (layer.Promote e)

  pub lowered-Negate : (e : BoundExpr) → lowered t (tree.Negate e) ≡ node.Negate (lowered t e)
  lowered-Negate e = ap (lowered t) (sym (tree.rolls-Negate e)) ∙ at_layer t (layer.Negate e)

  pub lowered-Invert : (e : BoundExpr) → lowered t (tree.Invert e) ≡ node.Invert (lowered t e)
  lowered-Invert e = ap (lowered t) (sym (tree.rolls-Invert e)) ∙ at_layer t (layer.Invert e)

  pub lowered-Not : (e : BoundExpr) → lowered t (tree.Not e) ≡ node.Not (lowered t e)
  lowered-Not e = ap (lowered t) (sym (tree.rolls-Not e)) ∙ at_layer t (layer.Not e)

  pub lowered-Binary : (op : Op) (a b : BoundExpr) → lowered t (tree.Binary op a b) ≡ node.Binary op (lowered t a) (lowered t b)
  lowered-Binary op a b = ap (lowered t) (sym (tree.rolls-Binary op a b)) ∙ at_layer t (layer.Binary op a b)

  pub lowered-Both : (a b : BoundExpr) → lowered t (tree.Both a b) ≡ node.And (lowered t a) (lowered t b)
  lowered-Both a b = ap (lowered t) (sym (tree.rolls-Both a b)) ∙ at_layer t (layer.Both a b)

  pub lowered-Either : (a b : BoundExpr) → lowered t (tree.Either a b) ≡ node.Or (lowered t a) (lowered t b)
  lowered-Either a b = ap (lowered t) (sym (tree.rolls-Either a b)) ∙ at_layer t (layer.Either a b)

  pub lowered-Choose : (k : Kind) (c a b : BoundExpr) → lowered t (tree.Choose k c a b) ≡ node.Choose (lowered t c) (node.Convert k (lowered t a)) (node.Convert k (lowered t b))
  lowered-Choose k c a b = ap (lowered t) (sym (tree.rolls-Choose k c a b)) ∙ at_layer t (layer.Choose k c a b)

-- what was made is the lowered expression, where it is so of its form
module _ (t : Around) (e : BoundExpr) {e' : BoundExpr} {w : NodeExpr} (is : e ≡ e') (by : lowered t e' ≡ w) where
  formed : lowered t e ≡ w
  formed = ap (lowered t) is ∙ by

  pub formed-tree : (r : NodeExpr) → r ≡ w → r ≡ lowered t e
  formed-tree r h = h ∙ sym formed

  pub formed-result : (r : Result NodeExpr AllocError) → IfOk r (λ x. x ≡ w) → IfOk r (λ x. x ≡ lowered t e)
  formed-result r = subst (λ w. IfOk r (λ x. x ≡ w)) (sym formed)
