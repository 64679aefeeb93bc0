-- An expression in a node reads what the expression of the model reads.
use Rattle.std.proofs.Common.{◌≡◌, ℕ, List, [], ◌∷◌, ◌++◌, Bool, Option, Some, None, refl, sym, ap, ap₂, ◌∙◌, subst, append-nil}
use Rattle.std.specs.Prelude.{pos, true}
use Rattle.ooo_value.specs.declared.kinds.Kind.{Kind}
use Rattle.ooo_value.specs.declared.operators.Op.{Op}
use Rattle.ooo_value.specs.declared.operators.Op.TheVariants as op
use Rattle.ooo_value.specs.declared.values.Value.{Value}
use Rattle.ooo_value.specs.declared.values.Value.TheVariants as value
use Rattle.ooo_value.specs.Values.{conversion_of}
use Rattle.ooo_code.specs.declared.expression.NodeExpr.{NodeExpr, NodeExpr-F, map-NodeExpr, roll-NodeExpr, out-NodeExpr, roll-out-NodeExpr, fold-roll-NodeExpr}
use Rattle.ooo_code.specs.declared.expression.NodeExpr.TheVariants as node
use Rattle.ooo_code.specs.declared.expression.NodeExpr.TheOpen as node_layer
use Rattle.ooo_code.specs.Touches.{Touch, Reads, ReadsSignal, HoldsReading, HoldsWriting}
use Rattle.ooo_code.specs.Touches as code
use Rattle.ooo_bound.specs.declared.expr.BoundExpr.{BoundExpr, BoundExpr-F, ind-BoundExpr, map-BoundExpr, roll-BoundExpr, fold-roll-BoundExpr}
use Rattle.ooo_bound.specs.declared.expr.BoundExpr.TheVariants as bound
use Rattle.ooo_bound.specs.declared.expr.BoundExpr.TheOpen as layer
use Rattle.ooo_bound.specs.declared.expr.BoundTime.{BoundTime}
use Rattle.ooo_bound.specs.declared.expr.BoundTime.TheVariants as time
use Rattle.ooo_activation.specs.Touches as text
use Rattle.ooo_shapes.specs.declared.around.Around.{Around}
use Rattle.ooo_shapes.specs.Expressions.{slot_of, kept, lowered, lowered_step, converted, converted_step, lowered_time, lowered_wait_time}
use Rattle.ooo_shapes.specs.Shapes.{test_or_true}

-- ---- expressions in nodes, form by form

abbrev pub reads : NodeExpr → List Touch
reads e = code.reads_of e

reads_at : (y : NodeExpr-F NodeExpr) → reads (roll-NodeExpr y) ≡ code.reads_step (map-NodeExpr NodeExpr (List Touch) code.reads_of y)
unfolding code.reads_of
reads_at y = fold-roll-NodeExpr (List Touch) code.reads_step y

pub reads_Constant : (v : Value) → reads (node.Constant v) ≡ []
reads_Constant v = ap reads (sym (node.rolls-Constant v)) ∙ reads_at (node_layer.Constant v)

pub reads_Slot : (n : ℕ) → reads (node.Slot n) ≡ []
reads_Slot n = ap reads (sym (node.rolls-Slot n)) ∙ reads_at (node_layer.Slot n)

pub reads_Variable : (x : ℕ) → reads (node.Variable x) ≡ Reads x ∷ []
reads_Variable x = ap reads (sym (node.rolls-Variable x)) ∙ reads_at (node_layer.Variable x)

pub reads_Element : (x : ℕ) (i : NodeExpr) → reads (node.Element x i) ≡ Reads x ∷ reads i
reads_Element x i = ap reads (sym (node.rolls-Element x i)) ∙ reads_at (node_layer.Element x i)

pub reads_Signal : (c : ℕ) → reads (node.Signal c) ≡ ReadsSignal c ∷ []
reads_Signal c = ap reads (sym (node.rolls-Signal c)) ∙ reads_at (node_layer.Signal c)

reads_Event : (c : ℕ) → reads (node.Event c) ≡ ReadsSignal c ∷ []
reads_Event c = ap reads (sym (node.rolls-Event c)) ∙ reads_at (node_layer.Event c)

reads_Edge : (c : ℕ) (up : Bool) → reads (node.Edge c up) ≡ ReadsSignal c ∷ []
reads_Edge c up = ap reads (sym (node.rolls-Edge c up)) ∙ reads_at (node_layer.Edge c up)

reads_Available : (c : ℕ) → reads (node.Available c) ≡ HoldsReading c ∷ []
reads_Available c = ap reads (sym (node.rolls-Available c)) ∙ reads_at (node_layer.Available c)

reads_Free : (c : ℕ) → reads (node.Free c) ≡ HoldsWriting c ∷ []
reads_Free c = ap reads (sym (node.rolls-Free c)) ∙ reads_at (node_layer.Free c)

reads_Convert : (k : Kind) (e : NodeExpr) → reads (node.Convert k e) ≡ reads e
reads_Convert k e = ap reads (sym (node.rolls-Convert k e)) ∙ reads_at (node_layer.Convert k e)

reads_Negate : (e : NodeExpr) → reads (node.Negate e) ≡ reads e
reads_Negate e = ap reads (sym (node.rolls-Negate e)) ∙ reads_at (node_layer.Negate e)

reads_Invert : (e : NodeExpr) → reads (node.Invert e) ≡ reads e
reads_Invert e = ap reads (sym (node.rolls-Invert e)) ∙ reads_at (node_layer.Invert e)

reads_Not : (e : NodeExpr) → reads (node.Not e) ≡ reads e
reads_Not e = ap reads (sym (node.rolls-Not e)) ∙ reads_at (node_layer.Not e)

pub reads_Binary : (o : Op) (a b : NodeExpr) → reads (node.Binary o a b) ≡ reads a ++ reads b
reads_Binary o a b = ap reads (sym (node.rolls-Binary o a b)) ∙ reads_at (node_layer.Binary o a b)

reads_And : (a b : NodeExpr) → reads (node.And a b) ≡ reads a ++ reads b
reads_And a b = ap reads (sym (node.rolls-And a b)) ∙ reads_at (node_layer.And a b)

reads_Or : (a b : NodeExpr) → reads (node.Or a b) ≡ reads a ++ reads b
reads_Or a b = ap reads (sym (node.rolls-Or a b)) ∙ reads_at (node_layer.Or a b)

reads_Choose : (c a b : NodeExpr) → reads (node.Choose c a b) ≡ reads c ++ reads a ++ reads b
reads_Choose c a b = ap reads (sym (node.rolls-Choose c a b)) ∙ reads_at (node_layer.Choose c a b)

-- ---- a converted value

converted_form : (k : Kind) (y : NodeExpr-F NodeExpr) (e : NodeExpr) → roll-NodeExpr y ≡ e → reads (converted_step k y e) ≡ reads e
converted_form k (node_layer.Constant v) e is =
    reads_Constant (conversion_of v k) ∙ sym (sym (ap reads (sym (node.rolls-Constant v) ∙ is)) ∙ reads_Constant v)
converted_form k _ e is = reads_Convert k e

-- a converted expression reads what it reads without
pub converted_reads : (k : Kind) (e : NodeExpr) → reads (converted k e) ≡ reads e
converted_reads k e = converted_form k (out-NodeExpr e) e (roll-out-NodeExpr e)

kept_reads : (e : NodeExpr) → reads (kept e) ≡ reads e
kept_reads e =
    reads_Binary op.ShiftLeft e (node.Constant (value.Int (pos 0)))
    ∙ ap (λ xs. reads e ++ xs) (reads_Constant (value.Int (pos 0)))
    ∙ append-nil (reads e)

-- ---- expressions of the model

text_reads_at : (x : BoundExpr-F BoundExpr) → text.reads_of (roll-BoundExpr x) ≡ text.reads_step (map-BoundExpr BoundExpr (List Touch) text.reads_of x)
unfolding text.reads_of
text_reads_at x = fold-roll-BoundExpr (List Touch) text.reads_step x

lowered_at : (t : Around) (x : BoundExpr-F BoundExpr) → lowered t (roll-BoundExpr x) ≡ lowered_step t (map-BoundExpr BoundExpr NodeExpr (lowered t) x)
unfolding lowered
lowered_at t x = fold-roll-BoundExpr NodeExpr (lowered_step t) x

module _ (t : Around) where
  abbrev P : BoundExpr → Type 0
  P e = reads (lowered t e) ≡ text.reads_of e

  abbrev Shown : Type 0
  Shown = (e : BoundExpr) × P e

  abbrev expr_in : Shown → BoundExpr
  expr_in p = p.0

  abbrev low : Shown → NodeExpr
  low e = lowered t e.0

  by_layer : (x : BoundExpr-F BoundExpr) → reads (lowered_step t (map-BoundExpr BoundExpr NodeExpr (lowered t) x)) ≡ text.reads_step (map-BoundExpr BoundExpr (List Touch) text.reads_of x) → P (roll-BoundExpr x)
  by_layer x h = ap reads (lowered_at t x) ∙ h ∙ sym (text_reads_at x)

  both_same : (a b : Shown) → reads (low a) ++ reads (low b) ≡ text.reads_of a.0 ++ text.reads_of b.0
  both_same a b = ap₂ (λ xs ys. xs ++ ys) a.1 b.1

  layer_same : (y : BoundExpr-F Shown) → P (roll-BoundExpr (map-BoundExpr Shown BoundExpr expr_in y))
  layer_same (layer.Constant v) = by_layer (layer.Constant v) (reads_Constant v)
  layer_same (layer.Local k n) = by_layer (layer.Local k n) (reads_Slot (slot_of t k n))
  layer_same (layer.Variable x) = by_layer (layer.Variable x) (reads_Variable x)
  layer_same (layer.Element x i) = by_layer (layer.Element x i.0) (reads_Element x (low i) ∙ ap (λ xs. Reads x ∷ xs) i.1)
  layer_same (layer.Signal c) = by_layer (layer.Signal c) (reads_Signal c)
  layer_same (layer.Changed c) = by_layer (layer.Changed c) (reads_Event c)
  layer_same (layer.Edge c up) = by_layer (layer.Edge c up) (reads_Edge c up)
  layer_same (layer.Available c) = by_layer (layer.Available c) (reads_Available c)
  layer_same (layer.Free c) = by_layer (layer.Free c) (reads_Free c)
  layer_same (layer.Convert k e) = by_layer (layer.Convert k e.0) (reads_Convert k (low e) ∙ e.1)
  layer_same (layer.Promote e) = by_layer (layer.Promote e.0) (kept_reads (low e) ∙ e.1)
  layer_same (layer.Negate e) = by_layer (layer.Negate e.0) (reads_Negate (low e) ∙ e.1)
  layer_same (layer.Invert e) = by_layer (layer.Invert e.0) (reads_Invert (low e) ∙ e.1)
  layer_same (layer.Not e) = by_layer (layer.Not e.0) (reads_Not (low e) ∙ e.1)
  layer_same (layer.Binary o a b) = by_layer (layer.Binary o a.0 b.0) (reads_Binary o (low a) (low b) ∙ both_same a b)
  layer_same (layer.Both a b) = by_layer (layer.Both a.0 b.0) (reads_And (low a) (low b) ∙ both_same a b)
  layer_same (layer.Either a b) = by_layer (layer.Either a.0 b.0) (reads_Or (low a) (low b) ∙ both_same a b)
  layer_same (layer.Choose k c a b) =
      by_layer (layer.Choose k c.0 a.0 b.0)
      (reads_Choose (low c) (node.Convert k (low a)) (node.Convert k (low b))
      ∙ ap₂ (λ xs ys. xs ++ ys) (ap₂ (λ xs ys. xs ++ ys) c.1 (reads_Convert k (low a) ∙ a.1)) (reads_Convert k (low b) ∙ b.1))

  -- an expression lowered reads what it reads
  pub reads_same : (e : BoundExpr) → P e
  reads_same = ind-BoundExpr P (λ x y e. subst (λ x. P (roll-BoundExpr x)) e (layer_same y))

  pub time_reads_same : (k : BoundTime) → code.time_reads (lowered_time t k) ≡ text.time_reads k
  time_reads_same (time.Fixed k) = refl
  time_reads_same (time.Amount e scale) = reads_same e

  pub wait_reads_same : (k : Option BoundTime) → code.wait_reads (lowered_wait_time t k) ≡ text.wait_reads k
  wait_reads_same None = refl
  wait_reads_same (Some k) = time_reads_same k

  pub delay_same : (k : BoundTime) → code.constant_delay (lowered_time t k) ≡ text.constant_delay k
  delay_same (time.Fixed k) = refl
  delay_same (time.Amount e scale) = refl

  -- the test of a loop
  pub test_reads : (e : Option BoundExpr) → reads (lowered t (test_or_true e)) ≡ text.option_reads e
  test_reads None = reads_same (bound.Constant (value.Bool true)) ∙ ap text.reads_of (sym (bound.rolls-Constant (value.Bool true))) ∙ text_reads_at (layer.Constant (value.Bool true))
  test_reads (Some e) = reads_same e
