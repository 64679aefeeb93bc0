-- An expression gives the same over locals and over slots.
use Rattle.std.proofs.Common.{◌≡◌, ℕ, ◌<◌, List, Bool, true, false, if◌then◌else◌, Option, Some, None, Ok, Err, refl, sym, ap, ap₂, ◌∙◌, subst, get_or}
use Rattle.std.specs.Prelude.{pos}
use Rattle.std.proofs.Math.IntN.{one, *ℤ-one}
use Rattle.ooo_value.specs.declared.kinds.Kind.{Kind}
use Rattle.ooo_value.specs.declared.kinds.Kind.TheVariants as kind
use Rattle.ooo_value.specs.declared.operators.Op.{Op}
use Rattle.ooo_value.specs.declared.operators.Op.TheVariants as op
use Rattle.ooo_value.specs.declared.values.Value.{Value}
use Rattle.ooo_value.specs.declared.values.Value.TheVariants as value
use Rattle.ooo_value.specs.Operators.{Answer, binary_of}
use Rattle.ooo_value.specs.Values.{value_of, conversion_of, truth_of}
use Rattle.ooo_code.specs.declared.activation.Seen.{Seen}
use Rattle.ooo_code.specs.declared.expression.NodeExpr.{NodeExpr, NodeExpr-F, map-NodeExpr, roll-NodeExpr, out-NodeExpr, roll-out-NodeExpr, fold-roll-NodeExpr}
use Rattle.ooo_code.specs.declared.expression.NodeExpr.TheVariants as node
use Rattle.ooo_code.specs.declared.expression.NodeExpr.TheOpen as node_layer
use Rattle.ooo_code.specs.Expressions.{no_value, on_value, by_truth}
use Rattle.ooo_code.specs.Expressions as over_slots
use Rattle.ooo_code.specs.Nodes as nodes
use Rattle.ooo_bound.specs.declared.expr.BoundExpr.{BoundExpr, BoundExpr-F, ind-BoundExpr, map-BoundExpr, roll-BoundExpr, fold-roll-BoundExpr}
use Rattle.ooo_bound.specs.declared.expr.BoundExpr.TheVariants as bound
use Rattle.ooo_bound.specs.declared.expr.BoundExpr.TheOpen as layer
use Rattle.ooo_bound.specs.declared.expr.BoundTime.{BoundTime}
use Rattle.ooo_bound.specs.declared.expr.BoundTime.TheVariants as time
use Rattle.ooo_activation.specs.Locals.{Locals}
use Rattle.ooo_activation.specs.Expressions.{promoted}
use Rattle.ooo_activation.specs.Expressions as over_locals
use Rattle.ooo_shapes.specs.declared.around.Around.{Around}
use Rattle.ooo_shapes.specs.declared.around.Widths.{Widths}
use Rattle.ooo_shapes.specs.Widths.{width_of, both, expr_step, expr_widths, time_widths, wait_widths}
use Rattle.ooo_shapes.specs.Expressions.{slot_of, kept, lowered, lowered_step, converted, converted_step, lowered_time, lowered_wait_time}
use Rattle.ooo_shapes.proofs.Frames.{Within, within_left, within_right, within_local}

-- ---- expressions in nodes, form by form

abbrev pub Slots : Type 0
Slots = over_slots.Sight

reading_at : (y : NodeExpr-F NodeExpr) (s : Slots) → over_slots.reading_of (roll-NodeExpr y) s ≡ over_slots.reading_step (map-NodeExpr NodeExpr over_slots.Reading over_slots.reading_of y) s
unfolding over_slots.reading_of
reading_at y s = ap (λ (f : over_slots.Reading). f s) (fold-roll-NodeExpr over_slots.Reading over_slots.reading_step y)

abbrev pub gives : NodeExpr → Slots → Answer
gives e s = over_slots.reading_of e s

pub gives_Constant : (v : Value) (s : Slots) → gives (node.Constant v) s ≡ Ok v
gives_Constant v s = ap (λ e. gives e s) (sym (node.rolls-Constant v)) ∙ reading_at (node_layer.Constant v) s

pub gives_Slot : (n : ℕ) (s : Slots) → gives (node.Slot n) s ≡ Ok (get_or s.slots n no_value)
gives_Slot n s = ap (λ e. gives e s) (sym (node.rolls-Slot n)) ∙ reading_at (node_layer.Slot n) s

pub gives_Variable : (x : ℕ) (s : Slots) → gives (node.Variable x) s ≡ over_slots.reading_step (node_layer.Variable x) s
gives_Variable x s = ap (λ e. gives e s) (sym (node.rolls-Variable x)) ∙ reading_at (node_layer.Variable x) s

pub gives_Element : (x : ℕ) (i : NodeExpr) (s : Slots) → gives (node.Element x i) s ≡ over_slots.reading_step (node_layer.Element x (over_slots.reading_of i)) s
gives_Element x i s = ap (λ e. gives e s) (sym (node.rolls-Element x i)) ∙ reading_at (node_layer.Element x i) s

pub gives_Signal : (c : ℕ) (s : Slots) → gives (node.Signal c) s ≡ over_slots.reading_step (node_layer.Signal c) s
gives_Signal c s = ap (λ e. gives e s) (sym (node.rolls-Signal c)) ∙ reading_at (node_layer.Signal c) s

pub gives_Event : (c : ℕ) (s : Slots) → gives (node.Event c) s ≡ over_slots.reading_step (node_layer.Event c) s
gives_Event c s = ap (λ e. gives e s) (sym (node.rolls-Event c)) ∙ reading_at (node_layer.Event c) s

pub gives_Edge : (c : ℕ) (up : Bool) (s : Slots) → gives (node.Edge c up) s ≡ over_slots.reading_step (node_layer.Edge c up) s
gives_Edge c up s = ap (λ e. gives e s) (sym (node.rolls-Edge c up)) ∙ reading_at (node_layer.Edge c up) s

pub gives_Available : (c : ℕ) (s : Slots) → gives (node.Available c) s ≡ over_slots.reading_step (node_layer.Available c) s
gives_Available c s = ap (λ e. gives e s) (sym (node.rolls-Available c)) ∙ reading_at (node_layer.Available c) s

pub gives_Free : (c : ℕ) (s : Slots) → gives (node.Free c) s ≡ over_slots.reading_step (node_layer.Free c) s
gives_Free c s = ap (λ e. gives e s) (sym (node.rolls-Free c)) ∙ reading_at (node_layer.Free c) s

pub gives_Convert : (k : Kind) (e : NodeExpr) (s : Slots) → gives (node.Convert k e) s ≡ on_value (gives e s) (λ v. Ok (conversion_of v k))
gives_Convert k e s = ap (λ e. gives e s) (sym (node.rolls-Convert k e)) ∙ reading_at (node_layer.Convert k e) s

pub gives_Negate : (e : NodeExpr) (s : Slots) → gives (node.Negate e) s ≡ over_slots.reading_step (node_layer.Negate (over_slots.reading_of e)) s
gives_Negate e s = ap (λ e. gives e s) (sym (node.rolls-Negate e)) ∙ reading_at (node_layer.Negate e) s

pub gives_Invert : (e : NodeExpr) (s : Slots) → gives (node.Invert e) s ≡ over_slots.reading_step (node_layer.Invert (over_slots.reading_of e)) s
gives_Invert e s = ap (λ e. gives e s) (sym (node.rolls-Invert e)) ∙ reading_at (node_layer.Invert e) s

pub gives_Not : (e : NodeExpr) (s : Slots) → gives (node.Not e) s ≡ over_slots.reading_step (node_layer.Not (over_slots.reading_of e)) s
gives_Not e s = ap (λ e. gives e s) (sym (node.rolls-Not e)) ∙ reading_at (node_layer.Not e) s

pub gives_Binary : (o : Op) (a b : NodeExpr) (s : Slots) → gives (node.Binary o a b) s ≡ on_value (gives a s) (λ v. on_value (gives b s) (λ w. binary_of o v w))
gives_Binary o a b s = ap (λ e. gives e s) (sym (node.rolls-Binary o a b)) ∙ reading_at (node_layer.Binary o a b) s

pub gives_And : (a b : NodeExpr) (s : Slots) → gives (node.And a b) s ≡ over_slots.reading_step (node_layer.And (over_slots.reading_of a) (over_slots.reading_of b)) s
gives_And a b s = ap (λ e. gives e s) (sym (node.rolls-And a b)) ∙ reading_at (node_layer.And a b) s

pub gives_Or : (a b : NodeExpr) (s : Slots) → gives (node.Or a b) s ≡ over_slots.reading_step (node_layer.Or (over_slots.reading_of a) (over_slots.reading_of b)) s
gives_Or a b s = ap (λ e. gives e s) (sym (node.rolls-Or a b)) ∙ reading_at (node_layer.Or a b) s

pub gives_Choose : (c a b : NodeExpr) (s : Slots) → gives (node.Choose c a b) s ≡ on_value (gives c s) (λ v. by_truth v (gives a s) (gives b s))
gives_Choose c a b s = ap (λ e. gives e s) (sym (node.rolls-Choose c a b)) ∙ reading_at (node_layer.Choose c a b) s

-- ---- a converted value

converted_form : (k : Kind) (y : NodeExpr-F NodeExpr) (e : NodeExpr) (s : Slots) → roll-NodeExpr y ≡ e → gives (converted_step k y e) s ≡ on_value (gives e s) (λ v. Ok (conversion_of v k))
converted_form k (node_layer.Constant v) e s is =
    gives_Constant (conversion_of v k) s
    ∙ ap (λ o. on_value o (λ v. Ok (conversion_of v k))) (sym (gives_Constant v s) ∙ ap (λ e. gives e s) (sym (node.rolls-Constant v) ∙ is))
converted_form k _ e s is = gives_Convert k e s

-- what a converted expression gives, though a constant is converted at once
pub converted_gives : (k : Kind) (e : NodeExpr) (s : Slots) → gives (converted k e) s ≡ on_value (gives e s) (λ v. Ok (conversion_of v k))
converted_gives k e s = converted_form k (out-NodeExpr e) e s (roll-out-NodeExpr e)

-- ---- a shift by nothing

shifted_none : (v : Value) → binary_of op.ShiftLeft v (value.Int (pos 0)) ≡ Ok (promoted v)
unfolding one
shifted_none (value.Bool b) = ap (λ z. Ok (value_of kind.Int z)) (*ℤ-one (pos (if b then 1 else 0)))
shifted_none (value.Int z) = ap (λ z. Ok (value_of kind.Int z)) (*ℤ-one z)
shifted_none (value.Uint n) = ap (λ z. Ok (value_of kind.Uint z)) (*ℤ-one (pos n))
shifted_none (value.Long z) = ap (λ z. Ok (value_of kind.Long z)) (*ℤ-one z)
shifted_none (value.Ulong n) = ap (λ z. Ok (value_of kind.Ulong z)) (*ℤ-one (pos n))

on_same : (o : Answer) (f g : Value → Answer) → ((v : Value) → f v ≡ g v) → on_value o f ≡ on_value o g
on_same (Err e) f g h = refl
on_same (Ok v) f g h = h v

kept_gives : (e : NodeExpr) (s : Slots) → gives (kept e) s ≡ on_value (gives e s) (λ v. Ok (promoted v))
kept_gives e s =
    gives_Binary op.ShiftLeft e (node.Constant (value.Int (pos 0))) s
    ∙ on_same (gives e s) _ _ (λ v. ap (λ o. on_value o (λ w. binary_of op.ShiftLeft v w)) (gives_Constant (value.Int (pos 0)) s) ∙ shifted_none v)

-- a choice of two conversions converts the choice
chosen : (v : Value) (a b : Answer) (f : Value → Answer) → by_truth v (on_value a f) (on_value b f) ≡ on_value (by_truth v a b) f
chosen v a b f = at (truth_of v)
  where
    at : (t : Bool) → (if t then on_value a f else on_value b f) ≡ on_value (if t then a else b) f
    at true = refl
    at false = refl

-- ---- expressions over locals

value_at : (x : BoundExpr-F BoundExpr) (s : over_locals.Sight) → over_locals.reading_of (roll-BoundExpr x) s ≡ over_locals.reading_step (map-BoundExpr BoundExpr over_locals.Reading over_locals.reading_of x) s
unfolding over_locals.reading_of
value_at x s = ap (λ (f : over_locals.Reading). f s) (fold-roll-BoundExpr over_locals.Reading over_locals.reading_step x)

pub lowered_at : (t : Around) (x : BoundExpr-F BoundExpr) → lowered t (roll-BoundExpr x) ≡ lowered_step t (map-BoundExpr BoundExpr NodeExpr (lowered t) x)
unfolding lowered
lowered_at t x = fold-roll-BoundExpr NodeExpr (lowered_step t) x

-- a constant stays one
pub lowered_constant : (t : Around) (v : Value) (s : Slots) → gives (lowered t (bound.Constant v)) s ≡ Ok v
lowered_constant t v s = ap (λ e. gives (lowered t e) s) (sym (bound.rolls-Constant v)) ∙ ap (λ e. gives e s) (lowered_at t (layer.Constant v)) ∙ gives_Constant v s

pub widths_at : (x : BoundExpr-F BoundExpr) → expr_widths (roll-BoundExpr x) ≡ expr_step (map-BoundExpr BoundExpr Widths expr_widths x)
unfolding expr_widths
widths_at x = fold-roll-BoundExpr Widths expr_step x

module _ (t : Around) (locals : Locals) (slots : List Value) (variables : List (List Value)) (seen : List Seen) (same : (k : Kind) (n : ℕ) → n < width_of t.widths k → get_or slots (slot_of t k n) no_value ≡ locals k n) where
  abbrev s : Slots
  s = record { slots = slots; variables = variables; seen = seen }

  abbrev l : over_locals.Sight
  l = record { locals = locals; variables = variables; seen = seen }

  abbrev P : BoundExpr → Type 0
  P e = Within (expr_widths e) t.widths → gives (lowered t e) s ≡ over_locals.reading_of e l

  abbrev Shown : Type 0
  Shown = (e : BoundExpr) × P e

  abbrev expr_in : Shown → BoundExpr
  expr_in p = p.0

  -- an expression gives what its form gives
  by_layer : (x : BoundExpr-F BoundExpr) → (Within (expr_step (map-BoundExpr BoundExpr Widths expr_widths x)) t.widths → gives (lowered_step t (map-BoundExpr BoundExpr NodeExpr (lowered t) x)) s ≡ over_locals.reading_step (map-BoundExpr BoundExpr over_locals.Reading over_locals.reading_of x) l) → P (roll-BoundExpr x)
  by_layer x h w = ap (λ e. gives e s) (lowered_at t x) ∙ h (subst (λ v. Within v t.widths) (widths_at x) w) ∙ sym (value_at x l)

  abbrev low : Shown → NodeExpr
  low e = lowered t e.0

  layer_same : (y : BoundExpr-F Shown) → P (roll-BoundExpr (map-BoundExpr Shown BoundExpr expr_in y))
  layer_same (layer.Constant v) = by_layer (layer.Constant v) (λ w. gives_Constant v s)
  layer_same (layer.Local k n) = by_layer (layer.Local k n) (λ w. gives_Slot (slot_of t k n) s ∙ ap Ok (same k n (within_local k n t.widths w)))
  layer_same (layer.Variable x) = by_layer (layer.Variable x) (λ w. gives_Variable x s)
  layer_same (layer.Element x i) = by_layer (layer.Element x i.0) (λ w. gives_Element x (low i) s ∙ rw (i.1 w) refl)
  layer_same (layer.Signal c) = by_layer (layer.Signal c) (λ w. gives_Signal c s)
  layer_same (layer.Changed c) = by_layer (layer.Changed c) (λ w. gives_Event c s)
  layer_same (layer.Edge c up) = by_layer (layer.Edge c up) (λ w. gives_Edge c up s)
  layer_same (layer.Available c) = by_layer (layer.Available c) (λ w. gives_Available c s)
  layer_same (layer.Free c) = by_layer (layer.Free c) (λ w. gives_Free c s)
  layer_same (layer.Convert k e) = by_layer (layer.Convert k e.0) (λ w. gives_Convert k (low e) s ∙ rw (e.1 w) refl)
  layer_same (layer.Promote e) = by_layer (layer.Promote e.0) (λ w. kept_gives (low e) s ∙ rw (e.1 w) refl)
  layer_same (layer.Negate e) = by_layer (layer.Negate e.0) (λ w. gives_Negate (low e) s ∙ rw (e.1 w) refl)
  layer_same (layer.Invert e) = by_layer (layer.Invert e.0) (λ w. gives_Invert (low e) s ∙ rw (e.1 w) refl)
  layer_same (layer.Not e) = by_layer (layer.Not e.0) (λ w. gives_Not (low e) s ∙ rw (e.1 w) refl)
  layer_same (layer.Binary o a b) = by_layer (layer.Binary o a.0 b.0) (λ w. gives_Binary o (low a) (low b) s ∙ rw (a.1 (within_left (expr_widths a.0) (expr_widths b.0) t.widths w), b.1 (within_right (expr_widths a.0) (expr_widths b.0) t.widths w)) refl)
  layer_same (layer.Both a b) = by_layer (layer.Both a.0 b.0) (λ w. gives_And (low a) (low b) s ∙ rw (a.1 (within_left (expr_widths a.0) (expr_widths b.0) t.widths w), b.1 (within_right (expr_widths a.0) (expr_widths b.0) t.widths w)) refl)
  layer_same (layer.Either a b) = by_layer (layer.Either a.0 b.0) (λ w. gives_Or (low a) (low b) s ∙ rw (a.1 (within_left (expr_widths a.0) (expr_widths b.0) t.widths w), b.1 (within_right (expr_widths a.0) (expr_widths b.0) t.widths w)) refl)
  layer_same (layer.Choose k c a b) =
      by_layer (layer.Choose k c.0 a.0 b.0) (λ w.
      let rest = within_right (expr_widths c.0) (both (expr_widths a.0) (expr_widths b.0)) t.widths w in
      let first = gives_Convert k (low a) s ∙ rw (a.1 (within_left (expr_widths a.0) (expr_widths b.0) t.widths rest)) refl in
      let second = gives_Convert k (low b) s ∙ rw (b.1 (within_right (expr_widths a.0) (expr_widths b.0) t.widths rest)) refl in
      gives_Choose (low c) (node.Convert k (low a)) (node.Convert k (low b)) s
      ∙ ap (λ o. on_value o (λ v. by_truth v (gives (node.Convert k (low a)) s) (gives (node.Convert k (low b)) s))) (c.1 (within_left (expr_widths c.0) (both (expr_widths a.0) (expr_widths b.0)) t.widths w))
      ∙ on_same (over_locals.reading_of c.0 l) _ _ (λ v.
      ap₂ (by_truth v) first second ∙ chosen v (over_locals.reading_of a.0 l) (over_locals.reading_of b.0 l) (λ v. Ok (conversion_of v k))))

  pub value_same : (e : BoundExpr) → Within (expr_widths e) t.widths → gives (lowered t e) s ≡ over_locals.reading_of e l
  value_same = ind-BoundExpr P (λ x y e. subst (λ x. P (roll-BoundExpr x)) e (layer_same y))

  pub time_same : (k : BoundTime) → Within (time_widths k) t.widths → over_slots.time_given (lowered_time t k) s ≡ over_locals.time_given k l
  time_same (time.Fixed k) w = refl
  time_same (time.Amount e scale) w = ap (over_slots.time_by scale) (value_same e w)

  pub wait_same : (k : Option BoundTime) → Within (wait_widths k) t.widths → nodes.wait_time (lowered_wait_time t k) s ≡ over_locals.wait_time k l
  wait_same None w = refl
  wait_same (Some k) w = ap nodes.some_time (time_same k w)
