-- An expression in a node has the kind of the expression of the model.
use Rattle.std.proofs.Common.{◌≡◌, ℕ, ℤ, ◌+◌, ◌<◌, ◌≤◌, List, ◌∷◌, ◌++◌, length, Bool, Some, None, refl, sym, ap, ap₂, ◌∙◌, subst, arith, length-append, get_or}
use Rattle.std.specs.Prelude.{slice_get, option_map, pos, IsSome}
use Rattle.std.proofs.lemmas.Option.{slice_get-get_or}
use Rattle.ooo_value.specs.declared.kinds.Kind.{Kind}
use Rattle.ooo_value.specs.declared.kinds.Kind.TheVariants as kind
use Rattle.ooo_value.specs.declared.operators.Op.{Op}
use Rattle.ooo_value.specs.declared.operators.Op.TheVariants as op
use Rattle.ooo_value.specs.declared.values.Value.{Value}
use Rattle.ooo_value.specs.declared.values.Value.TheVariants as value
use Rattle.ooo_value.specs.Kinds.{promoted_kind}
use Rattle.ooo_value.specs.Operators.{binary_kind}
use Rattle.ooo_value.specs.Values.{kind_of, conversion_of, number_of, value_of}
use Rattle.ooo_code.specs.declared.expression.NodeExpr.{NodeExpr, NodeExpr-F, map-NodeExpr, roll-NodeExpr, out-NodeExpr, fold-roll-NodeExpr}
use Rattle.ooo_code.specs.declared.expression.NodeExpr.TheVariants as node
use Rattle.ooo_code.specs.declared.expression.NodeExpr.TheOpen as node_layer
use Rattle.ooo_code.specs.Sound.{Scope, Typed, if_typed, both_kind, of_two, same_kind, signal_kind, fifo_kind}
use Rattle.ooo_code.specs.Sound as code
use Rattle.ooo_bound.specs.declared.expr.BoundExpr.{BoundExpr, BoundExpr-F, ind-BoundExpr, map-BoundExpr, roll-BoundExpr, fold-roll-BoundExpr}
use Rattle.ooo_bound.specs.declared.expr.BoundExpr.TheOpen as layer
use Rattle.ooo_bound.specs.declared.model.Bound.{Bound}
use Rattle.ooo_activation.specs.Kinds as text
use Rattle.ooo_shapes.specs.declared.around.Around.{Around}
use Rattle.ooo_shapes.specs.declared.around.Widths.{Widths}
use Rattle.ooo_shapes.specs.Widths.{width_of, start_of, kinds_of, both, expr_step, expr_widths}
use Rattle.ooo_shapes.specs.Expressions.{slot_of, kept, lowered, lowered_step, converted, converted_step, kind_or_int, kind_in}
use Rattle.ooo_shapes.proofs.Frames.{Within, within_left, within_right, within_local, start_below}
use Rattle.ooo_shapes.proofs.Zeros.{in_left, in_right, kind_at, count_kinds}
use Rattle.ooo_shapes.proofs.Values.{lowered_at, widths_at}

-- a kind's value is of that kind
pub kind_of-value_of : (k : Kind) (z : ℤ) → kind_of (value_of k z) ≡ k
kind_of-value_of kind.Bool z = refl
kind_of-value_of kind.Int z = refl
kind_of-value_of kind.Uint z = refl
kind_of-value_of kind.Long z = refl
kind_of-value_of kind.Ulong z = refl

-- ---- kinds of slots

-- these slots have these kinds
pub record KindsAt (slots : List Kind) (at : ℕ) (ks : List Kind) : Type 0 where
  pub room : at + length ks ≤ length slots
  pub same : (i : ℕ) → i < length ks → get_or slots (at + i) kind.Bool ≡ get_or ks i kind.Bool

pub kinds_left : (slots : List Kind) (at : ℕ) (xs ys : List Kind) → KindsAt slots at (xs ++ ys) → KindsAt slots at xs
kinds_left slots at xs ys h = record {
  room = omega (arith, h.room, length-append xs ys);
  same = λ i lt. h.same i (omega (arith, length-append xs ys)) ∙ in_left xs ys i kind.Bool lt;
}

pub kinds_right : (slots : List Kind) (at : ℕ) (xs ys : List Kind) → KindsAt slots at (xs ++ ys) → KindsAt slots (at + length xs) ys
kinds_right slots at xs ys h = record {
  room = omega (arith, h.room, length-append xs ys);
  same = λ i lt.
      let e : at + length xs + i ≡ at + (length xs + i) = omega arith in
      ap (λ n. get_or slots n kind.Bool) e ∙ h.same (length xs + i) (omega (arith, length-append xs ys)) ∙ in_right xs ys i (length xs + i) kind.Bool refl;
}

-- the first of them
pub kinds_first : (slots : List Kind) (at : ℕ) (k : Kind) (ks : List Kind) → KindsAt slots at (k ∷ ks) → slice_get slots at ≡ Some k
kinds_first slots at k ks h =
    let e : at ≡ at + 0 = omega arith in
    let lt : at < length slots = omega (arith, h.room) in
    slice_get-get_or slots at kind.Bool lt ∙ ap Some (ap (λ n. get_or slots n kind.Bool) e ∙ h.same 0 (omega arith))

-- the slot of a local has its kind
pub local_kind : (slots : List Kind) (t : Around) (k : Kind) (n : ℕ) → KindsAt slots t.base (kinds_of t.widths) → n < width_of t.widths k → slice_get slots (slot_of t k n) ≡ Some k
local_kind slots t k n h lt =
    let i = start_of t.widths k + n in
    let below : i < length (kinds_of t.widths) = omega (arith, count_kinds t.widths, start_below t.widths k n lt) in
    let within : t.base + i < length slots = omega (arith, h.room) in
    slice_get-get_or slots (t.base + i) kind.Bool within ∙ ap Some (h.same i below ∙ kind_at t.widths k n lt)

-- ---- kinds

same_itself : (k : Kind) → both_kind (Some k) (Some k) ≡ Some k
same_itself kind.Bool = refl
same_itself kind.Int = refl
same_itself kind.Uint = refl
same_itself kind.Long = refl
same_itself kind.Ulong = refl

shifted_kind : (o : Typed) → of_two (binary_kind op.ShiftLeft) o (Some kind.Int) ≡ option_map promoted_kind o
shifted_kind None = refl
shifted_kind (Some k) = refl

chosen_kind : (k : Kind) (c a b : Typed) → if_typed c (both_kind (if_typed a (Some k)) (if_typed b (Some k))) ≡ if_typed c (if_typed a (if_typed b (Some k)))
chosen_kind k None a b = refl
chosen_kind k (Some c) None b = refl
chosen_kind k (Some c) (Some a) None = refl
chosen_kind k (Some c) (Some a) (Some b) = same_itself k

-- ---- expressions in nodes, form by form

module _ (names : Scope) where
  abbrev pub kind_so : NodeExpr → Typed
  kind_so e = code.expression_kind names e

  kind_layer : (y : NodeExpr-F NodeExpr) → kind_so (roll-NodeExpr y) ≡ code.kind_step names (map-NodeExpr NodeExpr Typed (code.expression_kind names) y)
  unfolding code.expression_kind
  kind_layer y = fold-roll-NodeExpr Typed (code.kind_step names) y

  pub kind_Constant : (v : Value) → kind_so (node.Constant v) ≡ Some (kind_of v)
  kind_Constant v = ap kind_so (sym (node.rolls-Constant v)) ∙ kind_layer (node_layer.Constant v)

  pub kind_Slot : (n : ℕ) → kind_so (node.Slot n) ≡ slice_get names.slots n
  kind_Slot n = ap kind_so (sym (node.rolls-Slot n)) ∙ kind_layer (node_layer.Slot n)

  pub kind_Variable : (x : ℕ) → kind_so (node.Variable x) ≡ code.variable_kind (slice_get names.variables x)
  kind_Variable x = ap kind_so (sym (node.rolls-Variable x)) ∙ kind_layer (node_layer.Variable x)

  pub kind_Element : (x : ℕ) (i : NodeExpr) → kind_so (node.Element x i) ≡ if_typed (kind_so i) (code.variable_kind (slice_get names.variables x))
  kind_Element x i = ap kind_so (sym (node.rolls-Element x i)) ∙ kind_layer (node_layer.Element x i)

  pub kind_Signal : (c : ℕ) → kind_so (node.Signal c) ≡ signal_kind (slice_get names.channels c)
  kind_Signal c = ap kind_so (sym (node.rolls-Signal c)) ∙ kind_layer (node_layer.Signal c)

  kind_Event : (c : ℕ) → kind_so (node.Event c) ≡ code.kind_step names (node_layer.Event c)
  kind_Event c = ap kind_so (sym (node.rolls-Event c)) ∙ kind_layer (node_layer.Event c)

  kind_Edge : (c : ℕ) (up : Bool) → kind_so (node.Edge c up) ≡ code.kind_step names (node_layer.Edge c up)
  kind_Edge c up = ap kind_so (sym (node.rolls-Edge c up)) ∙ kind_layer (node_layer.Edge c up)

  kind_Available : (c : ℕ) → kind_so (node.Available c) ≡ code.kind_step names (node_layer.Available c)
  kind_Available c = ap kind_so (sym (node.rolls-Available c)) ∙ kind_layer (node_layer.Available c)

  kind_Free : (c : ℕ) → kind_so (node.Free c) ≡ code.kind_step names (node_layer.Free c)
  kind_Free c = ap kind_so (sym (node.rolls-Free c)) ∙ kind_layer (node_layer.Free c)

  pub kind_Convert : (k : Kind) (e : NodeExpr) → kind_so (node.Convert k e) ≡ if_typed (kind_so e) (Some k)
  kind_Convert k e = ap kind_so (sym (node.rolls-Convert k e)) ∙ kind_layer (node_layer.Convert k e)

  kind_Negate : (e : NodeExpr) → kind_so (node.Negate e) ≡ option_map promoted_kind (kind_so e)
  kind_Negate e = ap kind_so (sym (node.rolls-Negate e)) ∙ kind_layer (node_layer.Negate e)

  kind_Invert : (e : NodeExpr) → kind_so (node.Invert e) ≡ option_map promoted_kind (kind_so e)
  kind_Invert e = ap kind_so (sym (node.rolls-Invert e)) ∙ kind_layer (node_layer.Invert e)

  kind_Not : (e : NodeExpr) → kind_so (node.Not e) ≡ if_typed (kind_so e) (Some kind.Bool)
  kind_Not e = ap kind_so (sym (node.rolls-Not e)) ∙ kind_layer (node_layer.Not e)

  pub kind_Binary : (o : Op) (a b : NodeExpr) → kind_so (node.Binary o a b) ≡ of_two (binary_kind o) (kind_so a) (kind_so b)
  kind_Binary o a b = ap kind_so (sym (node.rolls-Binary o a b)) ∙ kind_layer (node_layer.Binary o a b)

  kind_And : (a b : NodeExpr) → kind_so (node.And a b) ≡ if_typed (kind_so a) (if_typed (kind_so b) (Some kind.Bool))
  kind_And a b = ap kind_so (sym (node.rolls-And a b)) ∙ kind_layer (node_layer.And a b)

  kind_Or : (a b : NodeExpr) → kind_so (node.Or a b) ≡ if_typed (kind_so a) (if_typed (kind_so b) (Some kind.Bool))
  kind_Or a b = ap kind_so (sym (node.rolls-Or a b)) ∙ kind_layer (node_layer.Or a b)

  kind_Choose : (c a b : NodeExpr) → kind_so (node.Choose c a b) ≡ if_typed (kind_so c) (both_kind (kind_so a) (kind_so b))
  kind_Choose c a b = ap kind_so (sym (node.rolls-Choose c a b)) ∙ kind_layer (node_layer.Choose c a b)

  -- ---- a converted value

  if_some : (j k : Typed) → IsSome j → if_typed j k ≡ k
  if_some None k h = absurd cc
  if_some (Some j) k h = refl

  converted_form : (k : Kind) (y : NodeExpr-F NodeExpr) (e : NodeExpr) → IsSome (kind_so e) → kind_so (converted_step k y e) ≡ Some k
  converted_form k (node_layer.Constant v) e some = kind_Constant (conversion_of v k) ∙ ap Some (kind_of-value_of k (number_of v))
  converted_form k _ e some = kind_Convert k e ∙ if_some (kind_so e) (Some k) some

  -- a converted value has its kind
  pub converted_kind : (k : Kind) (e : NodeExpr) → IsSome (kind_so e) → kind_so (converted k e) ≡ Some k
  converted_kind k e some = converted_form k (out-NodeExpr e) e some

  kept_kind : (e : NodeExpr) → kind_so (kept e) ≡ option_map promoted_kind (kind_so e)
  kept_kind e =
      kind_Binary op.ShiftLeft e (node.Constant (value.Int (pos 0)))
      ∙ ap (λ o. of_two (binary_kind op.ShiftLeft) (kind_so e) o) (kind_Constant (value.Int (pos 0)))
      ∙ shifted_kind (kind_so e)

-- ---- expressions of the model

text_layer : (b : Bound) (x : BoundExpr-F BoundExpr) → text.expression_kind b (roll-BoundExpr x) ≡ text.kind_step b (map-BoundExpr BoundExpr Typed (text.expression_kind b) x)
unfolding text.expression_kind
text_layer b x = fold-roll-BoundExpr Typed (text.kind_step b) x

-- an expression that fits has a kind
kind_in_of : (b : Bound) (e : BoundExpr) (o : Typed) → text.expression_kind b e ≡ o → IsSome o → o ≡ Some (kind_in b e)
kind_in_of b e None is some = absurd cc
kind_in_of b e (Some k) is some = sym (ap (λ o. Some (kind_or_int o)) is)

pub kind_in_is : (b : Bound) (e : BoundExpr) → IsSome (text.expression_kind b e) → text.expression_kind b e ≡ Some (kind_in b e)
kind_in_is b e some = kind_in_of b e (text.expression_kind b e) refl some

module _ (b : Bound) (slots : List Kind) (t : Around) (locals : KindsAt slots t.base (kinds_of t.widths)) where
  abbrev names : Scope
  names = record { slots = slots; variables = b.variables; channels = b.channels }

  abbrev P : BoundExpr → Type 0
  P e = Within (expr_widths e) t.widths → kind_so names (lowered t e) ≡ text.expression_kind b e

  abbrev Shown : Type 0
  Shown = (e : BoundExpr) × P e

  abbrev expr_in : Shown → BoundExpr
  expr_in p = p.0

  abbrev low : Shown → NodeExpr
  low e = lowered t e.0

  by_layer : (x : BoundExpr-F BoundExpr) → (Within (expr_step (map-BoundExpr BoundExpr Widths expr_widths x)) t.widths → kind_so names (lowered_step t (map-BoundExpr BoundExpr NodeExpr (lowered t) x)) ≡ text.kind_step b (map-BoundExpr BoundExpr Typed (text.expression_kind b) x)) → P (roll-BoundExpr x)
  by_layer x h w = ap (kind_so names) (lowered_at t x) ∙ h (subst (λ v. Within v t.widths) (widths_at x) w) ∙ sym (text_layer b x)

  two_same : (f : Typed → Typed → Typed) (a c : Shown) → Within (both (expr_widths a.0) (expr_widths c.0)) t.widths → f (kind_so names (low a)) (kind_so names (low c)) ≡ f (text.expression_kind b a.0) (text.expression_kind b c.0)
  two_same f a c w = ap₂ f (a.1 (within_left (expr_widths a.0) (expr_widths c.0) t.widths w)) (c.1 (within_right (expr_widths a.0) (expr_widths c.0) t.widths w))

  layer_same : (y : BoundExpr-F Shown) → P (roll-BoundExpr (map-BoundExpr Shown BoundExpr expr_in y))
  layer_same (layer.Constant v) = by_layer (layer.Constant v) (λ w. kind_Constant names v)
  layer_same (layer.Local k n) = by_layer (layer.Local k n) (λ w. kind_Slot names (slot_of t k n) ∙ local_kind slots t k n locals (within_local k n t.widths w))
  layer_same (layer.Variable x) = by_layer (layer.Variable x) (λ w. kind_Variable names x)
  layer_same (layer.Element x i) = by_layer (layer.Element x i.0) (λ w. kind_Element names x (low i) ∙ ap (λ o. if_typed o (code.variable_kind (slice_get b.variables x))) (i.1 w))
  layer_same (layer.Signal c) = by_layer (layer.Signal c) (λ w. kind_Signal names c)
  layer_same (layer.Changed c) = by_layer (layer.Changed c) (λ w. kind_Event names c)
  layer_same (layer.Edge c up) = by_layer (layer.Edge c up) (λ w. kind_Edge names c up)
  layer_same (layer.Available c) = by_layer (layer.Available c) (λ w. kind_Available names c)
  layer_same (layer.Free c) = by_layer (layer.Free c) (λ w. kind_Free names c)
  layer_same (layer.Convert k e) = by_layer (layer.Convert k e.0) (λ w. kind_Convert names k (low e) ∙ ap (λ o. if_typed o (Some k)) (e.1 w))
  layer_same (layer.Promote e) = by_layer (layer.Promote e.0) (λ w. kept_kind names (low e) ∙ ap (option_map promoted_kind) (e.1 w))
  layer_same (layer.Negate e) = by_layer (layer.Negate e.0) (λ w. kind_Negate names (low e) ∙ ap (option_map promoted_kind) (e.1 w))
  layer_same (layer.Invert e) = by_layer (layer.Invert e.0) (λ w. kind_Invert names (low e) ∙ ap (option_map promoted_kind) (e.1 w))
  layer_same (layer.Not e) = by_layer (layer.Not e.0) (λ w. kind_Not names (low e) ∙ ap (λ o. if_typed o (Some kind.Bool)) (e.1 w))
  layer_same (layer.Binary o a c) = by_layer (layer.Binary o a.0 c.0) (λ w. kind_Binary names o (low a) (low c) ∙ two_same (of_two (binary_kind o)) a c w)
  layer_same (layer.Both a c) = by_layer (layer.Both a.0 c.0) (λ w. kind_And names (low a) (low c) ∙ two_same (λ j k. if_typed j (if_typed k (Some kind.Bool))) a c w)
  layer_same (layer.Either a c) = by_layer (layer.Either a.0 c.0) (λ w. kind_Or names (low a) (low c) ∙ two_same (λ j k. if_typed j (if_typed k (Some kind.Bool))) a c w)
  layer_same (layer.Choose k e a c) =
      by_layer (layer.Choose k e.0 a.0 c.0) (λ w.
      let rest = within_right (expr_widths e.0) (both (expr_widths a.0) (expr_widths c.0)) t.widths w in
      kind_Choose names (low e) (node.Convert k (low a)) (node.Convert k (low c))
      ∙ ap₂ (λ x y. if_typed (kind_so names (low e)) (both_kind x y)) (kind_Convert names k (low a)) (kind_Convert names k (low c))
      ∙ chosen_kind k (kind_so names (low e)) (kind_so names (low a)) (kind_so names (low c))
      ∙ ap (λ o. if_typed o (if_typed (kind_so names (low a)) (if_typed (kind_so names (low c)) (Some k)))) (e.1 (within_left (expr_widths e.0) (both (expr_widths a.0) (expr_widths c.0)) t.widths w))
      ∙ two_same (λ x y. if_typed (text.expression_kind b e.0) (if_typed x (if_typed y (Some k)))) a c rest)

  -- an expression lowered has its kind
  pub kind_same : (e : BoundExpr) → P e
  kind_same = ind-BoundExpr P (λ x y e. subst (λ x. P (roll-BoundExpr x)) e (layer_same y))

  -- and has one, where the expression fits
  pub kind_some : (e : BoundExpr) → Within (expr_widths e) t.widths → IsSome (text.expression_kind b e) → IsSome (kind_so names (lowered t e))
  kind_some e w f = subst IsSome (sym (kind_same e w)) f
