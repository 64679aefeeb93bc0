-- What a node of a sound design touches is there.
use Rattle.std.proofs.Common.{◌≡◌, ℕ, List, [], ◌∷◌, ◌++◌, true, false, Option, Some, None, refl, sym, ap, ◌∙◌, subst}
use Rattle.std.specs.Prelude.{slice_get, ⊤, IsSome, IfSome, option_map}
use Rattle.std.specs.List.{AllByRecursion}
use Rattle.ooo_lemmas.proofs.Each.{of_both}
use Rattle.ooo_value.specs.declared.bound.BoundEvent.{BoundEvent}
use Rattle.ooo_value.specs.declared.kinds.Kind.{Kind}
use Rattle.ooo_value.specs.declared.kinds.Kind.TheVariants as value_kind
use Rattle.ooo_value.specs.Kinds.{promoted_kind}
use Rattle.ooo_value.specs.Operators.{binary_kind}
use Rattle.ooo_code.specs.declared.expression.NodeExpr.{NodeExpr, NodeExpr-F, ind-NodeExpr, map-NodeExpr, roll-NodeExpr, fold-roll-NodeExpr}
use Rattle.ooo_code.specs.declared.expression.NodeExpr.TheOpen as layer
use Rattle.ooo_code.specs.declared.node.NodeKind.{NodeKind}
use Rattle.ooo_code.specs.declared.node.NodeKind.TheVariants as kind
use Rattle.ooo_code.specs.declared.node.NodeTime.{NodeTime}
use Rattle.ooo_code.specs.declared.node.NodeTime.TheVariants as time
use Rattle.ooo_code.specs.Sound.{FitsNode, FitsTime, Scope, Typed, both_kind, expression_kind, fifo_kind, if_bool, if_typed, kind_step, of_two, signal_kind, variable_kind}
use Rattle.ooo_code.specs.Touches.{Touch, Reads, Writes, ReadsSignal, WritesSignal, HoldsReading, HoldsWriting, Notifies, Cancels, is_data_read, is_data_written, is_of_signal, notified_next, numbers_where, reads_of, reads_step, time_reads, touched_by, wait_reads}
use Rattle.ooo_dispatch.proofs.Readings.{With, fused, reads_at}

-- ---- parts of a kind that there is

if_some : (a b : Typed) → IsSome (if_typed a b) → IsSome a × IsSome b
if_some None b h = absurd (let c : false ≡ true = h in cc)
if_some (Some j) b h = (refl, h)

bool_some : (a : Typed) → IsSome (if_bool a) → IsSome a
bool_some None h = absurd (let c : false ≡ true = h in cc)
bool_some (Some k) h = refl

map_some : (f : Kind → Kind) (a : Typed) → IsSome (option_map f a) → IsSome a
map_some f None h = absurd (let c : false ≡ true = h in cc)
map_some f (Some k) h = refl

two_some : (f : Kind → Kind → Kind) (a b : Typed) → IsSome (of_two f a b) → IsSome a × IsSome b
two_some f None b h = absurd (let c : false ≡ true = h in cc)
two_some f (Some j) None h = absurd (let c : false ≡ true = h in cc)
two_some f (Some j) (Some k) h = (refl, refl)

both_some : (a b : Typed) → IsSome (both_kind a b) → IsSome a × IsSome b
both_some None b h = absurd (let c : false ≡ true = h in cc)
both_some (Some j) None h = absurd (let c : false ≡ true = h in cc)
both_some (Some j) (Some k) h = (refl, refl)

module _ (names : Scope) where
  -- what is touched is there, and of the kind that the touch wants
  abbrev pub Exists : Touch → Type 0
  Exists (Reads x) = IsSome (variable_kind (slice_get names.variables x))
  Exists (Writes x) = IsSome (variable_kind (slice_get names.variables x))
  Exists (ReadsSignal c) = IsSome (signal_kind (slice_get names.channels c))
  Exists (WritesSignal c) = IsSome (signal_kind (slice_get names.channels c))
  Exists (HoldsReading c) = IsSome (fifo_kind (slice_get names.channels c))
  Exists (HoldsWriting c) = IsSome (fifo_kind (slice_get names.channels c))
  Exists (Notifies e t) = ⊤
  Exists (Cancels e) = ⊤

  abbrev P : NodeExpr → Type 0
  P e = IsSome (expression_kind names e) → AllByRecursion Exists (reads_of e)

  abbrev Shown : Type 0
  Shown = With P

  kind_at : (y : NodeExpr-F NodeExpr) → expression_kind names (roll-NodeExpr y) ≡ kind_step names (map-NodeExpr NodeExpr Typed (expression_kind names) y)
  unfolding expression_kind
  kind_at y = fold-roll-NodeExpr Typed (kind_step names) y

  of_layer : (y : NodeExpr-F Shown) → IsSome (kind_step names (map-NodeExpr Shown Typed (λ e. expression_kind names e.0) y)) → AllByRecursion Exists (reads_step (map-NodeExpr Shown (List Touch) (λ e. reads_of e.0) y))
  of_layer (layer.Constant v) h = tt
  of_layer (layer.Slot n) h = tt
  of_layer (layer.Variable x) h = (h, tt)
  of_layer (layer.Element x i) h = let k = if_some (expression_kind names i.0) (variable_kind (slice_get names.variables x)) h in (k.1, i.1 k.0)
  of_layer (layer.Signal c) h = (h, tt)
  of_layer (layer.Event c) h = ((if_some (signal_kind (slice_get names.channels c)) (Some value_kind.Bool) h).0, tt)
  of_layer (layer.Edge c up) h = (bool_some (signal_kind (slice_get names.channels c)) h, tt)
  of_layer (layer.Available c) h = ((if_some (fifo_kind (slice_get names.channels c)) (Some value_kind.Int) h).0, tt)
  of_layer (layer.Free c) h = ((if_some (fifo_kind (slice_get names.channels c)) (Some value_kind.Int) h).0, tt)
  of_layer (layer.Convert k e) h = e.1 (if_some (expression_kind names e.0) (Some k) h).0
  of_layer (layer.Negate e) h = e.1 (map_some promoted_kind (expression_kind names e.0) h)
  of_layer (layer.Invert e) h = e.1 (map_some promoted_kind (expression_kind names e.0) h)
  of_layer (layer.Not e) h = e.1 (if_some (expression_kind names e.0) (Some value_kind.Bool) h).0
  of_layer (layer.Binary op e f) h =
      let k = two_some (binary_kind op) (expression_kind names e.0) (expression_kind names f.0) h in of_both Exists (reads_of e.0) (reads_of f.0) (e.1 k.0) (f.1 k.1)
  of_layer (layer.And e f) h =
      let k = if_some (expression_kind names e.0) (if_typed (expression_kind names f.0) (Some value_kind.Bool)) h in
      of_both Exists (reads_of e.0) (reads_of f.0) (e.1 k.0) (f.1 (if_some (expression_kind names f.0) (Some value_kind.Bool) k.1).0)
  of_layer (layer.Or e f) h =
      let k = if_some (expression_kind names e.0) (if_typed (expression_kind names f.0) (Some value_kind.Bool)) h in
      of_both Exists (reads_of e.0) (reads_of f.0) (e.1 k.0) (f.1 (if_some (expression_kind names f.0) (Some value_kind.Bool) k.1).0)
  of_layer (layer.Choose c e f) h =
      let k = if_some (expression_kind names c.0) (both_kind (expression_kind names e.0) (expression_kind names f.0)) h in
      let j = both_some (expression_kind names e.0) (expression_kind names f.0) k.1 in
      of_both Exists (reads_of c.0 ++ reads_of e.0) (reads_of f.0) (of_both Exists (reads_of c.0) (reads_of e.0) (c.1 k.0) (e.1 j.0)) (f.1 j.1)

  step : (y : NodeExpr-F Shown) → P (roll-NodeExpr (map-NodeExpr Shown NodeExpr (λ e. e.0) y))
  step y h =
      subst (AllByRecursion Exists) (sym (reads_at (map-NodeExpr Shown NodeExpr (λ e. e.0) y) ∙ ap reads_step (fused P (List Touch) reads_of y)))
      (of_layer y (subst (λ k. IsSome k) (kind_at (map-NodeExpr Shown NodeExpr (λ e. e.0) y) ∙ ap (kind_step names) (fused P Typed (expression_kind names) y)) h))

  expression : (e : NodeExpr) → IsSome (expression_kind names e) → AllByRecursion Exists (reads_of e)
  expression e = ind-NodeExpr P (λ x y e. subst (λ x. P (roll-NodeExpr x)) e (step y)) e

  -- ---- nodes

  of_kind : (e : NodeExpr) (k : Typed) → IsSome k × (expression_kind names e ≡ k) → AllByRecursion Exists (reads_of e)
  of_kind e k h = expression e (subst (λ k. IsSome k) (sym h.1) h.0)

  next : (es : List ℕ) → AllByRecursion Exists (notified_next es)
  next [] = tt
  next (e ∷ es) = (tt, next es)

  of_time : (t : NodeTime) → FitsTime names t → AllByRecursion Exists (time_reads t)
  of_time (time.Fixed t) h = tt
  of_time (time.Amount e scale) h = expression e h

  of_wait : (t : Option NodeTime) → IfSome t (FitsTime names) → AllByRecursion Exists (wait_reads t)
  of_wait None h = tt
  of_wait (Some t) h = of_time t h

  pub exist : (events : List BoundEvent) (k : NodeKind) → FitsNode names events k → AllByRecursion Exists (touched_by events k)
  exist events (kind.Set n e) h = of_kind e (slice_get names.slots n) h
  exist events (kind.Store x None e) h =
      (h.0, of_both Exists (reads_of e) [] (of_kind e (variable_kind (slice_get names.variables x)) h) tt)
  exist events (kind.Store x (Some i) e) h =
      (h.0, of_both Exists (reads_of e) (reads_of i) (of_kind e (variable_kind (slice_get names.variables x)) (h.0, h.1)) (expression i h.2))
  exist events (kind.Test e no_to) h = expression e h
  exist events kind.Goto h = tt
  exist events (kind.PrintText text) h = tt
  exist events (kind.PrintValue e) h = expression e h
  exist events kind.PrintTime h = tt
  exist events (kind.Write c e) h =
      (h.0, of_both Exists (reads_of e) (notified_next (numbers_where (is_of_signal c) 0 events)) (of_kind e (signal_kind (slice_get names.channels c)) h) (next (numbers_where (is_of_signal c) 0 events)))
  exist events (kind.TestAvailable c no_to) h = (h, tt)
  exist events (kind.TestFree c no_to) h = (h, tt)
  exist events (kind.Take c n) h = (h.0, next (numbers_where (is_data_read c) 0 events))
  exist events (kind.Put c e) h =
      (h.0, of_both Exists (reads_of e) (notified_next (numbers_where (is_data_written c) 0 events)) (of_kind e (fifo_kind (slice_get names.channels c)) h) (next (numbers_where (is_data_written c) 0 events)))
  exist events (kind.Notify e t) h = (tt, of_time t h.1)
  exist events (kind.Cancel e) h = (tt, tt)
  exist events kind.Stop h = tt
  exist events (kind.Trigger w) h = of_wait w.time h.time
  exist events (kind.Wait w) h = of_wait w.time h.time
  exist events kind.End h = tt
