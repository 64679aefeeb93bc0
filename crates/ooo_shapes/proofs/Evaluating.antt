-- What an expression of a statement gives depends on what it reads alone.
use Rattle.std.proofs.Common.{◌≡◌, ℕ, List, ◌++◌, Option, Some, None, refl, sym, ap, ◌∙◌, subst}
use Rattle.std.specs.List.{AllByRecursion}
use Rattle.ooo_lemmas.proofs.Each.{first_part, then_part}
use Rattle.ooo_code.specs.Expressions.{signal_seen, fifo_seen, cells_of, time_by}
use Rattle.ooo_code.specs.Nodes.{some_time}
use Rattle.ooo_code.specs.Touches.{Touch, Reads, ReadsSignal, HoldsReading, HoldsWriting}
use Rattle.ooo_bound.specs.declared.expr.BoundExpr.{BoundExpr, BoundExpr-F, ind-BoundExpr, map-BoundExpr, roll-BoundExpr, fold-roll-BoundExpr}
use Rattle.ooo_bound.specs.declared.expr.BoundExpr.TheOpen as layer
use Rattle.ooo_bound.specs.declared.expr.BoundTime.{BoundTime}
use Rattle.ooo_bound.specs.declared.expr.BoundTime.TheVariants as time
use Rattle.ooo_activation.specs.Expressions.{Sight, Reading, reading_step, reading_of, time_given, wait_time}
use Rattle.ooo_activation.specs.Touches.{reads_step, reads_of, time_reads, wait_reads}

reading_at : (y : BoundExpr-F BoundExpr) (s : Sight) → reading_of (roll-BoundExpr y) s ≡ reading_step (map-BoundExpr BoundExpr Reading reading_of y) s
unfolding reading_of
reading_at y s = ap (λ (f : Reading). f s) (fold-roll-BoundExpr Reading reading_step y)

reads_at : (y : BoundExpr-F BoundExpr) → reads_of (roll-BoundExpr y) ≡ reads_step (map-BoundExpr BoundExpr (List Touch) reads_of y)
unfolding reads_of
reads_at y = fold-roll-BoundExpr (List Touch) reads_step y

-- two sights agree on what is touched
pub record SameSight (T : Touch → Type 0) (a b : Sight) : Type 0 where
  pub locals : a.locals ≡ b.locals
  pub read : (x : ℕ) → T (Reads x) → cells_of a.variables x ≡ cells_of b.variables x
  pub signals : (c : ℕ) → T (ReadsSignal c) → signal_seen a.seen c ≡ signal_seen b.seen c
  pub readable : (c : ℕ) → T (HoldsReading c) → (fifo_seen a.seen c).values ≡ (fifo_seen b.seen c).values
  pub writable : (c : ℕ) → T (HoldsWriting c) → (fifo_seen a.seen c).free ≡ (fifo_seen b.seen c).free

module _ (T : Touch → Type 0) (a b : Sight) (same : SameSight T a b) where
  abbrev P : BoundExpr → Type 0
  P e = AllByRecursion T (reads_of e) → reading_of e a ≡ reading_of e b

  abbrev Shown : Type 0
  Shown = (e : BoundExpr) × P e

  -- the same for a layer whose parts have it
  abbrev Layer : BoundExpr-F Shown → Type 0
  Layer y = AllByRecursion T (reads_step (map-BoundExpr Shown (List Touch) (λ e. reads_of e.0) y)) → reading_step (map-BoundExpr Shown Reading (λ e. reading_of e.0) y) a ≡ reading_step (map-BoundExpr Shown Reading (λ e. reading_of e.0) y) b

  same_layer : (y : BoundExpr-F Shown) → Layer y
  same_layer (layer.Constant v) h = refl
  same_layer (layer.Local k n) h = rw same.locals refl
  same_layer (layer.Variable x) h = rw (same.read x h.0) refl
  same_layer (layer.Element x i) h = rw (same.read x h.0, i.1 h.1) refl
  same_layer (layer.Signal c) h = rw (same.signals c h.0) refl
  same_layer (layer.Changed c) h = rw (same.signals c h.0) refl
  same_layer (layer.Edge c up) h = rw (same.signals c h.0) refl
  same_layer (layer.Available c) h = rw (same.readable c h.0) refl
  same_layer (layer.Free c) h = rw (same.writable c h.0) refl
  same_layer (layer.Convert k e) h = rw (e.1 h) refl
  same_layer (layer.Promote e) h = rw (e.1 h) refl
  same_layer (layer.Negate e) h = rw (e.1 h) refl
  same_layer (layer.Invert e) h = rw (e.1 h) refl
  same_layer (layer.Not e) h = rw (e.1 h) refl
  same_layer (layer.Binary op e f) h =
      rw (e.1 (first_part T (reads_of e.0) (reads_of f.0) h), f.1 (then_part T (reads_of e.0) (reads_of f.0) h)) refl
  same_layer (layer.Both e f) h =
      rw (e.1 (first_part T (reads_of e.0) (reads_of f.0) h), f.1 (then_part T (reads_of e.0) (reads_of f.0) h)) refl
  same_layer (layer.Either e f) h =
      rw (e.1 (first_part T (reads_of e.0) (reads_of f.0) h), f.1 (then_part T (reads_of e.0) (reads_of f.0) h)) refl
  same_layer (layer.Choose k c e f) h =
      let first = first_part T (reads_of c.0 ++ reads_of e.0) (reads_of f.0) h in
      rw (c.1 (first_part T (reads_of c.0) (reads_of e.0) first), e.1 (then_part T (reads_of c.0) (reads_of e.0) first), f.1 (then_part T (reads_of c.0 ++ reads_of e.0) (reads_of f.0) h)) refl

  fused : (X : Type 0) (f : BoundExpr → X) (y : BoundExpr-F Shown) → map-BoundExpr BoundExpr X f (map-BoundExpr Shown BoundExpr (λ e. e.0) y) ≡ map-BoundExpr Shown X (λ e. f e.0) y
  fused X g (layer.Constant v) = refl
  fused X g (layer.Local k n) = refl
  fused X g (layer.Variable x) = refl
  fused X g (layer.Element x i) = refl
  fused X g (layer.Signal c) = refl
  fused X g (layer.Changed c) = refl
  fused X g (layer.Edge c up) = refl
  fused X g (layer.Available c) = refl
  fused X g (layer.Free c) = refl
  fused X g (layer.Convert k e) = refl
  fused X g (layer.Promote e) = refl
  fused X g (layer.Negate e) = refl
  fused X g (layer.Invert e) = refl
  fused X g (layer.Not e) = refl
  fused X g (layer.Binary op e f) = refl
  fused X g (layer.Both e f) = refl
  fused X g (layer.Either e f) = refl
  fused X g (layer.Choose k c e f) = refl

  step : (y : BoundExpr-F Shown) → P (roll-BoundExpr (map-BoundExpr Shown BoundExpr (λ e. e.0) y))
  step y every =
      let whole = map-BoundExpr Shown BoundExpr (λ e. e.0) y in
      let touched = subst (AllByRecursion T) (reads_at whole ∙ ap reads_step (fused (List Touch) reads_of y)) every in
      reading_at whole a ∙ ap (λ z. reading_step z a) (fused Reading reading_of y) ∙ same_layer y touched
      ∙ sym (reading_at whole b ∙ ap (λ z. reading_step z b) (fused Reading reading_of y))

  pub same_reading : (e : BoundExpr) → AllByRecursion T (reads_of e) → reading_of e a ≡ reading_of e b
  same_reading e = ind-BoundExpr P (λ x y e. subst (λ x. P (roll-BoundExpr x)) e (step y)) e

  pub same_time : (k : BoundTime) → AllByRecursion T (time_reads k) → time_given k a ≡ time_given k b
  same_time (time.Fixed t) h = refl
  same_time (time.Amount e scale) h = ap (time_by scale) (same_reading e h)

  pub same_wait : (k : Option BoundTime) → AllByRecursion T (wait_reads k) → wait_time k a ≡ wait_time k b
  same_wait None h = refl
  same_wait (Some k) h = ap some_time (same_time k h)
