-- What an expression gives depends on what it reads alone.
use Rattle.std.proofs.Common.{◌≡◌, ℕ, List, ◌++◌, refl, sym, ap, ◌∙◌, subst}
use Rattle.std.specs.List.{AllByRecursion}
use Rattle.ooo_lemmas.proofs.Each.{first_part, then_part}
use Rattle.ooo_code.specs.declared.expression.NodeExpr.{NodeExpr, NodeExpr-F, ind-NodeExpr, map-NodeExpr, roll-NodeExpr, fold-roll-NodeExpr}
use Rattle.ooo_code.specs.declared.expression.NodeExpr.TheOpen as layer
use Rattle.ooo_code.specs.Expressions.{Sight, Reading, reading_step, reading_of, signal_seen, fifo_seen, cells_of}
use Rattle.ooo_code.specs.Touches.{Touch, Reads, ReadsSignal, HoldsReading, HoldsWriting, reads_step, reads_of}

reading_at : (y : NodeExpr-F NodeExpr) (s : Sight) → reading_of (roll-NodeExpr y) s ≡ reading_step (map-NodeExpr NodeExpr Reading reading_of y) s
unfolding reading_of
reading_at y s = ap (λ (f : Reading). f s) (fold-roll-NodeExpr Reading reading_step y)

reads_at : (y : NodeExpr-F NodeExpr) → reads_of (roll-NodeExpr y) ≡ reads_step (map-NodeExpr NodeExpr (List Touch) reads_of y)
unfolding reads_of
reads_at y = fold-roll-NodeExpr (List Touch) reads_step y

-- two sights agree on what is touched
pub record SameSight (T : Touch → Type 0) (a b : Sight) : Type 0 where
  pub slots : a.slots ≡ b.slots
  pub read : (x : ℕ) → T (Reads x) → cells_of a.variables x ≡ cells_of b.variables x
  pub signals : (c : ℕ) → T (ReadsSignal c) → signal_seen a.seen c ≡ signal_seen b.seen c
  pub readable : (c : ℕ) → T (HoldsReading c) → (fifo_seen a.seen c).values ≡ (fifo_seen b.seen c).values
  pub writable : (c : ℕ) → T (HoldsWriting c) → (fifo_seen a.seen c).free ≡ (fifo_seen b.seen c).free

module _ (T : Touch → Type 0) (a b : Sight) (same : SameSight T a b) where
  abbrev pub P : NodeExpr → Type 0
  P e = AllByRecursion T (reads_of e) → reading_of e a ≡ reading_of e b

  abbrev pub Shown : Type 0
  Shown = (e : NodeExpr) × P e

  -- the same for a layer whose parts have it
  abbrev pub Layer : NodeExpr-F Shown → Type 0
  Layer y = AllByRecursion T (reads_step (map-NodeExpr Shown (List Touch) (λ e. reads_of e.0) y)) → reading_step (map-NodeExpr Shown Reading (λ e. reading_of e.0) y) a ≡ reading_step (map-NodeExpr Shown Reading (λ e. reading_of e.0) y) b

  same_layer : (y : NodeExpr-F Shown) → Layer y
  same_layer (layer.Constant v) h = refl
  same_layer (layer.Slot n) h = rw same.slots refl
  same_layer (layer.Variable x) h = rw (same.read x h.0) refl
  same_layer (layer.Element x i) h = rw (same.read x h.0, i.1 h.1) refl
  same_layer (layer.Signal c) h = rw (same.signals c h.0) refl
  same_layer (layer.Event c) h = rw (same.signals c h.0) refl
  same_layer (layer.Edge c up) h = rw (same.signals c h.0) refl
  same_layer (layer.Available c) h = rw (same.readable c h.0) refl
  same_layer (layer.Free c) h = rw (same.writable c h.0) refl
  same_layer (layer.Convert k e) h = rw (e.1 h) refl
  same_layer (layer.Negate e) h = rw (e.1 h) refl
  same_layer (layer.Invert e) h = rw (e.1 h) refl
  same_layer (layer.Not e) h = rw (e.1 h) refl
  same_layer (layer.Binary op e f) h =
      rw (e.1 (first_part T (reads_of e.0) (reads_of f.0) h), f.1 (then_part T (reads_of e.0) (reads_of f.0) h)) refl
  same_layer (layer.And e f) h =
      rw (e.1 (first_part T (reads_of e.0) (reads_of f.0) h), f.1 (then_part T (reads_of e.0) (reads_of f.0) h)) refl
  same_layer (layer.Or e f) h =
      rw (e.1 (first_part T (reads_of e.0) (reads_of f.0) h), f.1 (then_part T (reads_of e.0) (reads_of f.0) h)) refl
  same_layer (layer.Choose c e f) h =
      let first = first_part T (reads_of c.0 ++ reads_of e.0) (reads_of f.0) h in
      rw (c.1 (first_part T (reads_of c.0) (reads_of e.0) first), e.1 (then_part T (reads_of c.0) (reads_of e.0) first), f.1 (then_part T (reads_of c.0 ++ reads_of e.0) (reads_of f.0) h)) refl

  fused : (X : Type 0) (f : NodeExpr → X) (y : NodeExpr-F Shown) → map-NodeExpr NodeExpr X f (map-NodeExpr Shown NodeExpr (λ e. e.0) y) ≡ map-NodeExpr Shown X (λ e. f e.0) y
  fused X g (layer.Constant v) = refl
  fused X g (layer.Slot n) = refl
  fused X g (layer.Variable x) = refl
  fused X g (layer.Element x i) = refl
  fused X g (layer.Signal c) = refl
  fused X g (layer.Event c) = refl
  fused X g (layer.Edge c up) = refl
  fused X g (layer.Available c) = refl
  fused X g (layer.Free c) = refl
  fused X g (layer.Convert k e) = refl
  fused X g (layer.Negate e) = refl
  fused X g (layer.Invert e) = refl
  fused X g (layer.Not e) = refl
  fused X g (layer.Binary op e f) = refl
  fused X g (layer.And e f) = refl
  fused X g (layer.Or e f) = refl
  fused X g (layer.Choose c e f) = refl

  step : (y : NodeExpr-F Shown) → P (roll-NodeExpr (map-NodeExpr Shown NodeExpr (λ e. e.0) y))
  step y every =
      let whole = map-NodeExpr Shown NodeExpr (λ e. e.0) y in
      let touched = subst (AllByRecursion T) (reads_at whole ∙ ap reads_step (fused (List Touch) reads_of y)) every in
      reading_at whole a ∙ ap (λ z. reading_step z a) (fused Reading reading_of y) ∙ same_layer y touched
      ∙ sym (reading_at whole b ∙ ap (λ z. reading_step z b) (fused Reading reading_of y))

  pub same_reading : (e : NodeExpr) → AllByRecursion T (reads_of e) → reading_of e a ≡ reading_of e b
  same_reading e = ind-NodeExpr P (λ x y e. subst (λ x. P (roll-NodeExpr x)) e (step y)) e
