-- An expression notifies, cancels and writes nothing: what it touches is read.
use Rattle.std.proofs.Common.{◌≡◌, List, [], ◌∷◌, ◌++◌, refl, sym, ap, ◌∙◌, subst}
use Rattle.std.specs.Prelude.{⊤}
use Rattle.std.specs.List.{AllByRecursion}
use Rattle.ooo_code.specs.declared.expression.NodeExpr.{NodeExpr, NodeExpr-F, ind-NodeExpr, map-NodeExpr, roll-NodeExpr, fold-roll-NodeExpr}
use Rattle.ooo_code.specs.declared.expression.NodeExpr.TheOpen as layer
use Rattle.ooo_code.specs.Touches.{Touch, Reads, ReadsSignal, HoldsReading, HoldsWriting, reads_step, reads_of}

-- what an expression may touch
abbrev pub IsRead : Touch → Type 0
IsRead (Reads x) = ⊤
IsRead (ReadsSignal c) = ⊤
IsRead (HoldsReading c) = ⊤
IsRead (HoldsWriting c) = ⊤
IsRead _ = ⊥

both : (xs ys : List Touch) → AllByRecursion IsRead xs → AllByRecursion IsRead ys → AllByRecursion IsRead (xs ++ ys)
both [] ys h k = k
both (x ∷ xs) ys h k = (h.0, both xs ys h.1 k)

abbrev P : NodeExpr → Type 0
P e = AllByRecursion IsRead (reads_of e)

abbrev Shown : Type 0
Shown = (e : NodeExpr) × P e

pub reads_at : (y : NodeExpr-F NodeExpr) → reads_of (roll-NodeExpr y) ≡ reads_step (map-NodeExpr NodeExpr (List Touch) reads_of y)
unfolding reads_of
reads_at y = fold-roll-NodeExpr (List Touch) reads_step y

of_layer : (y : NodeExpr-F Shown) → AllByRecursion IsRead (reads_step (map-NodeExpr Shown (List Touch) (λ e. reads_of e.0) y))
of_layer (layer.Constant v) = tt
of_layer (layer.Slot n) = tt
of_layer (layer.Variable x) = (tt, tt)
of_layer (layer.Element x i) = (tt, i.1)
of_layer (layer.Signal c) = (tt, tt)
of_layer (layer.Event c) = (tt, tt)
of_layer (layer.Edge c up) = (tt, tt)
of_layer (layer.Available c) = (tt, tt)
of_layer (layer.Free c) = (tt, tt)
of_layer (layer.Convert k e) = e.1
of_layer (layer.Negate e) = e.1
of_layer (layer.Invert e) = e.1
of_layer (layer.Not e) = e.1
of_layer (layer.Binary op e f) = both (reads_of e.0) (reads_of f.0) e.1 f.1
of_layer (layer.And e f) = both (reads_of e.0) (reads_of f.0) e.1 f.1
of_layer (layer.Or e f) = both (reads_of e.0) (reads_of f.0) e.1 f.1
of_layer (layer.Choose c e f) = both (reads_of c.0 ++ reads_of e.0) (reads_of f.0) (both (reads_of c.0) (reads_of e.0) c.1 e.1) f.1

-- expressions with a fact of each
abbrev pub With : (NodeExpr → Type 0) → Type 0
With Q = (e : NodeExpr) × Q e

pub fused : (Q : NodeExpr → Type 0) (X : Type 0) (f : NodeExpr → X) (y : NodeExpr-F (With Q)) → map-NodeExpr NodeExpr X f (map-NodeExpr (With Q) NodeExpr (λ e. e.0) y) ≡ map-NodeExpr (With Q) X (λ e. f e.0) y
fused Q X g (layer.Constant v) = refl
fused Q X g (layer.Slot n) = refl
fused Q X g (layer.Variable x) = refl
fused Q X g (layer.Element x i) = refl
fused Q X g (layer.Signal c) = refl
fused Q X g (layer.Event c) = refl
fused Q X g (layer.Edge c up) = refl
fused Q X g (layer.Available c) = refl
fused Q X g (layer.Free c) = refl
fused Q X g (layer.Convert k e) = refl
fused Q X g (layer.Negate e) = refl
fused Q X g (layer.Invert e) = refl
fused Q X g (layer.Not e) = refl
fused Q X g (layer.Binary op e f) = refl
fused Q X g (layer.And e f) = refl
fused Q X g (layer.Or e f) = refl
fused Q X g (layer.Choose c e f) = refl

step : (y : NodeExpr-F Shown) → P (roll-NodeExpr (map-NodeExpr Shown NodeExpr (λ e. e.0) y))
step y = subst (AllByRecursion IsRead) (sym (reads_at (map-NodeExpr Shown NodeExpr (λ e. e.0) y) ∙ ap reads_step (fused P (List Touch) reads_of y))) (of_layer y)

pub only_reads : (e : NodeExpr) → AllByRecursion IsRead (reads_of e)
only_reads e = ind-NodeExpr P (λ x y e. subst (λ x. P (roll-NodeExpr x)) e (step y)) e
