-- A design has one list of segments, and one list of edges between them.
use Rattle.std.proofs.Common.{◌≡◌, ℕ, suc, ◌<◌, List, [], ◌∷◌, refl, ap, sym, ◌∙◌, subst, arith, inl, inr, Option, Some, None}
use Rattle.std.specs.Prelude.{All, IsSomeAnd, slice_get, map}
use Rattle.ooo_code.specs.declared.design.Design.{Design}
use Rattle.ooo_code.specs.declared.design.Proc.{Proc}
use Rattle.ooo_code.specs.declared.segment.Segment.{Segment}
use Rattle.ooo_code.specs.declared.segment.SegmentEntry.{SegmentEntry}
use Rattle.ooo_code.specs.Segments.{InSegment, IsSegment, IsSegmentOf}
use Rattle.ooo_segments.specs.declared.graphs.Edge.{Edge}
use Rattle.ooo_segments.specs.Beginnings.{AreSegments, beginning_of}
use Rattle.ooo_segments.specs.Edges.{AreEdges, IsBeforePair}
use Rattle.ooo_tables.proofs.Ordered.{same_ordered}

-- a segment by its parts
abbrev segment_of : (process : ℕ) → SegmentEntry → (nodes : List ℕ) → Segment
segment_of process entry nodes = record { process = process; entry = entry; nodes = nodes }

same_parts : (x y : Segment) → x.process ≡ y.process → x.entry ≡ y.entry → x.nodes ≡ y.nodes → x ≡ y
same_parts x y p e n =
    ap (λ (k : ℕ). segment_of k x.entry x.nodes) p ∙ ap (λ (k : SegmentEntry). segment_of y.process k x.nodes) e ∙ ap (λ (k : List ℕ). segment_of y.process y.entry k) n

-- two segments of a process with one entry have the same nodes
same_nodes : (design : Design) (process : Option Proc) (x y : Segment) → x.entry ≡ y.entry → IsSomeAnd process (λ p. IsSegmentOf design p x) → IsSomeAnd process (λ p. IsSegmentOf design p y) → x.nodes ≡ y.nodes
same_nodes design None x y e a b = absurd a
same_nodes design (Some p) x y e a b =
    same_ordered (λ (m n : ℕ). m < n) (λ m n lt gt. omega arith) x.nodes y.nodes a.ascending b.ascending
    (λ n h. (b.nodes n).1 (subst (λ k. InSegment design p k n) e ((a.nodes n).0 h)))
    (λ n h. (a.nodes n).1 (subst (λ k. InSegment design p k n) (sym e) ((b.nodes n).0 h)))

-- two segments that begin alike are the same
same_segment : (design : Design) (x y : Segment) → beginning_of x ≡ beginning_of y → IsSegment design x → IsSegment design y → x ≡ y
same_segment design x y e a b =
    let p : x.process ≡ y.process = ap (λ (k : ℕ × SegmentEntry). k.0) e in
    let entry : x.entry ≡ y.entry = ap (λ (k : ℕ × SegmentEntry). k.1) e in
    let b' = subst (λ k. IsSomeAnd (slice_get design.processes k) (λ process. IsSegmentOf design process y)) (sym p) b in
    same_parts x y p entry (same_nodes design (slice_get design.processes x.process) x y entry a b')

same_list : (design : Design) (xs ys : List Segment) → map beginning_of xs ≡ map beginning_of ys → All (IsSegment design) xs → All (IsSegment design) ys → xs ≡ ys
same_list design [] [] e a b = refl
same_list design [] (y ∷ ys) e a b = absurd cc
same_list design (x ∷ xs) [] e a b = absurd cc
same_list design (x ∷ xs) (y ∷ ys) e a b =
    let first : beginning_of x ≡ beginning_of y = cc in
    let others : map beginning_of xs ≡ map beginning_of ys = cc in
    let s : x ≡ y = same_segment design x y first (a 0 x (omega arith)) (b 0 y (omega arith)) in
    let more = same_list design xs ys others (λ k d lt. a (suc k) d (omega arith)) (λ k d lt. b (suc k) d (omega arith)) in
    ap (λ w. w ∷ xs) s ∙ ap (λ ws. y ∷ ws) more

pub same_segments : (design : Design) (xs ys : List Segment) → AreSegments design xs → AreSegments design ys → xs ≡ ys
same_segments design xs ys a b = same_list design xs ys (a.order ∙ sym b.order) a.each b.each

-- two edges can't each stand before the other
apart : (e f : Edge) → IsBeforePair e f.from f.to → IsBeforePair f e.from e.to → ⊥
apart e f a b = elim a [
  | inl x ↦ elim b [ inl y ↦ omega arith | inr y ↦ let z = y.0 in omega arith ]
  | inr x ↦ let w = x.0 in let v = x.1 in elim b [ inl y ↦ omega arith | inr y ↦ let z = y.1 in omega arith ]
]

pub same_edges : (design : Design) (segments : List Segment) (xs ys : List Edge) → AreEdges design segments xs → AreEdges design segments ys → xs ≡ ys
same_edges design segments xs ys a b =
    same_ordered (λ (e f : Edge). IsBeforePair e f.from f.to) apart xs ys a.in_order b.in_order (λ e h. (b.exact e).1 ((a.exact e).0 h)) (λ e h. (a.exact e).1 ((b.exact e).0 h))
