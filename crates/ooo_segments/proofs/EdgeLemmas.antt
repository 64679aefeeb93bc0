-- Edges: those between the pairs of segments so far, and one pair more.
use Rattle.std.proofs.Common.{◌≡◌, ℕ, ◌+◌, ◌<◌, ◌≤◌, List, [], ◌∷◌, ◌++◌, length, get_or, refl, subst, arith, inl, inr, ◌⊎◌, ◌↔◌, Option, Some, None}
use Rattle.std.specs.Prelude.{slice_get, Contains, IsSomeAnd}
use Rattle.std.proofs.lemmas.Bool.{cases_lt}
use Rattle.std.proofs.lemmas.Option.{slice_get_within}
use Rattle.std.proofs.lemmas.List.Elements.{Contains-push, Contains-push_cases, Contains-append_left, Contains-get_or}
use Rattle.std.proofs.lemmas.List.Quantifiers.{all_pairs_push}
use Rattle.ooo_time.specs.declared.delay.Delay.{Delay}
use Rattle.ooo_code.specs.declared.design.Design.{Design}
use Rattle.ooo_code.specs.declared.segment.Segment.{Segment}
use Rattle.ooo_segments.specs.declared.graphs.Edge.{Edge}
use Rattle.ooo_segments.specs.Edges.{IsEdge, Follows, IsBeforePair, AreEdges, AreEdgesBefore}
use Rattle.ooo_segments.proofs.Lists.{some_and}

-- an edge by its parts
abbrev pub edge_of : ℕ → ℕ → Delay → Edge
edge_of from to delay = record { from = from; to = to; delay = delay }

-- both ends of an edge are segments
pub edge_within : (design : Design) (segments : List Segment) (e : Edge) → IsEdge design segments e → (e.from < length segments) × (e.to < length segments)
edge_within design segments e h =
    let a = some_and (slice_get segments e.from) (λ a. IsSomeAnd (slice_get segments e.to) (λ b. Follows design e.from e.to a b e.delay)) h in
    let b = some_and (slice_get segments e.to) (λ b. Follows design e.from e.to a.0 b e.delay) a.2 in
    (slice_get_within segments e.from a.0 a.1, slice_get_within segments e.to b.0 b.1)

-- an edge between two segments that are known
pub edge_follows : (design : Design) (segments : List Segment) (from to : ℕ) (d : Delay) (a b : Segment) → slice_get segments from ≡ Some a → slice_get segments to ≡ Some b → IsEdge design segments (edge_of from to d) → Follows design from to a b d
edge_follows design segments from to d a b is is' h = rw (is, is') at h

-- and the other way round
pub follows_edge : (design : Design) (segments : List Segment) (from to : ℕ) (d : Delay) (a b : Segment) → slice_get segments from ≡ Some a → slice_get segments to ≡ Some b → Follows design from to a b d → IsEdge design segments (edge_of from to d)
follows_edge design segments from to d a b is is' h = rw (is, is') h

-- what stands before a pair stands before the next one
before_next : (e : Edge) (from to : ℕ) → IsBeforePair e from to → IsBeforePair e from (to + 1)
before_next e from to h = elim h [ inl a ↦ inl a | inr b ↦ let lt = b.1 in inr (b.0, omega arith) ]

-- what stands before the next pair is at this one, or stands before it
at_or_before : (e : Edge) (from to : ℕ) → IsBeforePair e from (to + 1) → IsBeforePair e from to ⊎ ((e.from ≡ from) × (e.to ≡ to))
at_or_before e from to h =
    elim h [
      | inl a ↦ inl (inl a)
      | inr b ↦ elim (cases_lt e.to to) [ inl lt ↦ inl (inr (b.0, lt)) | inr ge ↦ let lt = b.1 in inr (b.0, omega arith) ]
    ]

-- an edge between a pair is the one by the delay that they have
edge_at : (design : Design) (segments : List Segment) (from to : ℕ) (a b : Segment) (r : Option Delay) → slice_get segments from ≡ Some a → slice_get segments to ≡ Some b → ((d : Delay) → (r ≡ Some d) ↔ Follows design from to a b d) → (e : Edge) → IsEdge design segments e → e.from ≡ from → e.to ≡ to → r ≡ Some e.delay
edge_at design segments from to a b r is is' exact e h f t =
    let P : ℕ → ℕ → Type 0 = λ m n. IsEdge design segments (edge_of m n e.delay) in
    let g : P from e.to = subst (λ m. P m e.to) f h in
    let k : P from to = subst (λ n. P from n) t g in
    (exact e.delay).1 (edge_follows design segments from to e.delay a b is is' k)

-- a pair with an edge
pub edge_more : (design : Design) (segments : List Segment) (from to : ℕ) (a b : Segment) (r : Option Delay) (delay : Delay) (edges : List Edge) → slice_get segments from ≡ Some a → slice_get segments to ≡ Some b → ((d : Delay) → (r ≡ Some d) ↔ Follows design from to a b d) → r ≡ Some delay → AreEdgesBefore design segments from to edges → AreEdgesBefore design segments from (to + 1) (edges ++ edge_of from to delay ∷ [])
edge_more design segments from to a b r delay edges is is' exact some h =
    let new = edge_of from to delay in
    record {
      exact = λ e. (
        λ w. elim (Contains-push_cases edges new e w) [
          | inl old ↦ let p = (h.exact e).0 old in (p.0, before_next e from to p.1)
          | inr same ↦
              let P : Edge → Type 0 = λ x. IsEdge design segments x × IsBeforePair x from (to + 1) in
              let last : to < to + 1 = omega arith in
              subst P same (follows_edge design segments from to delay a b is is' ((exact delay).0 some), inr (refl, last))
        ],
        λ w. elim (at_or_before e from to w.1) [
          | inl before ↦ Contains-append_left edges (new ∷ []) e ((h.exact e).1 (w.0, before))
          | inr at ↦
              let q = edge_at design segments from to a b r is is' exact e w.0 at.0 at.1 in
              let d : delay ≡ e.delay = cc in
              let same : new ≡ edge_of e.from e.to e.delay = let f = at.0 in let t = at.1 in cc in
              subst (λ x. Contains (edges ++ new ∷ []) x) same (Contains-push edges new)
        ],
      );
      in_order = all_pairs_push (λ e f. IsBeforePair e f.from f.to) edges new h.in_order (λ k d lt. ((h.exact (get_or edges k d)).0 (Contains-get_or edges k d lt)).1);
    }

-- a pair with none
pub edge_none : (design : Design) (segments : List Segment) (from to : ℕ) (a b : Segment) (r : Option Delay) (edges : List Edge) → slice_get segments from ≡ Some a → slice_get segments to ≡ Some b → ((d : Delay) → (r ≡ Some d) ↔ Follows design from to a b d) → r ≡ None → AreEdgesBefore design segments from to edges → AreEdgesBefore design segments from (to + 1) edges
edge_none design segments from to a b r edges is is' exact none h = record {
  exact = λ e. (
    λ w. let p = (h.exact e).0 w in (p.0, before_next e from to p.1),
    λ w. elim (at_or_before e from to w.1) [
      | inl before ↦ (h.exact e).1 (w.0, before)
      | inr at ↦ let q = edge_at design segments from to a b r is is' exact e w.0 at.0 at.1 in absurd cc
    ],
  );
  in_order = h.in_order;
}

-- the end of a row is the beginning of the next one
pub row_end : (design : Design) (segments : List Segment) (from to : ℕ) (edges : List Edge) → length segments ≤ to → AreEdgesBefore design segments from to edges → AreEdgesBefore design segments (from + 1) 0 edges
row_end design segments from to edges all h = record {
  exact = λ e. (
    λ w. let p = (h.exact e).0 w in (p.0, elim p.1 [ inl a ↦ inl (omega arith) | inr b ↦ let f = b.0 in inl (omega arith) ]),
    λ w. (h.exact e).1 (
      w.0,
      elim w.1 [
        | inl a ↦ elim (cases_lt e.from from) [
          | inl lt ↦ inl lt
          | inr ge ↦ let inside = (edge_within design segments e w.0).1 in inr (omega arith, omega arith)
        ]
        | inr b ↦ let lt = b.1 in absurd (omega arith)
      ],
    ),
  );
  in_order = h.in_order;
}

-- behind the last row there are all edges
pub edges_end : (design : Design) (segments : List Segment) (from : ℕ) (edges : List Edge) → length segments ≤ from → AreEdgesBefore design segments from 0 edges → AreEdges design segments edges
edges_end design segments from edges all h = record {
  exact = λ e. (
    λ w. ((h.exact e).0 w).0,
    λ w. let inside = (edge_within design segments e w).0 in (h.exact e).1 (w, inl (omega arith)),
  );
  in_order = h.in_order;
}
