-- A turn of the search, and its end.
use Rattle.std.proofs.Common.{◌≡◌, ℕ, zero, suc, ◌<◌, ◌≤◌, Bool, true, false, List, [], ◌∷◌, ◌++◌, length, Option, Some, refl, sym, ap, ◌∙◌, subst, arith, inl, inr, ◌⊎◌}
use Rattle.std.specs.Prelude.{slice_set}
use Rattle.ooo_time.specs.declared.delay.Delay.{Delay}
use Rattle.ooo_time.specs.Delays.{joined}
use Rattle.ooo_time.specs.Scales.{greatest_time}
use Rattle.ooo_segments.specs.declared.graphs.Edge.{Edge}
use Rattle.ooo_segments.specs.declared.graphs.Graph.{Graph}
use Rattle.ooo_segments.specs.Numbers.{IsIn}
use Rattle.ooo_access.specs.declared.access.Access.{Access}
use Rattle.ooo_advance.specs.Orders.{AtMost}
use Rattle.ooo_advance.specs.Walks.{IsEdge, Walk, HasWalk, edge_of, no_delay, sum_from}
use Rattle.ooo_advance.specs.Orders.{HasAtMost}
use Rattle.ooo_advance.specs.Rows.{delay_at}
use Rattle.ooo_advance.specs.Settled.{IsSettled}
use Rattle.ooo_advance.specs.Turns.{AreLinks, Fits, IsUnderWay, IsNearest, IsLowered}
use Rattle.ooo_advance.proofs.OrderLemmas.{joined_right, joined_more, at_most_refl, at_most_trans}

-- ---- marks

in_kept : (xs : List Bool) (n m : ℕ) → IsIn xs m → IsIn (slice_set xs n true) m
in_kept [] n m h = h
in_kept (x ∷ xs) zero zero h = refl
in_kept (x ∷ xs) zero (suc m) h = h
in_kept (x ∷ xs) (suc n) zero h = h
in_kept (x ∷ xs) (suc n) (suc m) h = in_kept xs n m h

in_marked : (xs : List Bool) (n : ℕ) → n < length xs → IsIn (slice_set xs n true) n
in_marked [] n h = absurd (omega arith)
in_marked (x ∷ xs) zero h = refl
in_marked (x ∷ xs) (suc n) h = in_marked xs n (omega arith)

in_old : (xs : List Bool) (n m : ℕ) → IsIn (slice_set xs n true) m → IsIn xs m ⊎ (m ≡ n)
in_old [] n m h = inl h
in_old (x ∷ xs) zero zero h = inr refl
in_old (x ∷ xs) zero (suc m) h = inl h
in_old (x ∷ xs) (suc n) zero h = inl h
in_old (x ∷ xs) (suc n) (suc m) h = elim (in_old xs n m h) [ inl a ↦ inl a | inr e ↦ inr (ap suc e) ]

in_or_not : (xs : List Bool) (n : ℕ) → IsIn xs n ⊎ (IsIn xs n → ⊥)
in_or_not [] n = inr (λ h. cc)
in_or_not (true ∷ xs) zero = inl refl
in_or_not (false ∷ xs) zero = inr (λ h. cc)
in_or_not (x ∷ xs) (suc n) = in_or_not xs n

-- ---- walks

walk_push : (graph : Graph) (access : List Access) (es : List Edge) (a b c : ℕ) (k : Delay) → Walk graph access a b es → IsEdge graph access (edge_of b c k) → Walk graph access a c (es ++ edge_of b c k ∷ [])
walk_push graph access [] a b c k w e = (sym w, e, refl)
walk_push graph access (f ∷ fs) a b c k w e = (w.0, w.1, walk_push graph access fs f.to b c k w.2 e)

sum_push : (es : List Edge) (s : Delay) (e : Edge) → sum_from s (es ++ e ∷ []) ≡ joined (sum_from s es) e.delay
sum_push [] s e = refl
sum_push (f ∷ fs) s e = sum_push fs (joined s f.delay) e

further : (graph : Graph) (access : List Access) (a n v : ℕ) (x k : Delay) → HasWalk graph access a n x → IsEdge graph access (edge_of n v k) → HasWalk graph access a v (joined x k)
further graph access a n v x k h e = record {
  edges = h.edges ++ edge_of n v k ∷ [];
  walk = walk_push graph access h.edges a n v k h.walk e;
  sum = sum_push h.edges no_delay (edge_of n v k) ∙ ap (λ d. joined d k) h.sum;
}

pub weaker : (known : Option Delay) (d e : Delay) → HasAtMost known d → AtMost d e → HasAtMost known e
weaker known d e h le = record { has = h.has; is = h.is; at_most = at_most_trans h.has d e h.at_most le }

-- ---- a turn

-- nothing is less than no delay
no_less : (d : Delay) → AtMost d no_delay → d ≡ no_delay
no_less d h =
    let t = h.time in
    let z : d.time.0 ≡ 0 = omega arith in
    let g = h.deltas z in
    let y : d.deltas ≡ 0 = omega arith in
    let make : ℕ → ℕ → Delay = λ m n. record { time = record { 0 = m }; deltas = n } in
    ap (λ m. make m d.deltas) z ∙ ap (λ n. make 0 n) y

keep_start : (graph : Graph) (access : List Access) (a : ℕ) (row row' : List (Option Delay)) (done : List Bool) (links : List (Option Delay)) (x : Delay) (n : ℕ) → IsUnderWay graph access a row done → IsLowered (slice_set done n true) row row' links x → delay_at row' a ≡ Some no_delay
keep_start graph access a row row' done links x n s low =
    let h = low.less a no_delay s.start in
    h.is ∙ ap Some (no_less h.has h.at_most)

-- what comes by an edge from the segment that is done now
from_now : (graph : Graph) (access : List Access) (a n : ℕ) (x : Delay) (row row' links : List (Option Delay)) (done : List Bool) → n < length done → IsUnderWay graph access a row done → IsNearest row done n x → AreLinks graph access n links → IsLowered (slice_set done n true) row row' links x → (e : Edge) → e.from ≡ n → IsEdge graph access e → Fits x e.delay → HasAtMost (delay_at row' e.to) (joined x e.delay)
from_now graph access a n x row row' links done inside s near link low e m edge fits =
    let done' = slice_set done n true in
    let here : IsIn done' n = in_marked done n inside in
    let at_n : delay_at row' n ≡ Some x = low.kept n here ∙ near.is in
    elim (in_or_not done' e.to) [
      | inr out ↦
          let l = link.least e m edge in
          let keeps = joined_right x l.has e.delay l.at_most in
          let t = keeps.time in
          let f : Fits x l.has = omega arith in
          weaker (delay_at row' e.to) (joined x l.has) (joined x e.delay) (low.lowered e.to l.has out l.is f) keeps
      | inl in' ↦ elim (in_old done n e.to in') [
        | inl old ↦
            let r = s.reached e.to old in
            let le = s.order e.to n r.0 x old near.not_done r.1 near.is in
            record { has = r.0; is = low.kept e.to in' ∙ r.1; at_most = at_most_trans r.0 x (joined x e.delay) le (joined_more x e.delay) }
        | inr q ↦ record { has = x; is = subst (λ j. delay_at row' j ≡ Some x) (sym q) at_n; at_most = joined_more x e.delay }
      ]
    ]

-- what holds while the search is under way holds after a turn
pub turn : (graph : Graph) (access : List Access) (a n : ℕ) (x : Delay) (row row' links : List (Option Delay)) (done : List Bool) → n < length done → IsUnderWay graph access a row done → IsNearest row done n x → AreLinks graph access n links → IsLowered (slice_set done n true) row row' links x → IsUnderWay graph access a row' (slice_set done n true)
turn graph access a n x row row' links done inside s near link low =
    let done' = slice_set done n true in
    let here : IsIn done' n = in_marked done n inside in
    let at_n : delay_at row' n ≡ Some x = low.kept n here ∙ near.is in
    record {
      walks = λ b d is. elim (low.from b d is) [
        | inl old ↦ s.walks b d old
        | inr new ↦
            let w = further graph access a n b x new.0 (s.walks n x near.is).0 (link.edges b new.0 new.1) in
            (subst (λ z. HasWalk graph access a b z) (sym new.3) w, subst (λ (z : Delay). z.time.0 ≤ greatest_time) (sym new.3) new.2)
      ];
      start = keep_start graph access a row row' done links x n s low;
      reached = λ v h. elim (in_old done n v h) [
        | inl old ↦ let r = s.reached v old in (r.0, low.kept v h ∙ r.1)
        | inr e ↦ (x, subst (λ m. delay_at row' m ≡ Some x) (sym e) at_n)
      ];
      closed = λ e d h is edge fits. elim (in_old done n e.from h) [
        | inl old ↦
            let r = s.closed e d old (sym (low.kept e.from h) ∙ is) edge fits in
            weaker (delay_at row' e.to) r.has (joined d e.delay) (low.less e.to r.has r.is) r.at_most
        | inr m ↦
            let same : d ≡ x = let q = subst (λ j. delay_at row' j ≡ Some d) m is in cc in
            subst (λ z. HasAtMost (delay_at row' e.to) (joined z e.delay)) (sym same)
            (from_now graph access a n x row row' links done inside s near link low e m edge (subst (λ z. Fits z e.delay) same fits))
      ];
      order = λ u v d k hu hv iu iv.
          let open_v : IsIn done v → ⊥ = λ h. hv (in_kept done n v h) in
          let below : AtMost d x = elim (in_old done n u hu) [
            | inl old ↦ s.order u n d x old near.not_done (sym (low.kept u hu) ∙ iu) near.is
            | inr m ↦ let same : d ≡ x = let q = subst (λ j. delay_at row' j ≡ Some d) m iu in cc in subst (λ z. AtMost z x) (sym same) (at_most_refl x)
          ] in
          elim (low.from v k iv) [
            | inl old ↦ at_most_trans d x k below (near.nearest v k open_v old)
            | inr new ↦ subst (λ z. AtMost d z) (sym new.3) (at_most_trans d x (joined x new.0) below (joined_more x new.0))
          ];
    }

-- where none is nearest, the row is settled
pub settled : (graph : Graph) (access : List Access) (a : ℕ) (row : List (Option Delay)) (done : List Bool) → IsUnderWay graph access a row done → ((v : ℕ) (k : Delay) → (IsIn done v → ⊥) → delay_at row v ≡ Some k → ⊥) → IsSettled graph access a row
settled graph access a row done s none = record {
  walks = s.walks;
  start = s.start;
  closed = λ e d is edge fits. elim (in_or_not done e.from) [
    | inl in' ↦ s.closed e d in' is edge fits
    | inr out ↦ absurd (none e.from d out is)
  ];
}
