-- The least delay by which a segment leads to one that meets another one, and what comes before any such segment.
use Rattle.std.proofs.Common.{◌≡◌, ◌≢◌, ◌∙◌, refl, sym, ap, subst, arith, ℕ, ◌+◌, ◌<◌, ◌≤◌, ◌⊎◌, ◌↔◌, inl, inr, ⊎_elim, Bool, true, false, if◌then◌else◌, ◌==◌, List, [], ◌∷◌, ◌++◌, length, get_or, Option, None, Some}
use Rattle.std.specs.Prelude.{is_some, Contains}
use Rattle.std.proofs.lemmas.Bool.{cases_lt, cases_order, eqb-false, eqb-true}
use Rattle.std.proofs.lemmas.Bool.Decides.{eqb_tells}
use Rattle.std.proofs.lemmas.List.{get_or_default, get_or_append_left, get_or_push, length_push}
use Rattle.std.proofs.lemmas.List.Elements.{Contains-get_or}
use Rattle.ooo_time.specs.declared.stamp.Stamp.{Stamp}
use Rattle.ooo_time.specs.declared.delay.Delay.{Delay}
use Rattle.ooo_time.specs.Delays.{IsLess, advanced}
use Rattle.ooo_time.specs.Stamps.{IsBefore}
use Rattle.ooo_conflicts.specs.Clashing.{ClashesStrictly}
use Rattle.ooo_advance.specs.Rows.{entry_at, IsAddable}
use Rattle.ooo_advance.specs.Walks.{no_delay}
use Rattle.ooo_tables.specs.declared.tables.Tables.{Tables}
use Rattle.ooo_fronts.specs.declared.front.Front.{Front}
use Rattle.ooo_fronts.specs.Fronts.{AreAligned, IsFit, process_in}
use Rattle.ooo_fronts.specs.Holds.{hold_at, holds_of}
use Rattle.ooo_fronts.specs.Reaching.{AreSoonest, IsSoonest, IsSoonestRow, Meets, MeetsAfter, delay_by}
use Rattle.ooo_fronts.proofs.Holding.{IsFound, addable_at, found_by, meets_held}
use Rattle.ooo_fronts.proofs.Places.{transitive}
use Rattle.ooo_fronts.proofs.Timing.{before_or_at}
use Rattle.ooo_fronts.proofs.Totals.{none_counted}

-- ---- delays

-- what isn't less is as much, or more
as_much : (d e : Delay) → (IsLess e d → ⊥) → (d.time.0 < e.time.0) ⊎ ((d.time.0 ≡ e.time.0) × (d.deltas ≤ e.deltas))
as_much d e n =
    ⊎_elim (λ same. inr (same, ⊎_elim (λ x. omega (arith, x)) (λ h. ⊎_elim (λ x. omega (arith, x)) (λ x. absurd (n (inr (sym same, x)))) h) (cases_order d.deltas e.deltas)))
    (λ h. ⊎_elim (λ x. inl x) (λ x. absurd (n (inl x))) h) (cases_order d.time.0 e.time.0)

-- what isn't less than a delay isn't less than what that isn't less than
not_less : (e u m : Delay) → (IsLess e u → ⊥) → (IsLess u m → ⊥) → IsLess e m → ⊥
not_less e u m a b h = at (as_much u e a) (as_much m u b) h
  where
    at : (u.time.0 < e.time.0) ⊎ ((u.time.0 ≡ e.time.0) × (u.deltas ≤ e.deltas)) → (m.time.0 < u.time.0) ⊎ ((m.time.0 ≡ u.time.0) × (m.deltas ≤ u.deltas)) → IsLess e m → ⊥
    at (inl x) (inl y) (inl z) = absurd (omega (arith, x, y, z))
    at (inl x) (inr y) (inl z) = let t = y.0 in absurd (omega (arith, x, t, z))
    at (inr x) (inl y) (inl z) = let t = x.0 in absurd (omega (arith, t, y, z))
    at (inr x) (inr y) (inl z) = let t = x.0 in let v = y.0 in absurd (omega (arith, t, v, z))
    at (inl x) (inl y) (inr z) = let w = z.0 in absurd (omega (arith, x, y, w))
    at (inl x) (inr y) (inr z) = let t = y.0 in let w = z.0 in absurd (omega (arith, x, t, w))
    at (inr x) (inl y) (inr z) = let t = x.0 in let w = z.0 in absurd (omega (arith, t, y, w))
    at (inr x) (inr y) (inr z) = let t = x.1 in let v = y.1 in let w = z.1 in absurd (omega (arith, t, v, w))

-- nothing is less than no delay
pub none_less : (e : Delay) → IsLess e no_delay → ⊥
none_less e h = ⊎_elim (λ x. absurd (omega (arith, x))) (λ x. let y = x.1 in absurd (omega (arith, y))) h

-- of two delays after one stamp the one that leads to an earlier stamp is less
less_by : (s : Stamp) (e d : Delay) → IsBefore (advanced s e) (advanced s d) → IsLess e d
less_by s e d = at (e.time.0 == 0) (d.time.0 == 0) refl refl
  where
    at : (x y : Bool) → (e.time.0 == 0) ≡ x → (d.time.0 == 0) ≡ y →
        IsBefore (if x then record { time = s.time; delta = s.delta + e.deltas } else record { time = record { 0 = s.time.0 + e.time.0 }; delta = e.deltas })
        (if y then record { time = s.time; delta = s.delta + d.deltas } else record { time = record { 0 = s.time.0 + d.time.0 }; delta = d.deltas }) → IsLess e d
    at true true x y h =
        let a = eqb-true e.time.0 0 x in
        let b = eqb-true d.time.0 0 y in
        ⊎_elim (λ w. absurd (omega (arith, w))) (λ w. let v = w.1 in inr (omega (arith, a, b), omega (arith, v))) h
    at true false x y h =
        let a = eqb-true e.time.0 0 x in
        let some = eqb-false d.time.0 0 y in
        let zero : (d.time.0 ≡ 0) ⊎ (0 < d.time.0) = ⊎_elim (λ w. inl w) (λ w. ⊎_elim (λ v. absurd (omega (arith, v))) (λ v. inr v) w) (cases_order d.time.0 0) in
        ⊎_elim (λ w. absurd (some w)) (λ w. inl (omega (arith, a, w))) zero
    at false true x y h =
        let b = eqb-true d.time.0 0 y in
        let some = eqb-false e.time.0 0 x in
        ⊎_elim (λ w. absurd (omega (arith, w))) (λ w. let v = w.0 in absurd (some (omega (arith, v)))) h
    at false false x y h =
        ⊎_elim (λ w. inl (omega (arith, w))) (λ w. let u = w.0 in let v = w.1 in inr (omega (arith, u), omega (arith, v))) h

-- ---- the least of several delays

-- the least of the first i delays, of those that there are
abbrev pub LeastBelow : (ℕ → Option Delay) → (i : ℕ) → Option Delay → Type 0
LeastBelow f i None = (j : ℕ) → j < i → f j ≡ None
LeastBelow f i (Some d) = ((j : ℕ) × (j < i) × (f j ≡ Some d)) × ((j : ℕ) (e : Delay) → j < i → f j ≡ Some e → IsLess e d → ⊥)

pub least_first : (f : ℕ → Option Delay) → LeastBelow f 0 None
least_first f j lt = absurd (omega arith)

-- below one more, it is below i or i
here_or_below : (j i : ℕ) → j < i + 1 → (j < i) ⊎ (j ≡ i)
here_or_below j i lt = elim (cases_lt j i) [ inl below ↦ inl below | inr above ↦ inr (omega arith) ]

pub least_none : (f : ℕ → Option Delay) (i : ℕ) (r : Option Delay) → f i ≡ None → LeastBelow f i r → LeastBelow f (i + 1) r
least_none f i None e h = λ j lt. elim (here_or_below j i lt) [
  | inl below ↦ h j below
  | inr same ↦ ap f same ∙ e
]
least_none f i (Some d) e h = (
  (h.0.0, (let lt = h.0.1 in omega arith), h.0.2),
  λ j x lt is. elim (here_or_below j i lt) [
    | inl below ↦ h.1 j x below is
    | inr same ↦ λ b. let both : None ≡ Some x = sym e ∙ ap f (sym same) ∙ is in absurd cc
  ],
)

-- the lesser of a delay and one that may be missing
pub record IsLesserOf (one : Delay) (other : Option Delay) (d : Delay) : Type 0 where
  pub one_of : (d ≡ one) ⊎ (other ≡ Some d)
  pub first : IsLess one d → ⊥
  pub second : (u : Delay) → other ≡ Some u → IsLess u d → ⊥

pub least_some : (f : ℕ → Option Delay) (i : ℕ) (r : Option Delay) (one d : Delay) → f i ≡ Some one → LeastBelow f i r → IsLesserOf one r d → LeastBelow f (i + 1) (Some d)
least_some f i None one d e h is = (
  (i, omega arith, e ∙ ap (λ (x : Delay). Some x) (elim is.one_of [ inl same ↦ sym same | inr missing ↦ absurd cc ])),
  λ j x lt at b. elim (here_or_below j i lt) [
    | inl below ↦ let both : None ≡ Some x = sym (h j below) ∙ at in cc
    | inr same ↦
        let both : Some one ≡ Some x = sym e ∙ ap f (sym same) ∙ at in
        let there : x ≡ one = cc in
        is.first (rw there at b)
  ],
)
least_some f i (Some u) one d e h is = (
  elim is.one_of [
    | inl same ↦ (i, omega arith, e ∙ ap (λ (x : Delay). Some x) (sym same))
    | inr other ↦ let same : u ≡ d = cc in (h.0.0, (let lt = h.0.1 in omega arith), h.0.2 ∙ ap (λ (x : Delay). Some x) same)
  ],
  λ j x lt at b. elim (here_or_below j i lt) [
    | inl below ↦ not_less x u d (h.1 j x below at) (is.second u refl) b
    | inr same ↦
        let both : Some one ≡ Some x = sym e ∙ ap f (sym same) ∙ at in
        let there : x ≡ one = cc in
        is.first (rw there at b)
  ],
)

-- ---- the least delay of two segments

-- a delay to a segment of another process
met_by : (t : Tables) (a b c : ℕ) (d : Delay) → delay_by t a b c ≡ Some d → (process_in t b ≢ process_in t c) × (entry_at t.advance a b ≡ Some d)
met_by t a b c d h = at (process_in t b == process_in t c) refl h
  where
    at : (x : Bool) → (process_in t b == process_in t c) ≡ x → (if x then None else entry_at t.advance a b) ≡ Some d → (process_in t b ≢ process_in t c) × (entry_at t.advance a b ≡ Some d)
    at true e i = absurd cc
    at false e i = (eqb-false (process_in t b) (process_in t c) e, i)

by_met : (t : Tables) (a b c : ℕ) (d : Delay) → process_in t b ≢ process_in t c → entry_at t.advance a b ≡ Some d → delay_by t a b c ≡ Some d
by_met t a b c d ne e = elim (eqb_tells (process_in t b) (process_in t c)) [
  | inl w ↦ absurd (ne w.1)
  | inr w ↦ rw w.0 e
]

-- the same of the segment itself, as it was looked up
pub own_process : (t : Tables) (a b c : ℕ) → process_in t b ≡ process_in t c → None ≡ delay_by t a b c
own_process t a b c e = elim (eqb_tells (process_in t b) (process_in t c)) [
  | inl w ↦ rw w.0 refl
  | inr w ↦ absurd (w.1 e)
]

pub other_process : (t : Tables) (a b c : ℕ) → process_in t b ≢ process_in t c → entry_at t.advance a b ≡ delay_by t a b c
other_process t a b c ne = elim (eqb_tells (process_in t b) (process_in t c)) [
  | inl w ↦ absurd (ne w.1)
  | inr w ↦ rw w.0 refl
]

-- the delays to these segments
abbrev pub delays_to : Tables → (a c : ℕ) → (xs : List ℕ) → (j : ℕ) → Option Delay
delays_to t a c xs j = delay_by t a (get_or xs j 0) c

pub clashing_within : (t : Tables) (c : ℕ) (xs : List ℕ) → AreAligned t → ((b : ℕ) → Contains xs b ↔ ClashesStrictly t.clash b c) → (j : ℕ) → j < length xs → get_or xs j 0 < length t.graph.segments
clashing_within t c xs aligned exact j lt = let below = ((exact (get_or xs j 0)).0 (Contains-get_or xs j 0 lt)).0 in let n = aligned.clash in omega arith

pub least_all : (t : Tables) (a c : ℕ) (xs : List ℕ) (i : ℕ) (r : Option Delay) → AreAligned t → ((b : ℕ) → Contains xs b ↔ ClashesStrictly t.clash b c) → i ≡ length xs → LeastBelow (delays_to t a c xs) i r → IsSoonest t a c r
least_all t a c xs i r aligned exact end = at r
  where
    place : (e : Delay) → MeetsAfter t a c e → (j : ℕ) × (j < i) × (delays_to t a c xs j ≡ Some e)
    place e m =
        let n = aligned.clash in
        let lt = m.within in
        let there : m.by < length t.clash = omega (arith, n, lt) in
        let w = (exact m.by).1 (there, m.meets.1) in
        let below = w.1 in
        let here : get_or xs w.0 0 ≡ m.by = get_or_default xs w.0 0 m.by w.1 ∙ w.2 in
        (w.0, omega (arith, below, end), ap (λ b. delay_by t a b c) here ∙ by_met t a m.by c e m.meets.0 m.leads)

    at : (r : Option Delay) → LeastBelow (delays_to t a c xs) i r → IsSoonest t a c r
    at None h = λ e m. let w = place e m in let both : None ≡ Some e = sym (h w.0 w.1) ∙ w.2 in absurd cc
    at (Some d) h =
        let j = h.0.0 in
        let below = h.0.1 in
        let lt : j < length xs = omega (arith, below, end) in
        let by = met_by t a (get_or xs j 0) c d h.0.2 in (
          record {
            by = get_or xs j 0;
            within = clashing_within t c xs aligned exact j lt;
            leads = by.1;
            meets = (by.0, ((exact (get_or xs j 0)).0 (Contains-get_or xs j 0 lt)).1);
          },
          λ e m. let w = place e m in h.1 w.0 e w.1 w.2,
        )

-- where a segment is met at once
pub at_once : (t : Tables) (a c : ℕ) → a < length t.graph.segments → entry_at t.advance a a ≡ Some no_delay → Meets t a c → IsSoonest t a c (Some no_delay)
at_once t a c lt e m = (record { by = a; within = lt; leads = e; meets = m }, λ d w. none_less d)

-- ---- rows

pub row_none : (t : Tables) (a : ℕ) → IsSoonestRow t a 0 []
row_none t a = record { count = refl; each = λ c lt. absurd (omega arith) }

pub row_more : (t : Tables) (a i : ℕ) (row : List (Option Delay)) (o : Option Delay) → IsSoonestRow t a i row → IsSoonest t a i o → IsSoonestRow t a (i + 1) (row ++ o ∷ [])
row_more t a i row o h is =
    let many = h.count in
    record {
      count = let more = length_push row o in omega (arith, many, more);
      each = λ c lt. elim (cases_lt c i) [
        | inl below ↦ subst (IsSoonest t a c) (sym (get_or_append_left row (o ∷ []) None c (omega arith))) (h.each c below)
        | inr above ↦
            let e : c ≡ i = omega (arith, lt, above) in
            let here : get_or (row ++ o ∷ []) c None ≡ o = get_or_push row o None c (omega arith) in
            subst (IsSoonest t a c) (sym here) (subst (λ k. IsSoonest t a k o) (sym e) is)
      ];
    }

pub rows_none : (t : Tables) → AreSoonest t 0 []
rows_none t = record { count = refl; each = λ a lt. absurd (omega arith) }

pub rows_more : (t : Tables) (i : ℕ) (rows : List (List (Option Delay))) (row : List (Option Delay)) → AreSoonest t i rows → IsSoonestRow t i (length t.graph.segments) row → AreSoonest t (i + 1) (rows ++ row ∷ [])
rows_more t i rows row h is =
    let many = h.count in
    let n = length t.graph.segments in
    record {
      count = let more = length_push rows row in omega (arith, many, more);
      each = λ a lt. elim (cases_lt a i) [
        | inl below ↦ subst (IsSoonestRow t a n) (sym (get_or_append_left rows (row ∷ []) [] a (omega arith))) (h.each a below)
        | inr above ↦
            let e : a ≡ i = omega (arith, lt, above) in
            let here : get_or (rows ++ row ∷ []) a [] ≡ row = get_or_push rows row [] a (omega arith) in
            subst (IsSoonestRow t a n) (sym here) (subst (λ k. IsSoonestRow t k n row) (sym e) is)
      ];
    }

-- ---- what comes before any segment that meets it

-- what holds a front up meets it after a delay
meets_after : (t : Tables) (g : Front) (p : ℕ) (f : Front) (b : ℕ) (s : Stamp) → IsFit t p f → b < length t.graph.segments → hold_at t g p f b ≡ Some s → (r : IsFound t g p f b s) → MeetsAfter t g.segment f.segment r.delay
meets_after t g p f b s fit lt e r = record {
  by = b;
  within = lt;
  leads = r.leads;
  meets = meets_held t g p f b s fit e;
}

-- none holds it up, where none is found to
none_found : (t : Tables) (g : Front) (p : ℕ) (f : Front) → ((b : ℕ) (s : Stamp) → b < length t.graph.segments → hold_at t g p f b ≡ Some s → ⊥) → holds_of t g p f ≡ 0
unfolding holds_of
none_found t g p f none = none_counted (λ b. is_some (hold_at t g p f b)) (length t.graph.segments) (λ b lt. at b lt (hold_at t g p f b) refl)
  where
    at : (b : ℕ) → b < length t.graph.segments → (o : Option Stamp) → hold_at t g p f b ≡ o → is_some (hold_at t g p f b) ≡ false
    at b lt None e = ap (λ (o : Option Stamp). is_some o) e
    at b lt (Some s) e = absurd (none b s lt e)

pub none_meets : (t : Tables) (g : Front) (p : ℕ) (f : Front) → IsFit t p f → IsSoonest t g.segment f.segment None → holds_of t g p f ≡ 0
none_meets t g p f fit none = none_found t g p f (λ b s lt e.
    let r = found_by t g p f b s e in
    none r.delay (meets_after t g p f b s fit lt e r))

pub none_in_time : (t : Tables) (g : Front) (p : ℕ) (f : Front) (d : Delay) → IsFit t p f → IsSoonest t g.segment f.segment (Some d) → IsBefore f.stamp (advanced g.stamp d) → holds_of t g p f ≡ 0
none_in_time t g p f d fit soonest early = none_found t g p f (λ b s lt e.
    let r = found_by t g p f b s e in
    let before : IsBefore s (advanced g.stamp d) = ⊎_elim (λ h. transitive s f.stamp (advanced g.stamp d) h early) (λ h. subst (λ u. IsBefore u (advanced g.stamp d)) (sym h) early) (before_or_at t b s p f r.clashes) in
    soonest.1 r.delay (meets_after t g p f b s fit lt e r) (less_by g.stamp r.delay d (subst (λ u. IsBefore u (advanced g.stamp d)) r.at before)))

-- its delay can be added
pub soonest_addable : (t : Tables) (a c : ℕ) (d : Delay) → AreAligned t → a < length t.graph.segments → IsSoonest t a c (Some d) → IsAddable d
soonest_addable t a c d aligned lt soonest = addable_at t a soonest.0.by d aligned lt soonest.0.leads
