-- The search from a segment, step by step.
use Rattle.std.proofs.Common.{◌≡◌, ℕ, zero, suc, ◌+◌, ◌<◌, ◌≤◌, Bool, true, false, not, cond, List, [], ◌∷◌, length, get_or, Option, Some, None, refl, sym, ap, ◌∙◌, subst, arith, inl, inr, ◌⊎◌, replicate}
use Rattle.std.specs.Prelude.{All, slice_set, slice_index_or, count_by, IfSome, MatchOption}
use Rattle.std.proofs.lemmas.Bool.{cases_lt}
use Rattle.std.proofs.lemmas.List.Sums.{sum_by-set, count_by-le-length}
use Rattle.std.proofs.lemmas.List.{get_or-set_same, get_or-set_other, length-replicate, length-set}
use Rattle.std.proofs.lemmas.List.Elements.{All-from_get_or}
use Rattle.ooo_time.specs.declared.delay.Delay.{Delay}
use Rattle.ooo_time.specs.Delays.{greatest_deltas}
use Rattle.ooo_time.specs.Scales.{greatest_time}
use Rattle.ooo_segments.specs.declared.graphs.Graph.{Graph}
use Rattle.ooo_segments.specs.Numbers.{IsIn}
use Rattle.ooo_access.specs.declared.access.Access.{Access}
use Rattle.ooo_advance.specs.Orders.{AtMost, HasAtMost}
use Rattle.ooo_advance.specs.Walks.{HasWalk, no_delay}
use Rattle.ooo_advance.specs.Rows.{AreAddable, delay_at}
use Rattle.ooo_advance.specs.Links.{HasSteps}
use Rattle.ooo_advance.specs.Settled.{IsSettled}
use Rattle.ooo_advance.specs.Turns.{AllLinks, HasNone, IsLowered, IsLoweredTo, IsNearBy, IsNearer, IsNearest, IsUnderWay}
use Rattle.ooo_advance.proofs.OrderLemmas.{at_most_refl, at_most_trans, joined_parts}
use Rattle.ooo_advance.proofs.LinkLemmas.{delay_within}
use Rattle.ooo_advance.proofs.TurnLemmas.{turn, settled}

-- ---- the nearest segment

-- what was found among the segments below n
pub record NearestSoFar (row : List (Option Delay)) (done : List Bool) (n : ℕ) (best : Option (ℕ × Delay)) : Type 0 where
  pub found : (x : ℕ × Delay) → best ≡ Some x → (IsIn done x.0 → ⊥) × (delay_at row x.0 ≡ Some x.1) × (x.0 < n)
  pub near : (v : ℕ) (k : Delay) → v < n → (IsIn done v → ⊥) → delay_at row v ≡ Some k → IsNearBy best k

pub near_none : (row : List (Option Delay)) (done : List Bool) → NearestSoFar row done 0 None
near_none row done = record { found = λ x e. absurd cc; near = λ v k lt out is. absurd (omega arith) }

not_in : (done : List Bool) (n : ℕ) → get_or done n false ≡ false → IsIn done n → ⊥
not_in [] n unset h = absurd cc
not_in (x ∷ xs) zero unset h = absurd cc
not_in (x ∷ xs) (suc n) unset h = not_in xs n unset h

is_in : (done : List Bool) (n : ℕ) → get_or done n false ≡ true → IsIn done n
is_in [] n set = absurd cc
is_in (x ∷ xs) zero set = ap Some set
is_in (x ∷ xs) (suc n) set = is_in xs n set

unset_from : (done : List Bool) (n : ℕ) → (IsIn done n → ⊥) → get_or done n false ≡ false
unset_from [] n out = refl
unset_from (true ∷ xs) zero out = absurd (out refl)
unset_from (false ∷ xs) zero out = refl
unset_from (x ∷ xs) (suc n) out = unset_from xs n out

nearer_by : (found : Option (ℕ × Delay)) (d k : Delay) → IsNearBy found d → AtMost d k → IsNearBy found k
nearer_by found d k h le = record { has = h.has; is = h.is; at_most = at_most_trans h.has.1 d k h.at_most le }

-- a segment more
pub near_more : (row : List (Option Delay)) (done : List Bool) (n : ℕ) (best next : Option (ℕ × Delay)) → NearestSoFar row done n best → IsNearer best n (delay_at row n) (get_or done n false) next → NearestSoFar row done (n + 1) next
near_more row done n best next h nearer = record {
  found = λ x e. elim (nearer.one_of x e) [
    | inl old ↦ let f = h.found x old in let lt = f.2 in (f.0, f.1, omega arith)
    | inr new ↦ (
      subst (λ v. IsIn done v → ⊥) (sym new.1) (not_in done n new.0),
      subst (λ v. delay_at row v ≡ Some x.1) (sym new.1) new.2,
      let e = new.1 in omega arith,
    )
  ];
  near = λ v k below out at. elim (cases_lt v n) [
    | inl lower ↦
        let old = h.near v k lower out at in
        nearer_by next old.has.1 k (nearer.than_best old.has old.is) old.at_most
    | inr same ↦
        let e : v ≡ n = omega arith in
        nearer.than_this k (unset_from done n (subst (λ w. IsIn done w → ⊥) e out)) (subst (λ w. delay_at row w ≡ Some k) e at)
  ];
}

-- a segment that is done
pub near_done : (row : List (Option Delay)) (done : List Bool) (n : ℕ) (best : Option (ℕ × Delay)) → NearestSoFar row done n best → get_or done n false ≡ true → NearestSoFar row done (n + 1) best
near_done row done n best h set = record {
  found = λ x e. let f = h.found x e in let lt = f.2 in (f.0, f.1, omega arith);
  near = λ v k below out at. elim (cases_lt v n) [
    | inl lower ↦ h.near v k lower out at
    | inr same ↦ let e : n ≡ v = omega arith in absurd (out (subst (λ m. IsIn done m) e (is_in done n set)))
  ];
}

-- what is known of segment n doesn't matter for those below it
near_set : (row : List (Option Delay)) (done : List Bool) (n : ℕ) (r : Option Delay) (best : Option (ℕ × Delay)) → NearestSoFar row done n best → NearestSoFar (slice_set row n r) done n best
near_set row done n r best h = record {
  found = λ x e. let f = h.found x e in let lt = f.2 in (f.0, get_or-set_other row n x.0 r None (λ e. omega arith) ∙ f.1, lt);
  near = λ v k below out at. h.near v k below out (sym (get_or-set_other row n v r None (λ e. omega arith)) ∙ at);
}

-- a segment more, of which something else is known now
pub near_lowered : (row : List (Option Delay)) (done : List Bool) (n : ℕ) (r : Option Delay) (best next : Option (ℕ × Delay)) → n < length row → NearestSoFar row done n best → get_or done n false ≡ false → IsNearer best n r false next → NearestSoFar (slice_set row n r) done (n + 1) next
near_lowered row done n r best next lt h unset nearer =
    near_more (slice_set row n r) done n best next (near_set row done n r best h)
    (subst (λ d. IsNearer best n d (get_or done n false) next) (sym (get_or-set_same row n r None lt))
    (subst (λ b. IsNearer best n r b next) (sym unset) nearer))

near_cases : (row : List (Option Delay)) (done : List Bool) (best : Option (ℕ × Delay)) → NearestSoFar row done (length row) best → MatchOption best (HasNone row done (length row)) (λ x. IsNearest row done x.0 x.1 × (x.0 < length row))
near_cases row done None h = λ v k lt out is. let n = h.near v k lt out is in let e = n.is in absurd cc
near_cases row done (Some x) h =
    let f = h.found x refl in (
      record {
        not_done = f.0;
        is = f.1;
        nearest = λ v k out is.
            let n = h.near v k (delay_within row v k is) out is in
            let same : n.has ≡ x = let e = n.is in cc in
            subst (λ (z : ℕ × Delay). AtMost z.1 k) same n.at_most;
      },
      delay_within row x.0 x.1 f.1,
    )

pub near_end : (row : List (Option Delay)) (done : List Bool) (n : ℕ) (best : Option (ℕ × Delay)) → n ≡ length row → NearestSoFar row done n best → MatchOption best (HasNone row done (length row)) (λ x. IsNearest row done x.0 x.1 × (x.0 < length row))
near_end row done n best e h = near_cases row done best (subst (λ m. NearestSoFar row done m best) e h)

-- ---- lowering

-- what is known of the segments below n that aren't done was lowered, and the rest stayed
pub record LoweredSoFar (done : List Bool) (row row' links : List (Option Delay)) (x : Delay) (n : ℕ) : Type 0 where
  pub lowered : (v : ℕ) → v < n → (IsIn done v → ⊥) → IsLoweredTo (delay_at row v) (delay_at links v) x (delay_at row' v)
  pub kept : (v : ℕ) → IsIn done v ⊎ (n ≤ v) → delay_at row' v ≡ delay_at row v

pub low_none : (done : List Bool) (row links : List (Option Delay)) (x : Delay) → LoweredSoFar done row row links x 0
low_none done row links x = record { lowered = λ v lt out. absurd (omega arith); kept = λ v h. refl }

in_or_not : (xs : List Bool) (n : ℕ) → IsIn xs n ⊎ (IsIn xs n → ⊥)
in_or_not [] n = inr (λ h. cc)
in_or_not (true ∷ xs) zero = inl refl
in_or_not (false ∷ xs) zero = inr (λ h. cc)
in_or_not (x ∷ xs) (suc n) = in_or_not xs n

-- a segment that isn't done
pub low_more : (done : List Bool) (row row' links : List (Option Delay)) (x : Delay) (n : ℕ) (r : Option Delay) → n < length row' → LoweredSoFar done row row' links x n → get_or done n false ≡ false → IsLoweredTo (delay_at row' n) (delay_at links n) x r → LoweredSoFar done row (slice_set row' n r) links x (n + 1)
low_more done row row' links x n r lt h unset low = record {
  lowered = λ v below out. elim (cases_lt v n) [
    | inl lower ↦ subst (λ z. IsLoweredTo (delay_at row v) (delay_at links v) x z) (sym (get_or-set_other row' n v r None (λ e. omega arith))) (h.lowered v lower out)
    | inr same ↦
        let e : n ≡ v = omega arith in
        let old = subst (λ z. IsLoweredTo z (delay_at links n) x r) (h.kept n (inr (omega arith))) low in
        let here = subst (λ z. IsLoweredTo (delay_at row n) (delay_at links n) x z) (sym (get_or-set_same row' n r None lt)) old in
        subst (λ m. IsLoweredTo (delay_at row m) (delay_at links m) x (delay_at (slice_set row' n r) m)) e here
  ];
  kept = λ v k.
      let other : v ≡ n → ⊥ = λ e. elim k [ inl in' ↦ not_in done n unset (subst (λ m. IsIn done m) e in') | inr above ↦ omega arith ] in
      get_or-set_other row' n v r None other ∙ h.kept v (elim k [ inl in' ↦ inl in' | inr above ↦ inr (omega arith) ]);
}

-- a segment that is done
pub low_other : (done : List Bool) (row row' links : List (Option Delay)) (x : Delay) (n : ℕ) → LoweredSoFar done row row' links x n → get_or done n false ≡ true → LoweredSoFar done row row' links x (n + 1)
low_other done row row' links x n h set = record {
  lowered = λ v below out. elim (cases_lt v n) [
    | inl lower ↦ h.lowered v lower out
    | inr same ↦ let e : n ≡ v = omega arith in absurd (out (subst (λ m. IsIn done m) e (is_in done n set)))
  ];
  kept = λ v k. h.kept v (elim k [ inl in' ↦ inl in' | inr above ↦ inr (omega arith) ]);
}

known_at_most : (row' : List (Option Delay)) (v : ℕ) (d : Delay) → delay_at row' v ≡ Some d → HasAtMost (delay_at row' v) d
known_at_most row' v d is = record { has = d; is = is; at_most = at_most_refl d }

pub low_end : (done : List Bool) (row row' links : List (Option Delay)) (x : Delay) (n : ℕ) → length links ≡ n → length row ≡ n → LoweredSoFar done row row' links x n → IsLowered done row row' links x
low_end done row row' links x n all_links all h = record {
  kept = λ v in'. h.kept v (inl in');
  less = λ v d is. elim (in_or_not done v) [
    | inl in' ↦ known_at_most row' v d (h.kept v (inl in') ∙ is)
    | inr out ↦ (h.lowered v (let w = delay_within row v d is in omega arith) out).less d is
  ];
  lowered = λ v k out is fits. (h.lowered v (let w = delay_within links v k is in omega arith) out).by_link k is fits;
  from = λ v d is. elim (in_or_not done v) [
    | inl in' ↦ inl (sym (h.kept v (inl in')) ∙ is)
    | inr out ↦ elim (cases_lt v n) [
      | inl below ↦ (h.lowered v below out).from d is
      | inr above ↦ inl (sym (h.kept v (inr above)) ∙ is)
    ]
  ];
}

-- ---- delays within their bounds

-- a delay's delta cycles and the segments that aren't done are no more than the segments
pub record IsBounded (row : List (Option Delay)) (done : List Bool) (count : ℕ) : Type 0 where
  pub time : (v : ℕ) (d : Delay) → delay_at row v ≡ Some d → d.time.0 ≤ greatest_time
  pub deltas : (v : ℕ) (d : Delay) → delay_at row v ≡ Some d → d.deltas + count_by not done ≤ count

unmarked : (xs : List Bool) (n : ℕ) → n < length xs → (IsIn xs n → ⊥) → get_or xs n true ≡ false
unmarked [] n lt out = absurd (omega arith)
unmarked (true ∷ xs) zero lt out = absurd (out refl)
unmarked (false ∷ xs) zero lt out = refl
unmarked (x ∷ xs) (suc n) lt out = unmarked xs n (omega arith) out

-- a new mark leaves one segment less that isn't done
pub one_less : (xs : List Bool) (n : ℕ) → n < length xs → (IsIn xs n → ⊥) → count_by not (slice_set xs n true) + 1 ≡ count_by not xs
one_less xs n lt out =
    let s = rw (unmarked xs n lt out) at (sum_by-set (λ (x : Bool). cond (not x) 1 0) xs n true true lt) in
    omega arith

-- a turn keeps the bounds
pub bounded_turn : (row row' links : List (Option Delay)) (done : List Bool) (count n : ℕ) (x : Delay) → n < length done → IsBounded row done count → IsNearest row done n x → ((v : ℕ) (k : Delay) → delay_at links v ≡ Some k → k.deltas ≤ 1) → IsLowered (slice_set done n true) row row' links x → IsBounded row' (slice_set done n true) count
bounded_turn row row' links done count n x lt h near steps low =
    let less = one_less done n lt near.not_done in
    let at_x = h.deltas n x near.is in
    record {
      time = λ v d is. elim (low.from v d is) [
        | inl old ↦ h.time v d old
        | inr new ↦ subst (λ (z : Delay). z.time.0 ≤ greatest_time) (sym new.3) new.2
      ];
      deltas = λ v d is. elim (low.from v d is) [
        | inl old ↦ let p = h.deltas v d old in omega arith
        | inr new ↦
            let s = steps v new.0 new.1 in
            subst (λ (z : Delay). z.deltas + count_by not (slice_set done n true) ≤ count) (sym new.3)
            (elim (joined_parts x new.0) [ inl p ↦ let q = p.2 in omega arith | inr p ↦ let q = p.2 in omega arith ])
      ];
    }

-- ---- the beginning

none_at : (count v : ℕ) (d : Delay) → delay_at (replicate count None) v ≡ Some d → ⊥
none_at zero v d h = cc
none_at (suc n) zero d h = cc
none_at (suc n) (suc v) d h = none_at n v d h

fresh : (count v : ℕ) → IsIn (replicate count false) v → ⊥
fresh zero v h = cc
fresh (suc n) zero h = cc
fresh (suc n) (suc v) h = fresh n v h

at_set : (row : List (Option Delay)) (a v : ℕ) (o : Option Delay) (d : Delay) → delay_at (slice_set row a o) v ≡ Some d → (delay_at row v ≡ Some d) ⊎ ((v ≡ a) × (o ≡ Some d))
at_set [] a v o d h = inl h
at_set (x ∷ xs) zero zero o d h = inr (refl, h)
at_set (x ∷ xs) zero (suc v) o d h = inl h
at_set (x ∷ xs) (suc a) zero o d h = inl h
at_set (x ∷ xs) (suc a) (suc v) o d h = elim (at_set xs a v o d h) [ inl p ↦ inl p | inr p ↦ inr (ap suc p.0, p.1) ]

-- the row that has the source alone
abbrev pub first_row : (count a : ℕ) → List (Option Delay)
first_row count a = slice_set (replicate count None) a (Some no_delay)

first_only : (count a v : ℕ) (d : Delay) → delay_at (first_row count a) v ≡ Some d → (v ≡ a) × (d ≡ no_delay)
first_only count a v d h = elim (at_set (replicate count None) a v (Some no_delay) d h) [
  | inl p ↦ absurd (none_at count v d p)
  | inr p ↦ (p.0, let e = p.1 in cc)
]

first_at : (count a : ℕ) → a < count → delay_at (first_row count a) a ≡ Some no_delay
first_at count a lt = get_or-set_same (replicate count None) a (Some no_delay) None (let n = length-replicate {A = Option Delay} count None in omega arith)

pub search_begins : (graph : Graph) (access : List Access) (count a : ℕ) → a < count → IsUnderWay graph access a (first_row count a) (replicate count false)
search_begins graph access count a lt = record {
  walks = λ b d is.
      let f = first_only count a b d is in (
        subst (λ z. HasWalk graph access a b z) (sym f.1) (record { edges = []; walk = sym f.0; sum = refl }),
        subst (λ (z : Delay). z.time.0 ≤ greatest_time) (sym f.1) (omega arith),
      );
  start = first_at count a lt;
  reached = λ v h. absurd (fresh count v h);
  closed = λ e d h is edge fits. absurd (fresh count e.from h);
  order = λ u v d k hu hv iu iv. absurd (fresh count u hu);
}

pub bounds_begin : (count a : ℕ) → IsBounded (first_row count a) (replicate count false) count
bounds_begin count a = record {
  time = λ v d is. subst (λ (z : Delay). z.time.0 ≤ greatest_time) (sym (first_only count a v d is).1) (omega arith);
  deltas = λ v d is. subst (λ (z : Delay). z.deltas + count_by not (replicate count false) ≤ count) (sym (first_only count a v d is).1)
      (let n = length-replicate {A = Bool} count false in let m = count_by-le-length not (replicate count false) in omega arith);
}

-- ---- the whole search

-- a search from a segment: it is within its bounds, and under way by the edges of which these are the links
pub record IsSearch (links : List (List (Option Delay))) (a : ℕ) (row : List (Option Delay)) (done : List Bool) : Type 0 where
  pub count : length row ≡ length links
  pub done_count : length done ≡ length links
  pub bounds : IsBounded row done (length links)
  pub search : (graph : Graph) (access : List Access) → AllLinks graph access links → IsUnderWay graph access a row done

begins_as : (links : List (List (Option Delay))) (a count : ℕ) → count ≡ length links → a < count → IsSearch links a (first_row count a) (replicate count false)
begins_as links a count e lt = record {
  count = length-set (replicate count None) a (Some no_delay) ∙ length-replicate {A = Option Delay} count None ∙ e;
  done_count = length-replicate {A = Bool} count false ∙ e;
  bounds = subst (λ n. IsBounded (first_row count a) (replicate count false) n) e (bounds_begin count a);
  search = λ graph access l. search_begins graph access count a lt;
}

pub begins : (links : List (List (Option Delay))) (a : ℕ) (row : List (Option Delay)) (done : List Bool) → a < length links → row ≡ replicate (length links) None → done ≡ replicate (length links) false → IsSearch links a (slice_set row a (Some no_delay)) done
begins links a row done lt e f =
    subst (λ d. IsSearch links a (slice_set row a (Some no_delay)) d) (sym f)
    (subst (λ r. IsSearch links a (slice_set r a (Some no_delay)) (replicate (length links) false)) (sym e) (begins_as links a (length links) refl lt))

pub turns : (links : List (List (Option Delay))) (a : ℕ) (row row' : List (Option Delay)) (done : List Bool) (n : ℕ) (x : Delay) → HasSteps links → IsSearch links a row done → IsNearest row done n x × (n < length row) → length row' ≡ length row → IsLowered (slice_set done n true) row row' (slice_index_or links n []) x → IsSearch links a row' (slice_set done n true)
turns links a row row' done n x steps s near same low =
    let c = s.count in
    let d = s.done_count in
    let lt = near.1 in
    let in_done : n < length done = omega arith in
    let in_links : n < length links = omega arith in
    record {
      count = same ∙ c;
      done_count = length-set done n true ∙ d;
      bounds = bounded_turn row row' (slice_index_or links n []) done (length links) n x in_done s.bounds near.0 (steps n) low;
      search = λ graph access l. turn graph access a n x row row' (slice_index_or links n []) done in_done (s.search graph access l) near.0 (l n in_links) low;
    }

pub turn_smaller : (links : List (List (Option Delay))) (a : ℕ) (row : List (Option Delay)) (done : List Bool) (n : ℕ) (x : Delay) → IsSearch links a row done → IsNearest row done n x × (n < length row) → count_by not (slice_set done n true) < count_by not done
turn_smaller links a row done n x s near =
    let c = s.count in
    let d = s.done_count in
    let lt = near.1 in
    let e = one_less done n (omega arith) near.0.not_done in
    omega arith

short_sum : (x : Delay) (o : Option Delay) → x.deltas < greatest_deltas → ((k : Delay) → o ≡ Some k → k.deltas ≤ 1) → IfSome o (λ k. x.deltas + k.deltas ≤ greatest_deltas)
short_sum x None lt h = tt
short_sum x (Some k) lt h = let s = h k refl in omega arith

-- a delay of the search and that of a link after it have no more delta cycles than there are segments
pub links_short : (links : List (List (Option Delay))) (a : ℕ) (row : List (Option Delay)) (done : List Bool) (n : ℕ) (x : Delay) → length links ≤ greatest_deltas → HasSteps links → IsSearch links a row done → IsNearest row done n x × (n < length row) → All (λ link. IfSome link (λ k. x.deltas + k.deltas ≤ greatest_deltas)) (slice_index_or links n [])
links_short links a row done n x few steps s near =
    let c = s.count in
    let d = s.done_count in
    let lt = near.1 in
    let e = one_less done n (omega arith) near.0.not_done in
    let b = s.bounds.deltas n x near.0.is in
    All-from_get_or (λ link. IfSome link (λ k. x.deltas + k.deltas ≤ greatest_deltas)) (slice_index_or links n []) None (λ v within. short_sum x (delay_at (slice_index_or links n []) v) (omega arith) (λ k is. steps n v k is))

pub addable : (links : List (List (Option Delay))) (a : ℕ) (row : List (Option Delay)) (done : List Bool) → length links ≤ greatest_deltas → IsSearch links a row done → AreAddable row
addable links a row done few s = λ b d is. record { time = s.bounds.time b d is; deltas = let h = s.bounds.deltas b d is in omega arith }

pub ends : (links : List (List (Option Delay))) (a : ℕ) (row : List (Option Delay)) (done : List Bool) → IsSearch links a row done → HasNone row done (length row) → (graph : Graph) (access : List Access) → AllLinks graph access links → IsSettled graph access a row
ends links a row done s none = λ graph access l. settled graph access a row done (s.search graph access l) (λ v k out is. none v k (delay_within row v k is) out is)
