-- The counts of fronts, and how they change with one front.
use Rattle.std.proofs.Common.{◌≡◌, ◌≢◌, ◌∙◌, refl, sym, ap, subst, arith, ℕ, ◌+◌, ◌*◌, ◌<◌, ◌≤◌, ◌==◌, inl, inr, true, false, if◌then◌else◌, List, [], ◌∷◌, ◌++◌, length, get_or, set, Option, None, Some}
use Rattle.std.specs.Prelude.{is_some, ◌↔◌}
use Rattle.std.proofs.lemmas.Bool.{cases_lt, eq-eqb}
use Rattle.std.proofs.lemmas.Bool.Decides.{eqb_tells}
use Rattle.std.proofs.lemmas.List.{get_or_default, get_or-set_other, get_or-set_same, get_or_past, get_or_append_left, get_or_push, length-set, length_push}
use Rattle.std.proofs.lemmas.Option.{slice_get-get_or, get_or_from_slice_get}
use Rattle.ooo_lemmas.proofs.Counting.{count_at_most}
use Rattle.ooo_time.specs.declared.stamp.Stamp.{Stamp}
use Rattle.ooo_tables.specs.declared.tables.Tables.{Tables}
use Rattle.ooo_fronts.specs.declared.front.Front.{Front}
use Rattle.ooo_fronts.specs.declared.front.Hold.{Hold}
use Rattle.ooo_fronts.specs.Fronts.{AreAligned, AreFit, IsFit, IsFitOfItself, Kept}
use Rattle.ooo_fronts.specs.Holds.{hold_at, holds_of, maybe_holds_of, holds_from, total, held_at, held, AreCounts, IsHold, IsFirstHold}
use Rattle.ooo_fronts.proofs.Totals.{total_changed, total_at_most, total_more, none_added, added_none, none_counted, counted_none}

-- ---- one front

pub few_hold : (t : Tables) (g : Front) (p : ℕ) (f : Front) → holds_of t g p f ≤ length t.graph.segments
unfolding holds_of
few_hold t g p f = count_at_most (λ b. is_some (hold_at t g p f b)) (length t.graph.segments)

pub few_maybe_hold : (t : Tables) (o : Option Front) (p : ℕ) (f : Front) → maybe_holds_of t o p f ≤ length t.graph.segments
few_maybe_hold t None p f = omega arith
few_maybe_hold t (Some g) p f = few_hold t g p f

-- of a process's own front, and of that of another process
pub holds_own : (t : Tables) (fronts : List (Option Front)) (p : ℕ) (f : Front) (q : ℕ) → q ≡ p → holds_from t fronts p f q ≡ 0
holds_own t fronts p f q e = rw (eq-eqb q p e) refl

pub holds_other : (t : Tables) (fronts : List (Option Front)) (p : ℕ) (f : Front) (q : ℕ) → q ≢ p → holds_from t fronts p f q ≡ maybe_holds_of t (get_or fronts q None) p f
holds_other t fronts p f q ne = elim (eqb_tells q p) [
  | inl w ↦ absurd (ne w.1)
  | inr w ↦ rw w.0 refl
]

pub few_holds : (t : Tables) (fronts : List (Option Front)) (p : ℕ) (f : Front) → AreAligned t → (q : ℕ) → holds_from t fronts p f q ≤ 1024
few_holds t fronts p f aligned q = elim (eqb_tells q p) [
  | inl w ↦ let e = holds_own t fronts p f q w.1 in omega (arith, e)
  | inr w ↦
      let e = holds_other t fronts p f q w.1 in
      let few = few_maybe_hold t (get_or fronts q None) p f in
      let n = aligned.few in
      omega (arith, e, few, n)
]

-- ---- all fronts

pub held_none : (t : Tables) (fronts : List (Option Front)) (p : ℕ) → get_or fronts p None ≡ None → held t fronts p ≡ 0
unfolding held
held_none t fronts p e = ap (held_at t fronts p) e

pub held_some : (t : Tables) (fronts : List (Option Front)) (p : ℕ) (f : Front) → get_or fronts p None ≡ Some f → held t fronts p ≡ total (holds_from t fronts p f) (length fronts)
unfolding held
held_some t fronts p f e = ap (held_at t fronts p) e

-- so many of the first q fronts
pub few_so_far : (t : Tables) (fronts : List (Option Front)) (p : ℕ) (f : Front) (q : ℕ) → AreAligned t → total (holds_from t fronts p f) q ≤ 1024 * q
few_so_far t fronts p f q aligned = total_at_most (holds_from t fronts p f) q (few_holds t fronts p f aligned)

pub few_held : (t : Tables) (fronts : List (Option Front)) (p : ℕ) → AreAligned t → held t fronts p ≤ 1024 * length fronts
few_held t fronts p aligned = at (get_or fronts p None) refl
  where
    at : (o : Option Front) → get_or fronts p None ≡ o → held t fronts p ≤ 1024 * length fronts
    at None e = let none = held_none t fronts p e in omega (arith, none)
    at (Some f) e = let some = held_some t fronts p f e in let few = few_so_far t fronts p f (length fronts) aligned in omega (arith, some, few)

pub next_own : (t : Tables) (fronts : List (Option Front)) (p : ℕ) (f : Front) (q : ℕ) → q ≡ p → total (holds_from t fronts p f) (q + 1) ≡ total (holds_from t fronts p f) q
next_own t fronts p f q e = let more = total_more (holds_from t fronts p f) q in let own = holds_own t fronts p f q e in omega (arith, more, own)

pub next_other : (t : Tables) (fronts : List (Option Front)) (p : ℕ) (f : Front) (q : ℕ) → q ≢ p → total (holds_from t fronts p f) (q + 1) ≡ total (holds_from t fronts p f) q + maybe_holds_of t (get_or fronts q None) p f
next_other t fronts p f q ne = let more = total_more (holds_from t fronts p f) q in let other = holds_other t fronts p f q ne in omega (arith, more, other)

-- ---- one front is another one

module _ (t : Tables) (fronts : List (Option Front)) (p : ℕ) (before : Option Front) (within : p < length fronts) where
  pub count_without : (q : ℕ) → q ≢ p → get_or fronts q None ≡ None → held t (set fronts p before) q ≡ 0
  count_without q ne e = held_none t (set fronts p before) q (get_or-set_other fronts p q before None ne ∙ e)

  pub count_changed : (q : ℕ) (f : Front) → q ≢ p → get_or fronts q None ≡ Some f →
      held t (set fronts p before) q + maybe_holds_of t (get_or fronts p None) q f ≡ held t fronts q + maybe_holds_of t before q f
  count_changed q f ne e =
      let old = held_some t (set fronts p before) q f (get_or-set_other fronts p q before None ne ∙ e) in
      let new = held_some t fronts q f e in
      let same = length-set fronts p before in
      let many : total (holds_from t (set fronts p before) q f) (length (set fronts p before)) ≡ total (holds_from t (set fronts p before) q f) (length fronts) = ap (total (holds_from t (set fronts p before) q f)) same in
      let changed = total_changed (holds_from t (set fronts p before) q f) (holds_from t fronts q f) p (length fronts) within alike in
      let here = holds_other t fronts q f p (λ same. ne (sym same)) in
      let there = holds_other t (set fronts p before) q f p (λ same. ne (sym same)) ∙ ap (λ o. maybe_holds_of t o q f) (get_or-set_same fronts p before None within) in
      omega (arith, old, new, many, changed, here, there)
    where
      alike : (k : ℕ) → k ≢ p → holds_from t (set fronts p before) q f k ≡ holds_from t fronts q f k
      alike k other = ap (λ o. if k == q then 0 else maybe_holds_of t o q f) (get_or-set_other fronts p k before None other)

-- past the end nothing is counted
pub held_past : (t : Tables) (fronts : List (Option Front)) (p : ℕ) → length fronts ≤ p → held t fronts p ≡ 0
held_past t fronts p le = held_none t fronts p (get_or_past fronts p None le)

-- ---- counts so far

-- the counts of the first p processes
pub record AreCounted (t : Tables) (fronts : List (Option Front)) (p : ℕ) (counts : List ℕ) : Type 0 where
  pub count : length counts ≡ p
  pub each : (k : ℕ) → k < p → get_or counts k 0 ≡ held t fronts k

pub counted_none_yet : (t : Tables) (fronts : List (Option Front)) → AreCounted t fronts 0 []
counted_none_yet t fronts = record { count = refl; each = λ k lt. absurd (omega arith) }

pub counted_more : (t : Tables) (fronts : List (Option Front)) (p : ℕ) (counts : List ℕ) (n : ℕ) → AreCounted t fronts p counts → n ≡ held t fronts p → AreCounted t fronts (p + 1) (counts ++ n ∷ [])
counted_more t fronts p counts n h e = record {
  count = let a = h.count in let b = length_push counts n in omega (arith, a, b);
  each = λ k lt. elim (cases_lt k p) [
    | inl less ↦ get_or_append_left counts (n ∷ []) 0 k (let a = h.count in omega arith) ∙ h.each k less
    | inr more ↦
        let here : k ≡ p = omega (arith, lt, more) in
        get_or_push counts n 0 k (let a = h.count in omega (arith, lt, more)) ∙ e ∙ ap (held t fronts) (sym here)
  ];
}

pub counted_all : (t : Tables) (fronts : List (Option Front)) (p : ℕ) (counts : List ℕ) → p ≡ length fronts → AreCounted t fronts p counts → AreCounts t fronts counts
counted_all t fronts p counts e h = record {
  count = h.count ∙ e;
  each = λ k. elim (cases_lt k p) [
    | inl below ↦ h.each k below
    | inr past ↦ get_or_past counts k 0 (let c = h.count in omega arith) ∙ sym (held_past t fronts k (omega arith))
  ];
}

-- ---- nothing is counted exactly where nothing holds a process up

pub at_front : (fronts : List (Option Front)) (p : ℕ) (f : Front) → get_or fronts p None ≡ Some f → p < length fronts
at_front fronts p f e = elim (cases_lt p (length fronts)) [
  | inl below ↦ below
  | inr past ↦ absurd (let none = get_or_past fronts p None past in let both : None ≡ Some f = sym none ∙ e in cc)
]

pub hold_is_counted : (t : Tables) (fronts : List (Option Front)) (p : ℕ) (h : Hold) → IsHold t fronts p h → held t fronts p ≡ 0 → ⊥
unfolding holds_of
hold_is_counted t fronts p h is e =
    let sum = sym (held_some t fronts p is.held is.own) ∙ e in
    let own = added_none (holds_from t fronts p is.held) (length fronts) sum h.front (at_front fronts h.front is.holding is.front) in
    let none : holds_of t is.holding p is.held ≡ 0 = sym (holds_other t fronts p is.held h.front is.other ∙ ap (λ o. maybe_holds_of t o p is.held) is.front) ∙ own in
    let gone = counted_none (λ b. is_some (hold_at t is.holding p is.held b)) (length t.graph.segments) none h.segment is.within in
    let there = ap (λ o. is_some o) is.at in
    let both : true ≡ false = sym there ∙ gone in
    cc

pub none_is_counted : (t : Tables) (fronts : List (Option Front)) (p : ℕ) → ((h : Hold) → IsHold t fronts p h → ⊥) → held t fronts p ≡ 0
unfolding holds_of
none_is_counted t fronts p none = at (get_or fronts p None) refl
  where
    by_segment : (f g : Front) (q : ℕ) → get_or fronts p None ≡ Some f → q ≢ p → get_or fronts q None ≡ Some g → (b : ℕ) → b < length t.graph.segments → (o : Option Stamp) → hold_at t g p f b ≡ o → is_some o ≡ false
    by_segment f g q e ne i b lt None h = refl
    by_segment f g q e ne i b lt (Some s) h = absurd (none (record { front = q; segment = b; at = s }) (record {
      holding = g;
      held = f;
      other = ne;
      front = i;
      own = e;
      within = lt;
      at = h;
    }))

    of_front : (f : Front) (q : ℕ) → get_or fronts p None ≡ Some f → q ≢ p → (o : Option Front) → get_or fronts q None ≡ o → maybe_holds_of t o p f ≡ 0
    of_front f q e ne None i = refl
    of_front f q e ne (Some g) i = none_counted (λ b. is_some (hold_at t g p f b)) (length t.graph.segments) (λ b lt. by_segment f g q e ne i b lt (hold_at t g p f b) refl)

    from : (f : Front) (q : ℕ) → get_or fronts p None ≡ Some f → holds_from t fronts p f q ≡ 0
    from f q e = elim (eqb_tells q p) [
      | inl w ↦ holds_own t fronts p f q w.1
      | inr w ↦ holds_other t fronts p f q w.1 ∙ of_front f q e w.1 (get_or fronts q None) refl
    ]

    at : (o : Option Front) → get_or fronts p None ≡ o → held t fronts p ≡ 0
    at None e = held_none t fronts p e
    at (Some f) e = held_some t fronts p f e ∙ none_added (holds_from t fronts p f) (length fronts) (λ q lt. from f q e)

pub first_or_none : (t : Tables) (fronts : List (Option Front)) (p : ℕ) (r : Option Hold) → IsFirstHold t fronts p r → (r ≡ None) ↔ (held t fronts p ≡ 0)
first_or_none t fronts p None h = (λ _. none_is_counted t fronts p h, λ _. refl)
first_or_none t fronts p (Some x) h = (λ e. absurd cc, λ e. absurd (hold_is_counted t fronts p x h.0 e))

-- ---- fit fronts

pub fit_at : (t : Tables) (fronts : List (Option Front)) → AreFit t fronts → (p : ℕ) (f : Front) → get_or fronts p None ≡ Some f → IsFit t p f
fit_at t fronts fit p f e = fit p f (slice_get-get_or fronts p None (at_front fronts p f e) ∙ ap Some e)

-- what is fit for a process is so for that of its segment
pub fit_itself : (t : Tables) (p : ℕ) (f : Front) → IsFit t p f → IsFitOfItself t f
fit_itself t p f fit = subst (λ q. IsFit t q f) (sym fit.process) fit

pub fit_set : (t : Tables) (fronts : List (Option Front)) (p : ℕ) (front : Option Front) → p < length fronts → AreFit t fronts → ((f : Front) → front ≡ Some f → IsFit t p f) → AreFit t (set fronts p front)
fit_set t fronts p front lt fit new q f e = elim (eqb_tells q p) [
  | inl w ↦ subst (λ k. IsFit t k f) (sym w.1) (new f (sym (get_or-set_same fronts p front None lt) ∙ ap (λ m. get_or (set fronts p front) m None) (sym w.1) ∙ get_or_from_slice_get (set fronts p front) q (Some f) None e))
  | inr w ↦ fit_at t fronts fit q f (sym (get_or-set_other fronts p q front None w.1) ∙ get_or_from_slice_get (set fronts p front) q (Some f) None e)
]

-- ---- as they are kept

module _ (kept : Kept) (fronts : List (Option Front)) (counts holds : List ℕ) (view : record { fronts = fronts; counts = counts; holds = holds } ≡ kept) where
  pub same_fronts : kept.fronts ≡ fronts
  same_fronts = sym (ap (λ (k : Kept). k.fronts) view)

  pub same_counts : kept.counts ≡ counts
  same_counts = sym (ap (λ (k : Kept). k.counts) view)

  pub same_holds : kept.holds ≡ holds
  same_holds = sym (ap (λ (k : Kept). k.holds) view)

  -- a front that was read
  pub front_read : (p : ℕ) (x : Option Front) → p < length kept.fronts → x ≡ get_or fronts p x → get_or kept.fronts p None ≡ x
  front_read p x lt is = get_or_default kept.fronts p None x lt ∙ ap (λ xs. get_or xs p x) same_fronts ∙ sym is

  pub fit_after : (t : Tables) (p : ℕ) (front : Option Front) → p < length kept.fronts → AreFit t kept.fronts → ((f : Front) → front ≡ Some f → IsFit t p f) → AreFit t (set fronts p front)
  fit_after t p front lt fit new = subst (λ xs. AreFit t (set xs p front)) same_fronts (fit_set t kept.fronts p front lt fit new)
