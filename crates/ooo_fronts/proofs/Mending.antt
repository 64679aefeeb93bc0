-- How the counts of others change where one front leaves or enters, process by process.
use Rattle.std.proofs.Common.{◌≡◌, ◌≢◌, ◌∙◌, refl, sym, ap, arith, ℕ, zero, suc, ◌+◌, ◌<◌, ◌≤◌, inl, inr, List, [], ◌∷◌, ◌++◌, length, take, get_or, set, Option, None, Some}
use Rattle.std.specs.Prelude.{Contains}
use Rattle.std.proofs.lemmas.Bool.{cases_eq, cases_lt}
use Rattle.std.proofs.lemmas.Bool.Decides.{eqb_tells}
use Rattle.std.proofs.lemmas.List.{get_or_default, get_or-set_other, get_or-set_same, get_or_past, length-set, set-get_or, take-append-le, take_all}
use Rattle.ooo_access.specs.Access.{AreAscending}
use Rattle.ooo_tables.specs.declared.tables.Tables.{Tables}
use Rattle.ooo_fronts.specs.declared.front.Front.{Front}
use Rattle.ooo_fronts.specs.Fronts.{AreFit}
use Rattle.ooo_fronts.specs.Holds.{AreCounts, ChangesOnly, HoldsOfOthers, held, holds_from, holds_of, maybe_holds_of, total}
use Rattle.ooo_fronts.specs.Reaching.{AreReaches, CanBeHeldBy, CanHoldProcess, IsListOf, Reached}
use Rattle.ooo_fronts.proofs.Counted.{count_changed, fit_at, held_none, holds_other, holds_own}
use Rattle.ooo_fronts.proofs.Holding.{cannot_hold}
use Rattle.ooo_fronts.proofs.Totals.{total_skips}

-- ---- without one front

module _ (t : Tables) (fronts : List (Option Front)) (p : ℕ) (g : Front) (within : p < length fronts) (own : get_or fronts p None ≡ Some g) where
  pub others_none : (q : ℕ) → q ≢ p → get_or fronts q None ≡ None → held t (set fronts p None) q ≡ held t fronts q
  others_none q ne e = held_none t (set fronts p None) q (get_or-set_other fronts p q None None ne ∙ e) ∙ sym (held_none t fronts q e)

  pub others_some : (q : ℕ) (f : Front) → q ≢ p → get_or fronts q None ≡ Some f → held t (set fronts p None) q + holds_of t g q f ≡ held t fronts q
  others_some q f ne e =
      let changed = count_changed t fronts p None within q f ne e in
      let same = ap (λ o. maybe_holds_of t o q f) own in
      omega (arith, changed, same)

  -- of a process that it can't hold up
  pub unaffected : AreFit t fronts → (q : ℕ) → q ≢ p → (CanHoldProcess t g.segment q → ⊥) → held t (set fronts p None) q ≡ held t fronts q
  unaffected fit q ne out = at (get_or fronts q None) refl
    where
      at : (o : Option Front) → get_or fronts q None ≡ o → held t (set fronts p None) q ≡ held t fronts q
      at None e = others_none q ne e
      at (Some f) e =
          let changed = others_some q f ne e in
          let none = cannot_hold t g q f (fit_at t fronts fit q f e) out in
          omega (arith, changed, none)

-- a process without a front leaves nothing
pub nothing_leaves : (fronts : List (Option Front)) (p : ℕ) → get_or fronts p None ≡ None → set fronts p None ≡ fronts
nothing_leaves fronts p e = ap (set fronts p) (sym e) ∙ set-get_or fronts p None

-- a front that is set twice
pub set_again : (fronts : List (Option Front)) (p : ℕ) (one other : Option Front) → set (set fronts p one) p other ≡ set fronts p other
set_again [] p one other = refl
set_again (x ∷ xs) zero one other = refl
set_again (x ∷ xs) (suc p) one other = ap (λ ys. x ∷ ys) (set_again xs p one other)

-- a list, and others behind it, as far as the list goes
pub whole_again : (xs ys : List ℕ) (n : ℕ) → length xs ≡ n → take n (xs ++ ys) ≡ xs
whole_again xs ys n e = take-append-le n xs ys (omega (arith, e)) ∙ take_all n xs (omega (arith, e))

-- ---- process by process

-- the counts of the first i of these processes are those of the fronts after, and all others those of the fronts before; that
-- of process p is left out
pub record AreMended (t : Tables) (p : ℕ) (before after : List (Option Front)) (xs : List ℕ) (i : ℕ) (counts : List ℕ) : Type 0 where
  pub count : length counts ≡ length after
  pub mended : (k j : ℕ) → k ≢ p → j < i → j < length xs → get_or xs j 0 ≡ k → get_or counts k 0 ≡ held t after k
  pub others : (k : ℕ) → k ≢ p → ((j : ℕ) → j < i → j < length xs → get_or xs j 0 ≢ k) → get_or counts k 0 ≡ held t before k

module _ (t : Tables) (p : ℕ) (before after : List (Option Front)) (xs : List ℕ) where
  pub mended_none : (counts : List ℕ) → length before ≡ length after → AreCounts t before counts → AreMended t p before after xs 0 counts
  mended_none counts same h = record {
    count = h.count ∙ same;
    mended = λ k j ne lt below e. absurd (omega arith);
    others = λ k ne out. h.each k;
  }

  -- that of process p may change
  pub mended_but : (counts : List ℕ) (n : ℕ) → length before ≡ length after → AreCounts t before counts → AreMended t p before after xs 0 (set counts p n)
  mended_but counts n same h = record {
    count = length-set counts p n ∙ h.count ∙ same;
    mended = λ k j ne lt below e. absurd (omega arith);
    others = λ k ne out. get_or-set_other counts p k n 0 ne ∙ h.each k;
  }

  -- the next process was not mended so far
  pub mended_next : (i : ℕ) (counts : List ℕ) → AreAscending xs → i < length xs → AreMended t p before after xs i counts → get_or xs i 0 ≢ p → get_or counts (get_or xs i 0) 0 ≡ held t before (get_or xs i 0)
  mended_next i counts up lt h ne = h.others (get_or xs i 0) ne (λ j below within e. let less = up j i 0 below lt in omega arith)

  pub mended_more : (i : ℕ) (counts next : List ℕ) → i < length xs → AreMended t p before after xs i counts → ChangesOnly (get_or xs i 0) counts next → (get_or xs i 0 ≢ p → get_or next (get_or xs i 0) 0 ≡ held t after (get_or xs i 0)) →
      AreMended t p before after xs (i + 1) next
  mended_more i counts next lt h only is = record {
    count = only.count ∙ h.count;
    mended = λ k j ne below within e. elim (cases_eq k (get_or xs i 0)) [
      | inl same ↦ let here = is (λ x. ne (same ∙ x)) in ap (λ m. get_or next m 0) same ∙ here ∙ ap (held t after) (sym same)
      | inr other ↦ elim (cases_lt j i) [
        | inl first ↦ only.others k other ∙ h.mended k j ne first within e
        | inr last ↦ let at : j ≡ i = omega (arith, below, last) in absurd (other (sym e ∙ ap (λ m. get_or xs m 0) at))
      ]
    ];
    others = λ k ne out.
        only.others k (λ e. out i (omega arith) lt (sym e)) ∙ h.others k ne (λ j below within. out j (omega (arith, below)) within);
  }

  pub mended_all : (i : ℕ) (counts : List ℕ) → length xs ≤ i → AreMended t p before after xs i counts → ((k : ℕ) → k ≢ p → (Contains xs k → ⊥) → held t before k ≡ held t after k) →
      (k : ℕ) → k ≢ p → get_or counts k 0 ≡ held t after k
  mended_all i counts le h alike k ne = elim (cases_eq (get_or counts k 0) (held t after k)) [
    | inl same ↦ same
    | inr differs ↦
        let out : (j : ℕ) → j < length xs → get_or xs j 0 ≢ k = λ j lt e. differs (h.mended k j ne (omega (arith, lt, le)) lt e) in
        absurd (differs (h.others k ne (λ j below within. out j within) ∙ alike k ne (λ c. out c.0 c.1 (get_or_default xs c.0 0 k c.1 ∙ c.2))))
  ]

  -- with that of process p
  pub counts_and : (i : ℕ) (counts : List ℕ) → length xs ≤ i → AreMended t p before after xs i counts → ((k : ℕ) → k ≢ p → (Contains xs k → ⊥) → held t before k ≡ held t after k) →
      get_or counts p 0 ≡ held t after p → AreCounts t after counts
  counts_and i counts le h alike e = record {
    count = h.count;
    each = λ k. elim (cases_eq k p) [
      | inl same ↦ ap (λ m. get_or counts m 0) same ∙ e ∙ ap (held t after) (sym same)
      | inr other ↦ mended_all i counts le h alike k other
    ];
  }

  pub counts_with : (i : ℕ) (counts : List ℕ) (n : ℕ) → length xs ≤ i → p < length after → AreMended t p before after xs i counts → ((k : ℕ) → k ≢ p → (Contains xs k → ⊥) → held t before k ≡ held t after k) →
      n ≡ held t after p → AreCounts t after (set counts p n)
  counts_with i counts n le lt h alike e = record {
    count = length-set counts p n ∙ h.count;
    each = λ k. elim (cases_eq k p) [
      | inl same ↦ let many = h.count in ap (λ m. get_or (set counts p n) m 0) same ∙ get_or-set_same counts p n 0 (omega arith) ∙ e ∙ ap (held t after) (sym same)
      | inr other ↦ get_or-set_other counts p k n 0 other ∙ mended_all i counts le h alike k other
    ];
  }

-- ---- those that can hold a process up

-- the fronts of no others do so
pub holders_are_all : (t : Tables) (r : Reached) (fronts : List (Option Front)) (p : ℕ) (f : Front) (xs : List ℕ) → AreReaches t r → AreFit t fronts → get_or fronts p None ≡ Some f → IsListOf (CanBeHeldBy t p) xs →
    HoldsOfOthers (λ q. holds_from t fronts p f q ≡ 0) (length fronts + length r.holders) xs
holders_are_all t r fronts p f xs reaches fit own is = record {
  ascending = is.ascending;
  within = λ q c.
      let w = (is.exact q).0 c in
      let lt = reaches.processes w.0 w.1 in
      let e = w.2 in
      omega (arith, lt, e);
  others = λ q lt out. elim (eqb_tells q p) [
    | inl w ↦ holds_own t fronts p f q w.1
    | inr w ↦ holds_other t fronts p f q w.1 ∙ at q out (get_or fronts q None) refl
  ];
}
  where
    at : (q : ℕ) → (Contains xs q → ⊥) → (o : Option Front) → get_or fronts q None ≡ o → maybe_holds_of t (get_or fronts q None) p f ≡ 0
    at q out None e = ap (λ o. maybe_holds_of t o p f) e
    at q out (Some g) e =
        let fit_g = fit_at t fronts fit q g e in
        ap (λ o. maybe_holds_of t o p f) e ∙ cannot_hold t g p f (fit_at t fronts fit p f own) (λ can. out ((is.exact q).1 (g.segment, fit_g.segment, fit_g.process, can)))

-- beyond all fronts nothing is added
pub total_of_fronts : (t : Tables) (fronts : List (Option Front)) (p : ℕ) (f : Front) (more : ℕ) → total (holds_from t fronts p f) (length fronts + more) ≡ total (holds_from t fronts p f) (length fronts)
total_of_fronts t fronts p f more = total_skips (holds_from t fronts p f) (length fronts) (length fronts + more) (omega arith) (λ q from to. past q from)
  where
    past : (q : ℕ) → length fronts ≤ q → holds_from t fronts p f q ≡ 0
    past q le = elim (eqb_tells q p) [
      | inl w ↦ holds_own t fronts p f q w.1
      | inr w ↦ holds_other t fronts p f q w.1 ∙ ap (λ o. maybe_holds_of t o p f) (get_or_past fronts q None le)
    ]
