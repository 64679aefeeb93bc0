-- Rows of processes, and lines of keys.
use Rattle.std.proofs.Common.{◌≡◌, ◌≢◌, ℕ, zero, suc, ◌<◌, ◌≤◌, ◌==◌, ◌||◌, Bool, true, false, cond, arith, List, [], ◌∷◌, ◌++◌, Option, Some, None, refl, sym, subst, ap, ◌∙◌, get_or, drop, length, ⊎_elim, eq-eqb, eqb-true}
use Rattle.std.proofs.lemmas.Bool.{cases_eq, ne_eqb, cases_lt, false_from_ne_true, and_parts, and_from, or_cases, or_left, or_right}
use Rattle.std.proofs.lemmas.List.{get_or_read, get_or_default}
use Rattle.std.proofs.lemmas.List.Sorted.{searched}
use Rattle.std.proofs.lemmas.List.Folds.{list_any_at, list_any-append, list_any_none, Any-from_list_any}
use Rattle.std.specs.Prelude.{◌↔◌, AllPairs, IsSome, IfSome, IfOk, OnErr, OnSome, MatchBool, MatchOption, MatchResult, Result, Ok, Err}
use Rattle.std.specs.Result.{result_ok}
use Rattle.std.specs.List.Sorted.{IsBinarySearchResult, IsSearchInRange}
use Rattle.std.specs.List.{remove}
use Rattle.std.specs.BTreeSet.{BTreeSet, contains, IsLowerBound, Updates}
use Rattle.std.specs.Ordering.{is_eq, nat_cmp}
use Rattle.ooo_time.specs.declared.stamp.Stamp.{Stamp}
use Rattle.ooo_time.specs.Stamps.{IsBefore}
use Rattle.ooo_meaning.specs.World.{same_stamp}
use Rattle.ooo_plain.specs.declared.agenda.Due.{Due}
use Rattle.ooo_plain.specs.Agenda.{due_cmp}
use Rattle.ooo_plain.specs.Row.{RowState, MayEnd, IsPlaceOf, IsUpTo, IsLowest, IsFirstOf, IsLower, AreApart, Loses, Gains, is_among, stands_in}
use Rattle.ooo_plain.specs.Deltas.{DeltasState, stands_among}
use Rattle.ooo_plain.proofs.Order.{IsBefore-irrefl, not_before-trans, some_same}
use Rattle.ooo_plain.proofs.Least.{neither, at_same, at_is, bool_same}
use Rattle.ooo_plain.proofs.Exact.{due_at, key_same, lowest_of, no_queue, other_key, same_due}

abbrev pub row_of : Stamp → List ℕ → RowState
row_of s ps = record { stamp = s; processes = ps }

no_both : {b : Bool} → b ≡ true → b ≡ false → ⊥
no_both e f = let g : true ≡ false = sym e ∙ f in absurd cc

-- ---- who stands in a row

pub stands_is : (row : RowState) (k : Due) → stands_in row k ≡ true → (k.stamp ≡ row.stamp) × (is_among row.processes k.process ≡ true)
stands_is row k e = let p = and_parts _ _ e in (sym (some_same (at_is k.stamp (Some row.stamp) p.0)), p.1)

pub stands_from : (row : RowState) (k : Due) → k.stamp ≡ row.stamp → is_among row.processes k.process ≡ true → stands_in row k ≡ true
stands_from row k e f = and_from _ _ (subst (λ s. same_stamp k.stamp s ≡ true) e (at_same k.stamp)) f

some_there : (ps : List ℕ) (p : ℕ) → is_among ps p ≡ true → 0 < length ps
some_there [] p e = absurd cc
some_there (x ∷ ps) p e = omega arith

least_first : (ps : List ℕ) (x p : ℕ) → AllPairs (λ a b. a < b) ps → x ≡ get_or ps 0 x → is_among ps p ≡ true → x ≤ p
least_first ps x p pairs is e =
    let a = Any-from_list_any (λ q. q == p) ps e in
    let same : a.1 ≡ p = eqb-true a.1 p a.4 in
    let at : get_or ps a.0 a.1 ≡ a.1 = a.3 in
    ⊎_elim
    (λ z. let first : x ≡ get_or ps 0 a.1 = get_or_read ps 0 x (some_there ps p e) is a.1 in let zeroth : get_or ps 0 a.1 ≡ a.1 = sym (ap (λ i. get_or ps i a.1) z) ∙ at in omega (arith, first, zeroth, same))
    (λ ne. let first : x ≡ get_or ps 0 a.1 = get_or_read ps 0 x (some_there ps p e) is a.1 in let pair = pairs 0 a.0 a.1 (omega (arith, ne)) a.2 in omega (arith, first, pair, at, same))
    (cases_eq a.0 0)

pub first_stands : (s : Stamp) (ps : List ℕ) (x : ℕ) → AllPairs (λ a b. a < b) ps → 0 < length ps → x ≡ get_or ps 0 x → IsLowest (stands_in (row_of s ps)) (due_at s x)
first_stands s ps x pairs some is = record {
  member = stands_from (row_of s ps) (due_at s x) refl (list_any_at (λ q. q == x) ps 0 x some (eq-eqb _ x (sym is)));
  lowest = λ q e. record {
    stamp = λ b. IsBefore-irrefl s (subst (λ t. IsBefore t s) (stands_is (row_of s ps) q e).0 b);
    process = λ _. least_first ps x q.process pairs is (stands_is (row_of s ps) q e).1;
  };
}

-- ---- a key is taken out, or added

module _ (k : Due) where
  pub loses_both : (a b a' b' : Due → Bool) → Loses k a a' → Loses k b b' → Loses k (λ q. a q || b q) (λ q. a' q || b' q)
  loses_both a b a' b' h l q = ap (λ x. x || b' q) (h q) ∙ ap (λ x. cond (is_eq (due_cmp k q)) false (a q) || x) (l q) ∙ go (is_eq (due_cmp k q)) where
    go : (e : Bool) → (cond e false (a q) || cond e false (b q)) ≡ cond e false (a q || b q)
    go true = refl
    go false = refl

  -- nothing is in both parts still
  pub apart_loses : (a b a' b' : Due → Bool) → Loses k a a' → Loses k b b' → AreApart a b → AreApart a' b'
  apart_loses a b a' b' h l apart q e = l q ∙ go (is_eq (due_cmp k q)) (sym (h q) ∙ e) where
    go : (x : Bool) → cond x false (a q) ≡ true → cond x false (b q) ≡ false
    go true f = refl
    go false f = apart q f

  -- nothing is in both parts still, where the first part lost the key
  pub apart_less : (a b a' : Due → Bool) → Loses k a a' → AreApart a b → AreApart a' b
  apart_less a b a' h apart q e = go (is_eq (due_cmp k q)) (sym (h q) ∙ e) where
    go : (x : Bool) → cond x false (a q) ≡ true → b q ≡ false
    go true f = let g : false ≡ true = f in absurd cc
    go false f = apart q f

  -- the first part alone had the key
  pub loses_left : (a b a' : Due → Bool) → Loses k a a' → a k ≡ true → AreApart a b → Loses k (λ q. a q || b q) (λ q. a' q || b q)
  loses_left a b a' h had apart q = ap (λ x. x || b q) (h q) ∙ go (is_eq (due_cmp k q)) refl where
    go : (e : Bool) → is_eq (due_cmp k q) ≡ e → (cond e false (a q) || b q) ≡ cond e false (a q || b q)
    go true s = ap b (sym (key_same k q s)) ∙ apart k had
    go false s = refl

  -- where the key isn't, nothing is taken out
  pub loses_none : (a : Due → Bool) → a k ≡ false → Loses k a a
  loses_none a none q = go (is_eq (due_cmp k q)) refl where
    go : (e : Bool) → is_eq (due_cmp k q) ≡ e → a q ≡ cond e false (a q)
    go true s = ap a (sym (key_same k q s)) ∙ none
    go false s = refl

  pub gains_left : (a b a' : Due → Bool) → Gains k a a' → Gains k (λ q. a q || b q) (λ q. a' q || b q)
  gains_left a b a' h q = ap (λ x. x || b q) (h q) ∙ go (is_eq (due_cmp k q)) where
    go : (e : Bool) → (cond e true (a q) || b q) ≡ cond e true (a q || b q)
    go true = refl
    go false = refl

  pub gains_right : (a b b' : Due → Bool) → Gains k b b' → Gains k (λ q. a q || b q) (λ q. a q || b' q)
  gains_right a b b' h q = ap (λ x. a q || x) (h q) ∙ go (is_eq (due_cmp k q)) where
    go : (e : Bool) → (a q || cond e true (b q)) ≡ cond e true (a q || b q)
    go true = or_right (a q) true refl
    go false = refl

  pub apart_left : (a b a' : Due → Bool) → Gains k a a' → b k ≡ false → AreApart a b → AreApart a' b
  apart_left a b a' h none apart q e = go (is_eq (due_cmp k q)) refl (sym (h q) ∙ e) where
    go : (x : Bool) → is_eq (due_cmp k q) ≡ x → cond x true (a q) ≡ true → b q ≡ false
    go true s f = ap b (sym (key_same k q s)) ∙ none
    go false s f = apart q f

  pub apart_right : (a b b' : Due → Bool) → Gains k b b' → a k ≡ false → AreApart a b → AreApart a b'
  apart_right a b b' h none apart q e = h q ∙ go (is_eq (due_cmp k q)) refl where
    go : (x : Bool) → is_eq (due_cmp k q) ≡ x → cond x true (b q) ≡ false
    go true s = absurd (no_both e (ap a (sym (key_same k q s)) ∙ none))
    go false s = apart q e

pub neither_part : {a b : Bool} → (a || b) ≡ false → (a ≡ false) × (b ≡ false)
neither_part {a} {b} e = (false_from_ne_true a (λ h. no_both (or_left a b h) e), false_from_ne_true b (λ h. no_both (or_right a b h) e))

-- ---- a process is removed from a row

-- nobody stands in a row for another stamp, or whose process isn't there
pub not_at : (row : RowState) (k : Due) → k.stamp ≢ row.stamp → stands_in row k ≡ false
not_at row k ne = false_from_ne_true _ (λ e. ne (stands_is row k e).0)

pub not_among : (row : RowState) (k : Due) → is_among row.processes k.process ≡ false → stands_in row k ≡ false
not_among row k none = false_from_ne_true _ (λ e. no_both (stands_is row k e).1 none)

among_others : (ps : List ℕ) (i p : ℕ) → i < length ps → get_or ps i 0 ≢ p → is_among (remove ps i) p ≡ is_among ps p
among_others [] i p lt ne = absurd (omega (arith, lt))
among_others (x ∷ ps) zero p lt ne = rw (ne_eqb x p ne) refl
among_others (x ∷ ps) (suc i) p lt ne = ap (λ b. (x == p) || b) (among_others ps i p (omega (arith, lt)) ne)

among_no_more : (ps : List ℕ) (i p : ℕ) → AllPairs (λ a b. a < b) ps → i < length ps → get_or ps i 0 ≡ p → is_among (remove ps i) p ≡ false
among_no_more [] i p pairs lt e = absurd (omega (arith, lt))
among_no_more (x ∷ ps) zero p pairs lt e = list_any_none (λ q. q == p) ps (λ k d l. ne_eqb (get_or ps k d) p (λ f. let above : x < get_or ps k d = pairs 0 (suc k) d (omega arith) (omega (arith, l)) in absurd (omega (arith, above, f, e))))
among_no_more (x ∷ ps) (suc i) p pairs lt e =
    let below : x < get_or ps i 0 = pairs 0 (suc i) 0 (omega arith) lt in
    let not_first : (x == p) ≡ false = ne_eqb x p (λ f. absurd (omega (arith, below, f, e))) in
    ap (λ b. b || is_among (remove ps i) p) not_first ∙ among_no_more ps i p (λ m n d l h. pairs (suc m) (suc n) d (omega (arith, l)) (omega (arith, h))) (omega (arith, lt)) e

module _ (s : Stamp) (ps : List ℕ) (k : Due) (is : k.stamp ≡ s) (i : ℕ) (lt : i < length ps) (at : get_or ps i 0 ≡ k.process) where
  pub stood : stands_in (row_of s ps) k ≡ true
  stood = stands_from (row_of s ps) k is (list_any_at (λ q. q == k.process) ps i 0 lt (eq-eqb _ _ at))

  pub loses_one : AllPairs (λ a b. a < b) ps → Loses k (stands_in (row_of s ps)) (stands_in (row_of s (remove ps i)))
  loses_one pairs q = go (is_eq (due_cmp k q)) refl where
    go : (b : Bool) → is_eq (due_cmp k q) ≡ b → stands_in (row_of s (remove ps i)) q ≡ cond b false (stands_in (row_of s ps) q)
    go true e = false_from_ne_true _ (λ h. no_both (stands_is (row_of s (remove ps i)) q h).1 (ap (is_among (remove ps i)) (ap (λ x. x.process) (sym (key_same k q e))) ∙ among_no_more ps i k.process pairs lt at))
    go false e = bool_same _ _
        (λ h. let t = stands_is (row_of s (remove ps i)) q h in stands_from (row_of s ps) q t.0 (sym (among_others ps i q.process lt (differs e t.0)) ∙ t.1))
        (λ h. let t = stands_is (row_of s ps) q h in stands_from (row_of s (remove ps i)) q t.0 (among_others ps i q.process lt (differs e t.0) ∙ t.1))
      where
        differs : is_eq (due_cmp k q) ≡ false → q.stamp ≡ s → get_or ps i 0 ≢ q.process
        differs f t g = other_key k q f (same_due k q (is ∙ sym t) (sym at ∙ g))

pub removed_first : (ps : List ℕ) → 0 < length ps → remove ps 0 ≡ drop 1 ps
removed_first [] lt = absurd (omega (arith, lt))
removed_first (x ∷ ps) lt = refl

-- what `remove` of a queue says where there is the place
pub removed_from : (r : Option ℕ) (n at : ℕ) (ps new : List ℕ) → at < n → IsSome r ↔ (at < n) → OnSome r (new ≡ remove ps at) → new ≡ remove ps at
removed_from None n at ps new lt some is = let e : false ≡ true = some.1 lt in absurd cc
removed_from (Some x) n at ps new lt some is = is

-- a binary search finds where a process stands, or that it doesn't
pub found_in : (ps : List ℕ) (p n : ℕ) (r : Result ℕ ℕ) → AllPairs (λ a b. a < b) ps → IsSearchInRange r n → IsBinarySearchResult (λ y. nat_cmp y p) ps r
    → MatchOption (result_ok r) (is_among ps p ≡ false) (IsPlaceOf p n ps)
found_in ps p n r pairs range found = go r range (searched ps p r found rises) where
  rises : (i j : ℕ) → i ≤ j → j < length ps → get_or ps i 0 ≤ get_or ps j 0
  rises i j le lt = ⊎_elim (λ e. let f = ap (λ k. get_or ps k 0) e in omega (arith, f)) (λ ne. let l = pairs i j 0 (omega (arith, le, ne)) lt in omega (arith, l)) (cases_eq i j)

  go : (r : Result ℕ ℕ) → IsSearchInRange r n
      → MatchResult r (λ i. (i < length ps) × (get_or ps i 0 ≡ p)) (λ i. (i ≤ length ps) × ((k : ℕ) → k < i → get_or ps k 0 < p) × ((k : ℕ) → i ≤ k → k < length ps → p < get_or ps k 0))
      → MatchOption (result_ok r) (is_among ps p ≡ false) (IsPlaceOf p n ps)
  go (Ok i) range h = record { counted = range; within = h.0; is = h.1 }
  go (Err i) range h = list_any_none (λ q. q == p) ps (λ k d lt. ne_eqb (get_or ps k d) p (λ f.
      let g : get_or ps k 0 ≡ p = get_or_default ps k 0 d lt ∙ f in
      ⊎_elim (λ below. let l = h.1 k below in absurd (omega (arith, l, g))) (λ above. let l = h.2 k above lt in absurd (omega (arith, l, g))) (cases_lt k i)))

-- ---- a process is put at the end

pub gains_one : (row : RowState) (k : Due) → MayEnd row k → Gains k (stands_in row) (stands_in (row_of k.stamp (row.processes ++ k.process ∷ [])))
gains_one row k may q = go (is_eq (due_cmp k q)) refl where
  more : List ℕ
  more = row.processes ++ k.process ∷ []

  new : RowState
  new = row_of k.stamp (row.processes ++ k.process ∷ [])

  among : (p : ℕ) → is_among (row.processes ++ k.process ∷ []) p ≡ (is_among row.processes p || is_among (k.process ∷ []) p)
  among p = list_any-append (λ x. x == p) row.processes (k.process ∷ [])

  last : (p : ℕ) → is_among (k.process ∷ []) p ≡ true → k.process ≡ p
  last p e = ⊎_elim (λ h. eqb-true _ _ h) (λ h. let f : false ≡ true = h in absurd cc) (or_cases _ _ e)

  same : is_among row.processes q.process ≡ true → row.stamp ≡ k.stamp
  same e = ⊎_elim (λ none. absurd (no_both e (ap (λ ps. is_among ps q.process) none))) (λ h. h) may.stamp

  go : (b : Bool) → is_eq (due_cmp k q) ≡ b → stands_in (row_of k.stamp (row.processes ++ k.process ∷ [])) q ≡ cond b true (stands_in row q)
  go true e = ap (stands_in (row_of k.stamp (row.processes ++ k.process ∷ []))) (sym (key_same k q e)) ∙ stands_from (row_of k.stamp (row.processes ++ k.process ∷ [])) k refl
      (among k.process ∙ or_right (is_among row.processes k.process) _ (or_left (k.process == k.process) false (eq-eqb k.process k.process refl)))
  go false e = bool_same _ _
      (λ h. let t = stands_is (row_of k.stamp (row.processes ++ k.process ∷ [])) q h in
      ⊎_elim
      (λ there. stands_from row q (t.0 ∙ sym (same there)) there)
      (λ here. absurd (other_key k q e (same_due k q (sym t.0) (last q.process here))))
      (or_cases _ _ (sym (among q.process) ∙ t.1)))
      (λ h. let t = stands_is row q h in stands_from (row_of k.stamp (row.processes ++ k.process ∷ [])) q (t.0 ∙ same t.1) (among q.process ∙ or_left _ _ t.1))

-- ---- the first of a line

IsUpTo-trans : (a b c : Due) → IsUpTo a b → IsUpTo b c → IsUpTo a c
IsUpTo-trans a b c h l = record {
  stamp = not_before-trans a.stamp b.stamp c.stamp h.stamp l.stamp;
  process = λ e.
      let back : ¬ IsBefore a.stamp b.stamp = subst (λ s. ¬ IsBefore s b.stamp) (sym e) l.stamp in
      let f : a.stamp ≡ b.stamp = neither a.stamp b.stamp h.stamp back in
      let x = h.process f in
      let y = l.process (sym f ∙ e) in
      omega (arith, x, y);
}

module _ (a b : Due → Bool) where
  lowest_left : (x : Due) → IsLowest a x → ((q : Due) → b q ≡ true → IsUpTo x q) → IsLowest (λ q. a q || b q) x
  lowest_left x h l = record {
    member = or_left _ _ h.member;
    lowest = λ q e. ⊎_elim (h.lowest q) (l q) (or_cases _ _ e);
  }

  lowest_right : (y : Due) → IsLowest b y → ((q : Due) → a q ≡ true → IsUpTo y q) → IsLowest (λ q. a q || b q) y
  lowest_right y h l = record {
    member = or_right (a y) _ h.member;
    lowest = λ q e. ⊎_elim (l q) (h.lowest q) (or_cases _ _ e);
  }

  pub first_of_both : (x y r : Option Due) → IsFirstOf a x → IsFirstOf b y → IsLower x y r → IsFirstOf (λ q. a q || b q) r
  first_of_both None None r h l is = subst (IsFirstOf (λ q. a q || b q)) (sym is) (λ q. ap (λ z. z || b q) (h q) ∙ l q)
  first_of_both None (Some y) r h l is = subst (IsFirstOf (λ q. a q || b q)) (sym is) (lowest_right y l (λ q e. absurd (no_both e (h q))))
  first_of_both (Some x) None r h l is = subst (IsFirstOf (λ q. a q || b q)) (sym is) (lowest_left x h (λ q e. absurd (no_both e (l q))))
  first_of_both (Some x) (Some y) r h l is =
      ⊎_elim
      (λ e. subst (IsFirstOf (λ q. a q || b q)) (sym e.0) (lowest_left x h (λ q f. IsUpTo-trans x y q e.1 (l.lowest q f))))
      (λ e. subst (IsFirstOf (λ q. a q || b q)) (sym e.0) (lowest_right y l (λ q f. IsUpTo-trans y x q e.1 (h.lowest q f))))
      is

-- ---- the first is taken off

-- the first of two collections is the first of the second where the first doesn't have it
pub first_right : (a b : Due → Bool) (k : Due) → a k ≡ false → IsLowest (λ q. a q || b q) k → IsLowest b k
first_right a b k none h = record {
  member = ⊎_elim (λ e. absurd (no_both e none)) (λ e. e) (or_cases _ _ h.member);
  lowest = λ q e. h.lowest q (or_right (a q) _ e);
}

lowest_one : (has : Due → Bool) (x k : Due) → IsLowest has x → IsLowest has k → x ≡ k
lowest_one has x k h l =
    let a = h.lowest k l.member in
    let b = l.lowest x h.member in
    let s : x.stamp ≡ k.stamp = neither x.stamp k.stamp a.stamp b.stamp in
    let p = a.process s in
    let q = b.process (sym s) in
    same_due x k s (omega (arith, p, q))

-- what `pop_first` says takes out the first
pub loses_popped : (s new : BTreeSet Due) (k : Due) (r : Option Due) → IsSome r ↔ (0 < length s.keys) → IfSome r (λ x. contains due_cmp s x ≡ true) → IfSome r (IsLowerBound due_cmp s)
    → IfSome r (λ x. Updates due_cmp s new x false) → IsLowest (contains due_cmp s) k → Loses k (contains due_cmp s) (contains due_cmp new)
loses_popped s new k None some member least loses first = absurd (no_both first.member (no_queue s some.1 k))
loses_popped s new k (Some x) some member least loses first = subst (λ x. Loses x (contains due_cmp s) (contains due_cmp new)) (lowest_one (contains due_cmp s) x k (lowest_of (contains due_cmp s) x member least) first) loses.0

-- ---- a process is put into one of two rows, or it isn't

abbrev pub rows_of : (even odd : RowState) → DeltasState
rows_of even odd = record { even = even; odd = odd }

-- what `push` says: the process was put there, or all is as it was
abbrev pub Pushed : {S E : Type 0} → Due → (S → Due → Bool) → (old new : S) → Result Bool E → Type 0
Pushed k has old new r = IfOk r (λ done. MatchBool done (Gains k (has old) (has new)) (new ≡ old)) × OnErr r (new ≡ old)

module _ {E : Type 0} (k : Due) (even odd : RowState) where
  pub pushed_even : (new : RowState) (r : Result Bool E) → Pushed k stands_in even new r → Pushed k stands_among (rows_of even odd) (rows_of new odd) r
  pushed_even new (Ok true) h = (gains_left k (stands_in even) (stands_in odd) (stands_in new) h.0, tt)
  pushed_even new (Ok false) h = (ap (λ e. rows_of e odd) h.0, tt)
  pushed_even new (Err e) h = (tt, ap (λ e. rows_of e odd) h.1)

  pub pushed_odd : (new : RowState) (r : Result Bool E) → Pushed k stands_in odd new r → Pushed k stands_among (rows_of even odd) (rows_of even new) r
  pushed_odd new (Ok true) h = (gains_right k (stands_in even) (stands_in odd) (stands_in new) h.0, tt)
  pushed_odd new (Ok false) h = (ap (λ o. rows_of even o) h.0, tt)
  pushed_odd new (Err e) h = (tt, ap (λ o. rows_of even o) h.1)

  module _ (none : stands_among (rows_of even odd) k ≡ false) (apart : AreApart (stands_in even) (stands_in odd)) where
    pub apart_even : (new : RowState) (r : Result Bool E) → Pushed k stands_in even new r → AreApart (stands_in new) (stands_in odd)
    apart_even new (Ok true) h = apart_left k (stands_in even) (stands_in odd) (stands_in new) h.0 (neither_part none).1 apart
    apart_even new (Ok false) h = subst (λ r. AreApart (stands_in r) (stands_in odd)) (sym h.0) apart
    apart_even new (Err e) h = subst (λ r. AreApart (stands_in r) (stands_in odd)) (sym h.1) apart

    pub apart_odd : (new : RowState) (r : Result Bool E) → Pushed k stands_in odd new r → AreApart (stands_in even) (stands_in new)
    apart_odd new (Ok true) h = apart_right k (stands_in even) (stands_in odd) (stands_in new) h.0 (neither_part none).0 apart
    apart_odd new (Ok false) h = subst (λ r. AreApart (stands_in even) (stands_in r)) (sym h.0) apart
    apart_odd new (Err e) h = subst (λ r. AreApart (stands_in even) (stands_in r)) (sym h.1) apart
