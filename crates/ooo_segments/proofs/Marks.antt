-- Marks: what a mark changes.
use Rattle.std.proofs.Common.{◌≡◌, ℕ, zero, suc, ◌+◌, ◌<◌, ◌≤◌, Bool, true, false, cond, List, [], ◌∷◌, ◌++◌, length, get_or, refl, ap, arith, subst, sym, ◌∙◌, ◌↔◌, inl, inr, ◌⊎◌, Some, not, replicate}
use Rattle.std.specs.Prelude.{slice_set, count_by, Contains, AllPairs}
use Rattle.std.proofs.lemmas.List.Sums.{sum_by-set}
use Rattle.std.proofs.lemmas.Bool.{cases_lt}
use Rattle.std.proofs.lemmas.Option.{slice_get_within, slice_get-get_or, get_or_from_slice_get}
use Rattle.std.proofs.lemmas.List.Elements.{Contains-push, Contains-push_cases, Contains-append_left, Contains-get_or}
use Rattle.std.proofs.lemmas.List.Quantifiers.{all_pairs_push}
use Rattle.ooo_segments.specs.Numbers.{IsIn, AreNumbersOf}

-- what is in a set is in it after a mark
pub in_kept : (xs : List Bool) (n m : ℕ) → IsIn xs m → IsIn (slice_set xs n true) m
in_kept [] n m h = h
in_kept (x ∷ xs) zero zero h = refl
in_kept (x ∷ xs) zero (suc m) h = h
in_kept (x ∷ xs) (suc n) zero h = h
in_kept (x ∷ xs) (suc n) (suc m) h = in_kept xs n m h

-- what is marked is in the set
pub in_marked : (xs : List Bool) (n : ℕ) → n < length xs → IsIn (slice_set xs n true) n
in_marked [] n h = absurd (omega arith)
in_marked (x ∷ xs) zero h = refl
in_marked (x ∷ xs) (suc n) h = in_marked xs n (omega arith)

-- what is in a set after a mark was in it, or is marked
pub in_old : (xs : List Bool) (n m : ℕ) → IsIn (slice_set xs n true) m → IsIn xs m ⊎ (m ≡ n)
in_old [] n m h = inl h
in_old (x ∷ xs) zero zero h = inr refl
in_old (x ∷ xs) zero (suc m) h = inl h
in_old (x ∷ xs) (suc n) zero h = inl h
in_old (x ∷ xs) (suc n) (suc m) h = elim (in_old xs n m h) [ inl a ↦ inl a | inr e ↦ inr (ap suc e) ]

-- nothing is in a set with no mark
pub not_in_fresh : (k n : ℕ) → IsIn (replicate k false) n → ⊥
not_in_fresh zero n h = cc
not_in_fresh (suc k) zero h = cc
not_in_fresh (suc k) (suc n) h = not_in_fresh k n h

-- the mark of what isn't in the set
not_in : (xs : List Bool) (n : ℕ) → n < length xs → (IsIn xs n → ⊥) → get_or xs n true ≡ false
not_in [] n lt out = absurd (omega arith)
not_in (true ∷ xs) zero lt out = absurd (out refl)
not_in (false ∷ xs) zero lt out = refl
not_in (x ∷ xs) (suc n) lt out = not_in xs n (omega arith) out

-- a new mark leaves one number less that isn't in the set
pub one_less : (xs : List Bool) (n : ℕ) → n < length xs → (IsIn xs n → ⊥) → count_by not (slice_set xs n true) + 1 ≡ count_by not xs
one_less xs n lt out =
    let s = rw (not_in xs n lt out) at (sum_by-set (λ (x : Bool). cond (not x) 1 0) xs n true true lt) in
    omega arith

-- the numbers of a set below n, ascending
pub record NumbersBelow (marks : List Bool) (n : ℕ) (numbers : List ℕ) : Type 0 where
  pub same : (m : ℕ) → Contains numbers m ↔ (IsIn marks m × (m < n))
  pub ascending : AllPairs (λ i j. i < j) numbers

-- one more number, which is in the set
pub below_in : (marks : List Bool) (n : ℕ) (numbers : List ℕ) → NumbersBelow marks n numbers → IsIn marks n → NumbersBelow marks (n + 1) (numbers ++ n ∷ [])
below_in marks n numbers b is = record {
  same = λ m. (
    λ h. elim (Contains-push_cases numbers n m h) [
      | inl a ↦ let r = (b.same m).0 a in (r.0, let lt = r.1 in omega arith)
      | inr e ↦ (subst (λ k. IsIn marks k) e is, omega arith)
    ],
    λ h. elim (cases_lt m n) [
      | inl lt ↦ Contains-append_left numbers (n ∷ []) m ((b.same m).1 (h.0, lt))
      | inr ge ↦ let lt = h.1 in let e : n ≡ m = omega arith in subst (λ k. Contains (numbers ++ n ∷ []) k) e (Contains-push numbers n)
    ],
  );
  ascending = all_pairs_push (λ i j. i < j) numbers n b.ascending (λ k d lt. ((b.same (get_or numbers k d)).0 (Contains-get_or numbers k d lt)).1);
}

-- one more number, which isn't in the set
pub below_out : (marks : List Bool) (n : ℕ) (numbers : List ℕ) → NumbersBelow marks n numbers → (IsIn marks n → ⊥) → NumbersBelow marks (n + 1) numbers
below_out marks n numbers b out = record {
  same = λ m. (
    λ h. let r = (b.same m).0 h in (r.0, let lt = r.1 in omega arith),
    λ h. elim (cases_lt m n) [
      | inl lt ↦ (b.same m).1 (h.0, lt)
      | inr ge ↦ let lt = h.1 in let e : m ≡ n = omega arith in absurd (out (subst (λ k. IsIn marks k) e h.0))
    ],
  );
  ascending = b.ascending;
}

-- the numbers below the last mark are all numbers
pub below_all : (marks : List Bool) (n : ℕ) (numbers : List ℕ) → NumbersBelow marks n numbers → length marks ≤ n → AreNumbersOf marks numbers
below_all marks n numbers b all = record {
  same = λ m. (λ h. ((b.same m).0 h).0, λ h. (b.same m).1 (h, let lt = slice_get_within marks m true h in omega arith));
  ascending = b.ascending;
}

-- no number is below 0
pub below_none : (marks : List Bool) → NumbersBelow marks 0 []
below_none marks = record {
  same = λ m. (λ h. absurd (let lt = h.1 in omega arith), λ h. absurd (let lt = h.1 in omega arith));
  ascending = λ i j d below lt. absurd (omega arith);
}

-- a mark says that its number is in the set
pub in_from_mark : (xs ys : List Bool) (n : ℕ) → xs ≡ ys → n < length xs → get_or xs n false ≡ true → IsIn ys n
in_from_mark xs ys n e lt m = subst (λ zs. IsIn zs n) e (slice_get-get_or xs n false lt ∙ ap Some m)

-- no mark says that it isn't
pub out_from_mark : (xs ys : List Bool) (n : ℕ) → xs ≡ ys → get_or xs n false ≡ false → IsIn ys n → ⊥
out_from_mark xs ys n e m h = let t = get_or_from_slice_get xs n true false (subst (λ zs. IsIn zs n) (sym e) h) in cc
