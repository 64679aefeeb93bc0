-- Ascending numbers.
use Rattle.std.proofs.Common.{◌≡◌, ℕ, ◌<◌, ◌≤◌, ◌↔◌, List, length, get_or, refl, arith, inl, inr, Result, Ok, Err, IsTrue, subst, ◌∙◌}
use Rattle.std.specs.Prelude.{AllPairs, Contains, is_ok, MatchResult}
use Rattle.std.specs.List.Sorted.{IsBinarySearchResult}
use Rattle.std.specs.Ordering.{nat_cmp}
use Rattle.std.proofs.lemmas.Bool.{cases_lt, false≢true}
use Rattle.std.proofs.lemmas.List.{get_or_default}
use Rattle.std.proofs.lemmas.List.Sorted.{searched}

-- ascending numbers don't fall
pub not_falling : (xs : List ℕ) → AllPairs (λ m n. m < n) xs → (i j : ℕ) → i ≤ j → j < length xs → get_or xs i 0 ≤ get_or xs j 0
not_falling xs up i j le lt =
    elim (cases_lt i j) [
      | inl below ↦ let h = up i j 0 below lt in omega arith
      | inr above ↦ let e : i ≡ j = omega arith in subst (λ k. get_or xs i 0 ≤ get_or xs k 0) e (omega arith)
    ]

found_cases : (xs : List ℕ) (x : ℕ) (r : Result ℕ ℕ) →
    MatchResult r (λ i. (i < length xs) × (get_or xs i 0 ≡ x)) (λ i. (i ≤ length xs) × ((k : ℕ) → k < i → get_or xs k 0 < x) × ((k : ℕ) → i ≤ k → k < length xs → x < get_or xs k 0)) →
    IsTrue (is_ok r) ↔ Contains xs x
found_cases xs x (Ok i) m = (λ _. (i, m.0, get_or_default xs i x 0 m.0 ∙ m.1), λ _. refl)
found_cases xs x (Err i) m = (
  λ t. absurd (false≢true t),
  λ w. absurd (
      let e = get_or_default xs w.0 0 x w.1 ∙ w.2 in
      elim (cases_lt w.0 i) [
        | inl below ↦ let h = m.1 w.0 below in omega arith
        | inr above ↦ let h = m.2 w.0 above w.1 in omega arith
      ]),
)

-- a binary search finds just what is there
pub found_iff : (xs : List ℕ) (x : ℕ) (r : Result ℕ ℕ) → AllPairs (λ m n. m < n) xs → IsBinarySearchResult (λ y. nat_cmp y x) xs r → IsTrue (is_ok r) ↔ Contains xs x
found_iff xs x r up h = found_cases xs x r (searched xs x r h (not_falling xs up))
