-- Elements of lists, and lists of which something holds at each element.
use Rattle.std.proofs.Common.{◌≡◌, ◌∙◌, refl, sym, ap, arith, ℕ, zero, suc, ◌+◌, List, [], ◌∷◌, ◌++◌, map, true, Some, ◌⊎◌, inl, inr}
use Rattle.std.specs.Prelude.{◌==◌, drop, slice_get}
use Rattle.std.specs.List.{AllByRecursion}
use Rattle.std.proofs.lemmas.Bool.{or_cases, or_left, or_right, eq-eqb, eqb-true}
use Rattle.ooo_walk.specs.Reach.{has}

-- ---- places

pub has_at : (xs : List ℕ) (k n : ℕ) → slice_get xs k ≡ Some n → has xs n ≡ true
has_at [] k n h = absurd cc
has_at (x ∷ xs) zero n h = let same : n ≡ x = cc in or_left (n == x) (has xs n) (eq-eqb n x same)
has_at (x ∷ xs) (suc k) n h = or_right (n == x) (has xs n) (has_at xs k n h)

pub has_place : (xs : List ℕ) (n : ℕ) → has xs n ≡ true → (k : ℕ) × (slice_get xs k ≡ Some n)
has_place [] n h = absurd cc
has_place (x ∷ xs) n h = elim (or_cases (n == x) (has xs n) h) [
  | inl e ↦ (0, ap Some (sym (eqb-true n x e)))
  | inr r ↦ let p = has_place xs n r in (suc p.0, p.1)
]

-- an element of two lists
pub split_at : {A : Type 0} (xs ys : List A) (k : ℕ) (y : A) → slice_get (xs ++ ys) k ≡ Some y →
    (slice_get xs k ≡ Some y) ⊎ ((q : ℕ) × (slice_get ys q ≡ Some y))
split_at [] ys k y h = inr (k, h)
split_at (x ∷ xs) ys zero y h = inl h
split_at (x ∷ xs) ys (suc k) y h = split_at xs ys k y h

pub dropped : {A : Type 0} (xs : List A) (n j : ℕ) → slice_get (drop n xs) j ≡ slice_get xs (n + j)
dropped xs zero j = let e : j ≡ 0 + j = omega arith in ap (λ i. slice_get xs i) e
dropped [] (suc n) j = refl
dropped (x ∷ xs) (suc n) j = dropped xs n j ∙ (let e : slice_get (x ∷ xs) (suc (n + j)) ≡ slice_get (x ∷ xs) (suc n + j) = ap (λ i. slice_get (x ∷ xs) i) (let d : suc (n + j) ≡ suc n + j = omega arith in d) in e)

-- ---- each element

pub of_weaker : {A : Type 0} (P Q : A → Type 0) → ((x : A) → P x → Q x) → (xs : List A) → AllByRecursion P xs → AllByRecursion Q xs
of_weaker P Q f [] h = h
of_weaker P Q f (x ∷ xs) h = (f x h.0, of_weaker P Q f xs h.1)

pub of_mapped : {A B : Type 0} (f : A → B) (P : B → Type 0) (xs : List A) → AllByRecursion (λ x. P (f x)) xs → AllByRecursion P (map f xs)
of_mapped f P [] h = h
of_mapped f P (x ∷ xs) h = (h.0, of_mapped f P xs h.1)
