-- Elements of lists.
use Rattle.std.proofs.Common.{◌≡◌, refl, ap, subst, arith, ℕ, zero, suc, ◌+◌, ◌<◌, List, [], ◌∷◌, ◌++◌, map, length, replicate, Some, ◌⊎◌, inl, inr}
use Rattle.std.specs.Prelude.{slice_get}
use Rattle.std.specs.List.{AllZip}

-- ---- elements of two lists

pub before_at : {A : Type 0} (xs ys : List A) (i : ℕ) → i < length xs → slice_get (xs ++ ys) i ≡ slice_get xs i
before_at [] ys i h = absurd (omega arith)
before_at (x ∷ xs) ys zero h = refl
before_at (x ∷ xs) ys (suc i) h = before_at xs ys i (omega arith)

-- an element of two lists
pub first_or : {A : Type 0} (xs ys : List A) (k : ℕ) (x : A) → slice_get (xs ++ ys) k ≡ Some x →
    (slice_get xs k ≡ Some x) ⊎ ((q : ℕ) × (length xs + q ≡ k) × (slice_get ys q ≡ Some x))
first_or [] ys k x h = inr (k, omega arith, h)
first_or (z ∷ xs) ys zero x h = inl h
first_or (z ∷ xs) ys (suc k) x h = elim (first_or xs ys k x h) [
  | inl a ↦ inl a
  | inr b ↦ let e = b.1 in inr (b.0, omega (arith, e), b.2)
]

pub replicated_at : (n x : ℕ) (ys : List ℕ) (k : ℕ) → k < n → slice_get (replicate n x ++ ys) k ≡ Some x
replicated_at zero x ys k h = absurd (omega arith)
replicated_at (suc n) x ys zero h = refl
replicated_at (suc n) x ys (suc k) h = replicated_at n x ys k (omega arith)

-- ---- images

pub mapped_at : {A B : Type 0} (f : A → B) (xs : List A) (k : ℕ) (y : B) → slice_get (map f xs) k ≡ Some y → (x : A) × (f x ≡ y)
mapped_at f [] k y h = absurd cc
mapped_at f (x ∷ xs) zero y h = (x, cc)
mapped_at f (x ∷ xs) (suc k) y h = mapped_at f xs k y h

pub image_at : {A B : Type 0} (f : A → B) (xs : List A) (k : ℕ) (x : A) → slice_get xs k ≡ Some x →
    slice_get (map f xs) k ≡ Some (f x)
image_at f [] k x h = absurd cc
image_at f (z ∷ xs) zero x h = let same : z ≡ x = cc in ap (λ y. Some (f y)) same
image_at f (z ∷ xs) (suc k) x h = image_at f xs k x h

pub only_at : {A : Type 0} (x y : A) (k : ℕ) → slice_get (x ∷ []) k ≡ Some y → x ≡ y
only_at x y zero h = cc
only_at x y (suc k) h = absurd cc

-- ---- what holds of all elements

pub zip_back : {A B : Type 0} (R : A → B → Type 0) (xs : List A) (ys : List B) → AllZip R xs ys →
    (k : ℕ) (y : B) → slice_get ys k ≡ Some y → (x : A) × (slice_get xs k ≡ Some x) × R x y
zip_back R [] [] h k y at = absurd cc
zip_back R [] (z ∷ ys) h k y at = absurd h
zip_back R (x ∷ xs) [] h k y at = absurd h
zip_back {B = B} R (x ∷ xs) (z ∷ ys) h zero y at = let same : z ≡ y = cc in (x, refl, subst (λ (b : B). R x b) same h.0)
zip_back R (x ∷ xs) (z ∷ ys) h (suc k) y at = zip_back R xs ys h.1 k y at
