-- What a list contains.
use Rattle.std.proofs.Common.{◌≡◌, ◌∙◌, refl, ap, subst, arith, ℕ, zero, suc, List, [], ◌∷◌, map, Some, ◌⊎◌, inl, inr}
use Rattle.std.specs.Prelude.{Contains, slice_get}
use Rattle.std.proofs.lemmas.List.Elements.{Contains-push_cases}
use Rattle.std.proofs.lemmas.Option.{slice_get_within, slice_get-get_or, get_or_from_slice_get}

-- nothing is in the empty list
pub not_in_none : {A : Type 0} (x : A) → Contains [] x → ⊥
not_in_none x h = let lt = h.1 in omega arith

-- what is in a list of one is that one
pub one_is : {A : Type 0} (x y : A) → Contains (x ∷ []) y → x ≡ y
one_is x y h = elim (Contains-push_cases [] x y h) [ inl n ↦ absurd (not_in_none y n) | inr e ↦ e ]

-- the first is in the list
pub in_first : {A : Type 0} (x : A) (xs : List A) → Contains (x ∷ xs) x
in_first x xs = (0, omega arith, refl)

-- what is in the rest is in the list
pub in_later : {A : Type 0} (x y : A) (xs : List A) → Contains xs y → Contains (x ∷ xs) y
in_later x y xs h = (suc h.0, let below = h.1 in omega arith, h.2)

-- what is in a list is the first of it, or in the rest
pub first_or_later : {A : Type 0} (x y : A) (xs : List A) → Contains (x ∷ xs) y → (x ≡ y) ⊎ Contains xs y
first_or_later x y xs (zero, lt, e) = inl e
first_or_later x y xs (suc k, lt, e) = inr (k, omega arith, e)

-- what is in a mapped list is what an element is mapped to
pub mapped_from : {A B : Type 0} (f : A → B) (xs : List A) (y : B) → Contains (map f xs) y → (x : A) × Contains xs x × (f x ≡ y)
mapped_from f [] y h = absurd (not_in_none y h)
mapped_from f (x ∷ xs) y h =
    elim (first_or_later (f x) y (map f xs) h) [
      | inl e ↦ (x, in_first x xs, e)
      | inr w ↦ let r = mapped_from f xs y w in (r.0, in_later x r.0 xs r.1, r.2)
    ]

-- what an element is mapped to is in the mapped list
pub in_mapped : {A B : Type 0} (f : A → B) (xs : List A) (x : A) → Contains xs x → Contains (map f xs) (f x)
in_mapped f [] x h = absurd (not_in_none x h)
in_mapped f (y ∷ ys) x h =
    elim (first_or_later y x ys h) [
      | inl e ↦ subst (λ z. Contains (f y ∷ map f ys) (f z)) e (in_first (f y) (map f ys))
      | inr w ↦ in_later (f y) (f x) (map f ys) (in_mapped f ys x w)
    ]

-- where it stands
pub contains_place : {A : Type 0} (xs : List A) (y : A) → Contains xs y → (k : ℕ) × (slice_get xs k ≡ Some y)
contains_place xs y (k, within, is) = (k, slice_get-get_or xs k y within ∙ ap Some is)

pub contains_at : {A : Type 0} (xs : List A) (k : ℕ) (y : A) → slice_get xs k ≡ Some y → Contains xs y
contains_at xs k y is = (k, slice_get_within xs k y is, get_or_from_slice_get xs k y y is)
