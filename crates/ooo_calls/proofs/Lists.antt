-- Tests of the elements of a list.
use Rattle.std.proofs.Common.{◌≡◌, ℕ, zero, suc, Bool, true, false, List, [], ◌∷◌, refl, ap, ◌∙◌, subst, arith}
use Rattle.std.specs.Prelude.{◌||◌, Contains, slice_get, map}
use Rattle.std.specs.Option.{option_map_or}
use Rattle.std.specs.List.{list_all, list_any}
use Rattle.std.proofs.lemmas.Bool.{and_parts}
use Rattle.std.proofs.lemmas.List.Elements.{Contains-append_right}

-- two tests that agree on each element find one in the same lists
pub list_any-same : {X : Type 0} (p q : X → Bool) → ((x : X) → p x ≡ q x) → (xs : List X) → list_any p xs ≡ list_any q xs
list_any-same p q same [] = refl
list_any-same p q same (x ∷ xs) = ap (λ b. b || list_any p xs) (same x) ∙ ap (λ b. q x || b) (list_any-same p q same xs)

-- what each element passes, one element passes
pub passes : {X : Type 0} (p : X → Bool) (xs : List X) (x : X) → list_all p xs ≡ true → Contains xs x → p x ≡ true
passes p [] x all h = absurd (let lt = h.1 in omega arith)
passes p (y ∷ ys) x all (zero, lt, is) = subst (λ z. p z ≡ true) is (and_parts (p y) (list_all p ys) all).0
passes p (y ∷ ys) x all (suc k, lt, is) = passes p ys x (and_parts (p y) (list_all p ys) all).1 (k, omega arith, is)

-- two functions that agree on each element of a list make one list of it
pub map-same : {X Y : Type 0} (f g : X → Y) (xs : List X) → ((x : X) → Contains xs x → f x ≡ g x) → map f xs ≡ map g xs
map-same f g [] same = refl
map-same f g (x ∷ xs) same =
    ap (λ y. y ∷ map f xs) (same x (zero, omega arith, refl))
    ∙ ap (λ ys. g x ∷ ys) (map-same f g xs (λ y h. same y (Contains-append_right (x ∷ []) xs y h)))

-- where a test passes at a place, the element that stands there passes it
pub found_at : {X : Type 0} (p : X → Bool) (xs : List X) (i : ℕ) → option_map_or p (slice_get xs i) false ≡ true → (x : X) × Contains xs x × (p x ≡ true)
found_at p [] i h = absurd cc
found_at p (x ∷ xs) zero h = (x, (zero, omega arith, refl), h)
found_at p (x ∷ xs) (suc i) h = let r = found_at p xs i h in (r.0, Contains-append_right (x ∷ []) xs r.0 r.1, r.2)
