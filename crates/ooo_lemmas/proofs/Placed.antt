-- What stands at a place of a list.
use Rattle.std.proofs.Common.{◌≡◌, ◌≢◌, ◌∙◌, refl, sym, ap, subst, arith, ℕ, zero, suc, ◌+◌, ◌<◌, List, [], ◌∷◌, ◌++◌, length, replicate, get_or, Some, ◌⊎◌, inl, inr}
use Rattle.std.specs.Prelude.{All, slice_get, slice_set}
use Rattle.std.proofs.lemmas.Option.{slice_get-get_or}

-- with another list behind it
pub kept_at : {A : Type 0} (xs ys : List A) (i : ℕ) (x : A) → slice_get xs i ≡ Some x → slice_get (xs ++ ys) i ≡ Some x
kept_at [] ys i x h = absurd cc
kept_at (y ∷ xs) ys zero x h = h
kept_at (y ∷ xs) ys (suc i) x h = kept_at xs ys i x h

-- behind another list
pub behind_at : {A : Type 0} (xs ys : List A) (i k : ℕ) → length xs + i ≡ k → slice_get (xs ++ ys) k ≡ slice_get ys i
behind_at [] ys i k h = let e : k ≡ i = omega (arith, h) in ap (λ n. slice_get ys n) e
behind_at (x ∷ xs) ys i zero h = absurd (omega (arith, h))
behind_at (x ∷ xs) ys i (suc k) h = behind_at xs ys i k (omega (arith, h))

pub at_end : {A : Type 0} (xs : List A) (x : A) → slice_get (xs ++ x ∷ []) (length xs) ≡ Some x
at_end [] x = refl
at_end (y ∷ xs) x = at_end xs x

-- an item of a list with one more is one of the list, or the last
pub at_push : {A : Type 0} (xs : List A) (x y : A) (k : ℕ) → slice_get (xs ++ x ∷ []) k ≡ Some y → (slice_get xs k ≡ Some y) ⊎ ((k ≡ length xs) × (x ≡ y))
at_push [] x y zero h = inr (refl, cc)
at_push [] x y (suc k) h = absurd cc
at_push (z ∷ zs) x y zero h = inl h
at_push (z ∷ zs) x y (suc k) h = elim (at_push zs x y k h) [ inl a ↦ inl a | inr b ↦ let e = b.0 in inr (omega arith, b.1) ]

-- each place of a list has an item
pub inside : {A : Type 0} (xs : List A) (k : ℕ) → k < length xs → (x : A) × (slice_get xs k ≡ Some x)
inside [] k h = absurd (omega arith)
inside (x ∷ xs) zero h = (x, refl)
inside (x ∷ xs) (suc k) h = inside xs k (omega arith)

-- what holds at each place
pub all_from : {A : Type 0} (P : A → Type 0) (xs : List A) → ((k : ℕ) (x : A) → slice_get xs k ≡ Some x → P x) → All P xs
all_from P xs h k d within = h k _ (slice_get-get_or xs k d within)

-- what holds of each holds of what an index reads
pub read_all : {A : Type 0} (P : A → Type 0) (xs : List A) (i : ℕ) (x : A) → i < length xs → x ≡ get_or xs i x → All P xs → P x
read_all P xs i x lt is h = subst P (sym is) (h i x lt)

-- what an index reads is what a look-up gives
pub read_is : {A : Type 0} (xs : List A) (i : ℕ) (x : A) → i < length xs → x ≡ get_or xs i x → slice_get xs i ≡ Some x
read_is xs i x lt is = slice_get-get_or xs i x lt ∙ ap Some (sym is)

-- of a number so often, and then of others
pub replicated_or : (n x : ℕ) (ys : List ℕ) (k y : ℕ) → slice_get (replicate n x ++ ys) k ≡ Some y →
    ((k < n) × (x ≡ y)) ⊎ ((q : ℕ) × (n + q ≡ k) × (slice_get ys q ≡ Some y))
replicated_or zero x ys k y h = inr (k, omega arith, h)
replicated_or (suc n) x ys zero y h = inl (omega arith, cc)
replicated_or (suc n) x ys (suc k) y h = elim (replicated_or n x ys k y h) [
  | inl a ↦ let l = a.0 in inl (omega (arith, l), a.1)
  | inr c ↦ let e = c.1 in inr (c.0, omega (arith, e), c.2)
]

pub replicated : {A : Type 0} (n : ℕ) (x y : A) (k : ℕ) → slice_get (replicate n x) k ≡ Some y → y ≡ x
replicated zero x y k h = absurd cc
replicated (suc n) x y zero h = cc
replicated (suc n) x y (suc k) h = replicated n x y k h

-- an item of a list of which one is set
pub set_cases : {A : Type 0} (xs : List A) (i : ℕ) (a : A) (k : ℕ) (x : A) → slice_get (slice_set xs i a) k ≡ Some x →
    (slice_get xs k ≡ Some x) ⊎ ((i ≡ k) × (a ≡ x))
set_cases [] i a k x h = inl h
set_cases (y ∷ ys) zero a zero x h = inr (refl, cc)
set_cases (y ∷ ys) zero a (suc k) x h = inl h
set_cases (y ∷ ys) (suc i) a zero x h = inl h
set_cases (y ∷ ys) (suc i) a (suc k) x h = elim (set_cases ys i a k x h) [ inl old ↦ inl old | inr new ↦ inr (ap suc new.0, new.1) ]

pub get_other : {A : Type 0} (xs : List A) (k i : ℕ) (a : A) → k ≢ i → slice_get (slice_set xs i a) k ≡ slice_get xs k
get_other [] k i a ne = refl
get_other (y ∷ ys) zero zero a ne = absurd (ne refl)
get_other (y ∷ ys) zero (suc i) a ne = refl
get_other (y ∷ ys) (suc k) zero a ne = refl
get_other (y ∷ ys) (suc k) (suc i) a ne = get_other ys k i a (λ e. ne (ap suc e))

-- a write at one place leaves two lists alike where they were
pub set_alike : {A : Type 0} (xs ys : List A) (i j : ℕ) (c d : A) → length xs ≡ length ys → get_or xs j d ≡ get_or ys j d → get_or (slice_set xs i c) j d ≡ get_or (slice_set ys i c) j d
set_alike [] [] i j c d n e = refl
set_alike [] (y ∷ ys) i j c d n e = absurd (omega arith)
set_alike (x ∷ xs) [] i j c d n e = absurd (omega arith)
set_alike (x ∷ xs) (y ∷ ys) zero zero c d n e = refl
set_alike (x ∷ xs) (y ∷ ys) zero (suc j) c d n e = e
set_alike (x ∷ xs) (y ∷ ys) (suc i) zero c d n e = e
set_alike (x ∷ xs) (y ∷ ys) (suc i) (suc j) c d n e = set_alike xs ys i j c d (omega arith) e
