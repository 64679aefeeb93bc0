-- What a binary search by numbers finds in a list that ascends by them.
use Rattle.std.proofs.Common.{◌≡◌, ◌≢◌, ℕ, zero, suc, ◌-◌, ◌<◌, ◌≤◌, ◌==◌, List, [], ◌∷◌, length, false, Some, Result, Ok, Err, get_or, refl, sym, ap, subst, ◌∙◌, arith}
use Rattle.std.specs.Prelude.{All, AllPairs, IsSomeAnd, MatchOption, slice_get, slice_set}
use Rattle.std.specs.List.Sorted.{IsBinarySearchResult, IsNonDecreasingBy, IsSearchInRange}
use Rattle.std.specs.Ordering.{nat_cmp, ordering_index}
use Rattle.std.specs.Result.{result_ok}
use Rattle.std.proofs.lemmas.Bool.Decides.{nat_tests}
use Rattle.std.proofs.lemmas.Cmp.{ranked}
use Rattle.std.proofs.lemmas.List.{length-set}
use Rattle.std.proofs.lemmas.List.Sorted.{IsNonDecreasingBy-from_default}

-- each number is below the later ones
abbrev pub Ascends : {A : Type 0} → (A → ℕ) → List A → Type 0
Ascends number xs = AllPairs (λ a b. number a < number b) xs

-- what has number x stands at a place
abbrev pub StandsAt : {A : Type 0} → (A → ℕ) → List A → (x at : ℕ) → Type 0
StandsAt number xs x at = IsSomeAnd (slice_get xs at) (λ c. number c ≡ x)

pub tail_ascends : {A : Type 0} (number : A → ℕ) (y : A) (ys : List A) → Ascends number (y ∷ ys) → Ascends number ys
tail_ascends number y ys asc i j d lt within = asc (suc i) (suc j) d (omega arith) (omega arith)

stands_number : {A : Type 0} (number : A → ℕ) (xs : List A) (x at : ℕ) (d : A) → StandsAt number xs x at → number (get_or xs at d) ≡ x
stands_number number [] x at d h = absurd h
stands_number number (y ∷ ys) x zero d h = h
stands_number number (y ∷ ys) x (suc at) d h = stands_number number ys x at d h

pub stands_within : {A : Type 0} (number : A → ℕ) (xs : List A) (x at : ℕ) → StandsAt number xs x at → at < length xs
stands_within number [] x at h = absurd h
stands_within number (y ∷ ys) x zero h = omega arith
stands_within number (y ∷ ys) x (suc at) h = let below = stands_within number ys x at h in omega arith

-- where number x stands later, the first hasn't it
pub first_differs : {A : Type 0} (number : A → ℕ) (y : A) (ys : List A) (x at : ℕ) → Ascends number (y ∷ ys) → StandsAt number ys x at → (x == number y) ≡ false
first_differs number y ys x at asc h =
    let e = stands_number number ys x at y h in
    let w = stands_within number ys x at h in
    let lt : number y < number (get_or ys at y) = asc 0 (suc at) y (omega arith) (omega arith) in
    let more : number y < x = subst (λ n. number y < n) e lt in
    grind (arith, nat_tests)

-- where the first has number x, no later one has it
pub later_differ : {A : Type 0} (number : A → ℕ) (y : A) (ys : List A) (x : ℕ) → Ascends number (y ∷ ys) → number y ≡ x → All (λ c. number c ≢ x) ys
later_differ number y ys x asc e i d lt same =
    let below : number y < number (get_or ys i d) = asc 0 (suc i) d (omega arith) (omega arith) in
    omega arith

-- where no number is x, the first isn't, and no later one
pub none_first : {A : Type 0} (number : A → ℕ) (y : A) (ys : List A) (x : ℕ) → All (λ c. number c ≢ x) (y ∷ ys) → (x == number y) ≡ false
none_first number y ys x h = let n : number y ≢ x = h 0 y (omega arith) in grind (arith, nat_tests)

pub none_later : {A : Type 0} (number : A → ℕ) (y : A) (ys : List A) (x : ℕ) → All (λ c. number c ≢ x) (y ∷ ys) → All (λ c. number c ≢ x) ys
none_later number y ys x h i d lt = h (suc i) d (omega arith)

pub stands_from : {A : Type 0} (number : A → ℕ) (xs : List A) (x at : ℕ) (d : A) → at < length xs → number (get_or xs at d) ≡ x → StandsAt number xs x at
stands_from number [] x at d lt h = absurd (omega arith)
stands_from number (y ∷ ys) x zero d lt h = h
stands_from number (y ∷ ys) x (suc at) d lt h = stands_from number ys x at d (omega arith) h

-- a binary search finds where number x stands, or that it doesn't
pub found : {A : Type 0} (number : A → ℕ) (xs : List A) (x : ℕ) (r : Result ℕ ℕ) → Ascends number xs → IsSearchInRange r (length xs) → IsBinarySearchResult (λ c. nat_cmp (number c) x) xs r → MatchOption (result_ok r) (All (λ c. number c ≢ x) xs) (λ at. StandsAt number xs x at)
found number [] x (Ok at) asc within equal = absurd (omega arith)
found number (y ∷ ys) x (Ok at) asc within equal = stands_from number (y ∷ ys) x at y within (ranked _ x _ (sym (equal y)))
found {A} number xs x (Err at) asc within parted = λ i d lt same. grind (arith, less i d, more i d)
  where
    rises : (d : A) → IsNonDecreasingBy (λ c. ordering_index (nat_cmp (number c) x)) xs
    rises d = IsNonDecreasingBy-from_default (λ c. ordering_index (nat_cmp (number c) x)) xs d (λ i j le lt.
        let rise : number (get_or xs i d) ≤ number (get_or xs j d) = grind (arith, asc i j d, λ (same : i ≡ j). ap (λ k. number (get_or xs k d)) same) in
        grind (arith, nat_tests))

    less : (i : ℕ) (d : A) → i < at → number (get_or xs i d) < x
    less i d lt = ranked _ x _ (sym ((parted (rises d)).0 i d (omega arith) lt))

    more : (i : ℕ) (d : A) → at ≤ i → i < length xs → x < number (get_or xs i d)
    more i d le lt = ranked _ x _ (sym ((parted (rises d)).1 i d le lt))

stays : {A : Type 0} (number : A → ℕ) (xs : List A) (at i : ℕ) (e f d : A) → e ≡ get_or xs at e → number f ≡ number e → number (get_or (slice_set xs at f) i d) ≡ number (get_or xs i d)
stays number [] at i e f d there same = refl
stays number (x ∷ xs) zero zero e f d there same = same ∙ ap number there
stays number (x ∷ xs) zero (suc i) e f d there same = refl
stays number (x ∷ xs) (suc at) zero e f d there same = refl
stays number (x ∷ xs) (suc at) (suc i) e f d there same = stays number xs at i e f d there same

-- with another of the same number in a place the numbers still ascend
pub still_ascends : {A : Type 0} (number : A → ℕ) (xs : List A) (at : ℕ) (e f : A) → Ascends number xs → e ≡ get_or xs at e → number f ≡ number e → Ascends number (slice_set xs at f)
still_ascends number xs at e f asc there same i j d lt within =
    let n : length (slice_set xs at f) ≡ length xs = length-set xs at f in
    let below : number (get_or xs i d) < number (get_or xs j d) = asc i j d lt (omega arith) in
    let left : number (get_or (slice_set xs at f) i d) ≡ number (get_or xs i d) = stays number xs at i e f d there same in
    let right : number (get_or (slice_set xs at f) j d) ≡ number (get_or xs j d) = stays number xs at j e f d there same in
    omega arith

got : {A : Type 0} (xs : List A) (i : ℕ) (x d : A) → Some x ≡ slice_get xs i → (i < length xs) × (get_or xs i d ≡ x)
got [] i x d h = absurd cc
got (y ∷ ys) zero x d h = let e : x ≡ y = cc in (omega arith, sym e)
got (y ∷ ys) (suc i) x d h = let later = got ys i x d h in (omega (arith, later.0), later.1)

-- all numbers are below n where the last one is
pub below_all : {A : Type 0} (number : A → ℕ) (xs : List A) (last : A) (n : ℕ) → Ascends number xs → Some last ≡ slice_get xs (length xs - 1) → number last < n → All (λ x. number x < n) xs
below_all number xs last n asc is lt k d within =
    let there = got xs (length xs - 1) last d is in
    let e : number (get_or xs (length xs - 1) d) ≡ number last = ap number there.1 in
    grind (arith, asc k (length xs - 1) d, λ (same : k ≡ length xs - 1). ap (λ i. number (get_or xs i d)) same)

-- and the last one is where all are
pub below_last : {A : Type 0} (number : A → ℕ) (xs : List A) (last : A) (n : ℕ) → Some last ≡ slice_get xs (length xs - 1) → All (λ x. number x < n) xs → number last < n
below_last number xs last n is all =
    let there = got xs (length xs - 1) last last is in
    subst (λ x. number x < n) there.1 (all (length xs - 1) last there.0)
