-- Variables that are carried: where one stands, and other elements in its place.
use Rattle.std.proofs.Common.{◌≡◌, ◌≢◌, ℕ, zero, suc, ◌<◌, ◌≤◌, ◌+◌, ◌-◌, ◌%◌, ◌==◌, List, [], ◌∷◌, length, Bool, true, false, if◌then◌else◌, Some, None, get_or, refl, sym, ap, ◌∙◌, arith}
use Rattle.std.specs.Prelude.{All, MatchOption, Option, is_some, slice_get, slice_set}
use Rattle.std.proofs.lemmas.Bool.Decides.{Decides-eqb, nat_tests}
use Rattle.ooo_value.specs.declared.values.Value.{Value}
use Rattle.ooo_interp.specs.Carrying.{Carried, IsAscending, StandInOrder, listed, numbers_of, with_listed}
use Rattle.ooo_interp.proofs.Searched.{StandsAt as NumberStandsAt, first_differs, none_first, none_later, stands_from, tail_ascends}

-- the number of a variable that is carried
abbrev pub number_of_carried : Carried → ℕ
number_of_carried c = c.0

-- variable number x stands at a place
abbrev pub StandsAt : List Carried → (x at : ℕ) → Type 0
StandsAt xs x at = NumberStandsAt number_of_carried xs x at

-- where one with number x stands
pub found_at : (xs : List Carried) (x at : ℕ) (e : Carried) → at < length xs → e ≡ get_or xs at e → e.0 ≡ x → StandsAt xs x at
found_at xs x at e lt there same = stands_from number_of_carried xs x at e lt (ap number_of_carried (sym there) ∙ same)

-- all with numbers below n
abbrev pub AreBelow : ℕ → List Carried → Type 0
AreBelow n xs = All (λ c. c.0 < n) xs

below_with : (n : ℕ) (y : Carried) (ys : List Carried) → y.0 < n → AreBelow n ys → AreBelow n (y ∷ ys)
below_with n y ys lt h zero d within = lt
below_with n y ys lt h (suc k) d within = h k d (omega arith)

-- with other elements their numbers are the same
pub still_below : (xs : List Carried) (x : ℕ) (f : List Value → List Value) (n : ℕ) → AreBelow n xs → AreBelow n (with_listed x f xs)
still_below [] x f n h = h
still_below (y ∷ ys) x f n h =
    let lt : y.0 < n = h 0 y (omega arith) in
    let later : AreBelow n ys = λ k d within. h (suc k) d (omega arith) in
    by (x == y.0) lt later (still_below ys x f n later)
  where
    by : (b : Bool) → y.0 < n → AreBelow n ys → AreBelow n (with_listed x f ys) → AreBelow n (if b then (y.0, f y.1) ∷ ys else y ∷ with_listed x f ys)
    by true lt later go = below_with n (y.0, f y.1) ys lt later
    by false lt later go = below_with n y (with_listed x f ys) lt go

-- what is listed has such a number
pub listed_below : (xs : List Carried) (x n : ℕ) → AreBelow n xs → is_some (listed xs x) ≡ true → x < n
listed_below [] x n h e = absurd cc
listed_below (y ∷ ys) x n h e =
    let lt : y.0 < n = h 0 y (omega arith) in
    by (x == y.0) refl lt (listed_below ys x n (λ k d within. h (suc k) d (omega arith))) e
  where
    by : (b : Bool) → (x == y.0) ≡ b → y.0 < n → (is_some (listed ys x) ≡ true → x < n) → is_some (if b then Some y.1 else listed ys x) ≡ true → x < n
    by true same lt go e = grind (arith, nat_tests)
    by false differs lt go e = go e

none_listed : (xs : List Carried) (x : ℕ) → All (λ c. c.0 ≢ x) xs → listed xs x ≡ None
none_listed [] x h = refl
none_listed (y ∷ ys) x h = rw (none_first number_of_carried y ys x h) (none_listed ys x (none_later number_of_carried y ys x h))

-- where a variable stands, or that it isn't carried
pub listed_or_none : (xs : List Carried) (x : ℕ) (o : Option ℕ) → MatchOption o (All (λ c. c.0 ≢ x) xs) (λ at. StandsAt xs x at) → MatchOption o (listed xs x ≡ None) (λ at. StandsAt xs x at)
listed_or_none xs x None h = none_listed xs x h
listed_or_none xs x (Some at) h = h

-- what stands there is what is listed
pub stands_listed : (xs : List Carried) (x at : ℕ) (e : Carried) → IsAscending xs → StandsAt xs x at → e ≡ get_or xs at e → listed xs x ≡ Some e.1
stands_listed [] x at e asc h q = absurd h
stands_listed (y ∷ ys) x zero e asc h q = let t : (x == y.0) ≡ true = grind (arith, nat_tests) in rw t (ap (λ (z : Carried). Some z.1) (sym q))
stands_listed (y ∷ ys) x (suc at) e asc h q = rw (first_differs number_of_carried y ys x at asc h) (stands_listed ys x at e (tail_ascends number_of_carried y ys asc) h q)

pub is_listed : (xs : List Carried) (x at : ℕ) → IsAscending xs → StandsAt xs x at → is_some (listed xs x) ≡ true
is_listed [] x at asc h = absurd h
is_listed (y ∷ ys) x zero asc h = let t : (x == y.0) ≡ true = grind (arith, nat_tests) in rw t refl
is_listed (y ∷ ys) x (suc at) asc h = rw (first_differs number_of_carried y ys x at asc h) (is_listed ys x at (tail_ascends number_of_carried y ys asc) h)

-- other elements at the place of a variable
pub set_listed : (xs : List Carried) (x at : ℕ) (e : Carried) (f : List Value → List Value) → IsAscending xs → StandsAt xs x at → e ≡ get_or xs at e → slice_set xs at (e.0, f e.1) ≡ with_listed x f xs
set_listed [] x at e f asc h q = absurd h
set_listed (y ∷ ys) x zero e f asc h q = let t : (x == y.0) ≡ true = grind (arith, nat_tests) in rw t (ap (λ (z : Carried). let w : Carried = (z.0, f z.1) in w ∷ ys) q)
set_listed (y ∷ ys) x (suc at) e f asc h q = rw (first_differs number_of_carried y ys x at asc h) (ap (λ zs. y ∷ zs) (set_listed ys x at e f (tail_ascends number_of_carried y ys asc) h q))

-- a variable that isn't carried
pub unlisted : (xs : List Carried) (x : ℕ) (f : List Value → List Value) → listed xs x ≡ None → with_listed x f xs ≡ xs
unlisted [] x f h = refl
unlisted (y ∷ ys) x f h = by (x == y.0) (unlisted ys x f) h
  where
    by : (b : Bool) → (listed ys x ≡ None → with_listed x f ys ≡ ys) → (if b then Some y.1 else listed ys x) ≡ None → (if b then (y.0, f y.1) ∷ ys else y ∷ with_listed x f ys) ≡ y ∷ ys
    by true go e = absurd cc
    by false go e = ap (λ zs. y ∷ zs) (go e)

-- a number among all numbers is that of the variable at its place
stands_by_number : (xs : List Carried) (k x : ℕ) → slice_get (numbers_of xs) k ≡ Some x → StandsAt xs x k
stands_by_number [] k x h = absurd cc
stands_by_number (y ∷ ys) zero x h = let e : y.0 ≡ x = cc in e
stands_by_number (y ∷ ys) (suc k) x h = stands_by_number ys k x h

number_there : (xs : List Carried) (k : ℕ) (d : Carried) → k < length xs → slice_get (numbers_of xs) k ≡ Some (get_or xs k d).0
number_there [] k d lt = absurd (omega arith)
number_there (y ∷ ys) zero d lt = refl
number_there (y ∷ ys) (suc k) d lt = number_there ys k d (omega arith)

-- one of those in order stands as far on as its number is above the first
pub stands_in_order : (xs : List Carried) (first n x : ℕ) → StandInOrder first n xs → x < 4294967296 → (x + (4294967296 - first)) % 4294967296 < n → StandsAt xs x ((x + (4294967296 - first)) % 4294967296)
stands_in_order xs first n x h small within =
    let place : ℕ = (x + (4294967296 - first)) % 4294967296 in
    let most : first + n ≤ 4294967296 = h.0 in
    let e : first + place ≡ x = omega arith in
    stands_by_number xs place x (h.1 place within ∙ ap (λ (i : ℕ). Some i) e)

-- none are in order
pub none_in_order : (xs : List Carried) (first : ℕ) → first < 4294967296 → StandInOrder first 0 xs
none_in_order xs first small = (omega arith, λ k lt. absurd (omega arith))

-- one more is in order
pub more_in_order : (xs : List Carried) (first n : ℕ) (d : Carried) → StandInOrder first n xs → n < length xs → (get_or xs n d).0 ≡ first + n → first + n < 4294967296 → StandInOrder first (n + 1) xs
more_in_order xs first n d h within same small = (omega arith, λ k lt. by (k == n) k refl lt)
  where
    there : slice_get (numbers_of xs) n ≡ Some (first + n)
    there = number_there xs n d within ∙ ap (λ (i : ℕ). Some i) same

    by : (b : Bool) (k : ℕ) → (k == n) ≡ b → k < n + 1 → slice_get (numbers_of xs) k ≡ Some (first + k)
    by true k e lt = rw ((Decides-eqb k n).0 e) there
    by false k e lt = h.1 k (grind (arith, nat_tests))

-- so are fewer
pub fewer_in_order : (xs : List Carried) (first n m : ℕ) → StandInOrder first n xs → m ≤ n → StandInOrder first m xs
fewer_in_order xs first n m h le = let most : first + n ≤ 4294967296 = h.0 in (omega arith, λ k lt. h.1 k (omega arith))

-- with the same numbers as many are in order
pub still_in_order : (xs ys : List Carried) (first n : ℕ) → numbers_of xs ≡ numbers_of ys → StandInOrder first n ys → StandInOrder first n xs
still_in_order xs ys first n same h = (h.0, λ k lt. ap (λ ns. slice_get ns k) same ∙ h.1 k lt)
