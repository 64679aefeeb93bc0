-- The numbers of those that pass a test.
use Rattle.std.proofs.Common.{◌≡◌, ℕ, zero, suc, ◌+◌, ◌-◌, ◌≤◌, Bool, true, false, cond, List, [], ◌∷◌, ◌++◌, length, refl, ap, sym, ◌∙◌, subst, arith, inl, inr, Some, add-zero}
use Rattle.std.specs.Prelude.{slice_get, Contains, count_by}
use Rattle.std.proofs.lemmas.List.Sums.{sum_by-cons}
use Rattle.ooo_lemmas.proofs.Contained.{not_in_none, in_first, in_later, first_or_later}
use Rattle.ooo_code.specs.Touches.{numbers_where}

-- the one that has a number
pub record PassesAt {A : Type 0} (test : A → Bool) (n : ℕ) (xs : List A) (w : ℕ) : Type 0 where
  pub item : A
  pub from : n ≤ w
  pub is : slice_get xs (w - n) ≡ Some item
  pub passes : test item ≡ true

later : {A : Type 0} (test : A → Bool) (n : ℕ) (x : A) (xs : List A) (w : ℕ) → PassesAt test (n + 1) xs w → PassesAt test n (x ∷ xs) w
later test n x xs w p =
    let from = p.from in
    let e : w - n ≡ suc (w - (n + 1)) = omega arith in
    record { item = p.item; from = omega arith; is = rw e p.is; passes = p.passes }

-- each number is that of one that passes
pub passes_at : {A : Type 0} (test : A → Bool) (n : ℕ) (xs : List A) (w : ℕ) → Contains (numbers_where test n xs) w → PassesAt test n xs w
passes_at test n [] w h = absurd (not_in_none w h)
passes_at {A} test n (x ∷ xs) w h = at (test x) refl (passes_at test (n + 1) xs w) h
  where
    at : (b : Bool) → test x ≡ b → (Contains (numbers_where test (n + 1) xs) w → PassesAt test (n + 1) xs w) → Contains (cond b (n ∷ numbers_where test (n + 1) xs) (numbers_where test (n + 1) xs)) w → PassesAt test n (x ∷ xs) w
    at true e rest h =
        elim (first_or_later n w (numbers_where test (n + 1) xs) h) [
          | inl same ↦ let z : w - n ≡ 0 = omega arith in record { item = x; from = omega arith; is = rw z refl; passes = e }
          | inr k ↦ later test n x xs w (rest k)
        ]
    at false e rest h = later test n x xs w (rest h)

-- one that passes has its number there
pub in_where : {A : Type 0} (test : A → Bool) (n : ℕ) (xs : List A) (k : ℕ) (x : A) → slice_get xs k ≡ Some x → test x ≡ true → Contains (numbers_where test n xs) (n + k)
in_where test n [] k x is p = cc
in_where {A} test n (y ∷ ys) zero x is p =
    let same : y ≡ x = cc in
    let t : test y ≡ true = ap test same ∙ p in
    rw (t, add-zero) (in_first n (numbers_where test (n + 1) ys))
in_where {A} test n (y ∷ ys) (suc k) x is p =
    let e : (n + 1) + k ≡ n + suc k = omega arith in
    at (test y) refl (subst (λ z. Contains (numbers_where test (n + 1) ys) z) e (in_where test (n + 1) ys k x is p))
  where
    at : (b : Bool) → test y ≡ b → Contains (numbers_where test (n + 1) ys) (n + suc k) → Contains (cond b (n ∷ numbers_where test (n + 1) ys) (numbers_where test (n + 1) ys)) (n + suc k)
    at true e r = in_later n (n + suc k) (numbers_where test (n + 1) ys) r
    at false e r = r

-- how many there are
pub length_where : {A : Type 0} (test : A → Bool) (n : ℕ) (xs : List A) → length (numbers_where test n xs) ≡ count_by test xs
length_where test n [] = refl
length_where {A} test n (x ∷ xs) = at (test x) (length_where test (n + 1) xs) ∙ sym (sum_by-cons (λ (y : A). cond (test y) 1 0) x xs)
  where
    at : (b : Bool) → length (numbers_where test (n + 1) xs) ≡ count_by test xs → length (cond b (n ∷ numbers_where test (n + 1) xs) (numbers_where test (n + 1) xs)) ≡ cond b 1 0 + count_by test xs
    at true r = omega arith
    at false r = omega arith

-- the numbers in a list with one more at its end
pub where_push : {A : Type 0} (test : A → Bool) (n : ℕ) (xs : List A) (x : A) → numbers_where test n (xs ++ x ∷ []) ≡ numbers_where test n xs ++ cond (test x) ((n + length xs) ∷ []) []
where_push test n [] x = rw add-zero refl
where_push {A} test n (y ∷ ys) x =
    let e : (n + 1) + length ys ≡ n + length (y ∷ ys) = omega arith in
    at (test y) (subst (λ z. numbers_where test (n + 1) (ys ++ x ∷ []) ≡ numbers_where test (n + 1) ys ++ cond (test x) (z ∷ []) []) e (where_push test (n + 1) ys x))
  where
    at : (b : Bool) → numbers_where test (n + 1) (ys ++ x ∷ []) ≡ numbers_where test (n + 1) ys ++ cond (test x) ((n + length (y ∷ ys)) ∷ []) [] →
        cond b (n ∷ numbers_where test (n + 1) (ys ++ x ∷ [])) (numbers_where test (n + 1) (ys ++ x ∷ []))
        ≡ cond b (n ∷ numbers_where test (n + 1) ys) (numbers_where test (n + 1) ys) ++ cond (test x) ((n + length (y ∷ ys)) ∷ []) []
    at true r = ap (λ z. n ∷ z) r
    at false r = r
