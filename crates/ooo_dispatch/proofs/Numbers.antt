-- The numbers of those in a list that pass a test.
use Rattle.std.proofs.Common.{◌≡◌, ℕ, zero, suc, ◌≤◌, ◌+◌, inl, inr, List, [], ◌∷◌, Bool, true, false, if◌then◌else◌, Some, refl, sym, ap, ◌∙◌, subst, arith}
use Rattle.std.specs.Prelude.{slice_get}
use Rattle.ooo_value.specs.declared.bound.BoundEvent.{BoundEvent}
use Rattle.ooo_code.specs.Touches.{numbers_where}
use Rattle.ooo_schedules.specs.Model.{In}

-- a number that passes a test is that of an element
pub record Numbered {A : Type 0} (test : A → Bool) (n : ℕ) (xs : List A) (m : ℕ) : Type 0 where
  pub place : ℕ
  pub item : A
  pub number : m ≡ n + place
  pub is : slice_get xs place ≡ Some item
  pub passes : test item ≡ true

pub numbered : {A : Type 0} (test : A → Bool) (n : ℕ) (xs : List A) (m : ℕ) → In m (numbers_where test n xs) → Numbered test n xs m
numbered test n [] m i = absurd i
numbered test n (x ∷ xs) m i = at (test x) refl i (λ j. numbered test (n + 1) xs m j)
  where
    behind : Numbered test (n + 1) xs m → Numbered test n (x ∷ xs) m
    behind r = record { place = suc r.place; item = r.item; number = r.number ∙ omega arith; is = r.is; passes = r.passes }

    at : (b : Bool) → test x ≡ b → In m (if b then n ∷ numbers_where test (n + 1) xs else numbers_where test (n + 1) xs) → (In m (numbers_where test (n + 1) xs) → Numbered test (n + 1) xs m) → Numbered test n (x ∷ xs) m
    at true h (inl e) rest = record { place = 0; item = x; number = e ∙ omega arith; is = refl; passes = h }
    at true h (inr j) rest = behind (rest j)
    at false h j rest = behind (rest j)

-- an element that passes a test has its number among them
pub in_numbers : {A : Type 0} (test : A → Bool) (n : ℕ) (xs : List A) (i : ℕ) (x : A) → slice_get xs i ≡ Some x → test x ≡ true → In (n + i) (numbers_where test n xs)
in_numbers test n [] i x e t = absurd cc
in_numbers test n (y ∷ xs) zero x e t = at (test y) refl
  where
    at : (b : Bool) → test y ≡ b → In (n + 0) (if b then n ∷ numbers_where test (n + 1) xs else numbers_where test (n + 1) xs)
    at true h = inl (omega arith)
    at false h = absurd (let same : y ≡ x = cc in let c : false ≡ true = sym h ∙ ap test same ∙ t in cc)
in_numbers test n (y ∷ xs) (suc i) x e t = at (test y) (in_numbers test (n + 1) xs i x e t)
  where
    moved : (ms : List ℕ) → In (n + 1 + i) ms → In (n + suc i) ms
    moved ms j = subst (λ m. In m ms) (omega arith) j

    at : (b : Bool) → In (n + 1 + i) (numbers_where test (n + 1) xs) → In (n + suc i) (if b then n ∷ numbers_where test (n + 1) xs else numbers_where test (n + 1) xs)
    at true j = inr (moved (numbers_where test (n + 1) xs) j)
    at false j = moved (numbers_where test (n + 1) xs) j

-- a number that passes a test is not below the first
pub not_below : {A : Type 0} (test : A → Bool) (n : ℕ) (xs : List A) (m : ℕ) → In m (numbers_where test n xs) → n ≤ m
not_below test n xs m i = let r = numbered test n xs m i in let e = r.number in omega (arith, e)

module _ (events : List BoundEvent) where
  -- the event of this number passes the test
  pub record IsEventOf (test : BoundEvent → Bool) (e : ℕ) : Type 0 where
    pub event : BoundEvent
    pub is : slice_get events e ≡ Some event
    pub passes : test event ≡ true

  pub event_numbered : (test : BoundEvent → Bool) (e : ℕ) → In e (numbers_where test 0 events) → IsEventOf test e
  event_numbered test e i =
      let r = numbered test 0 events e i in
      let n = r.number in
      let same : e ≡ r.place = omega (arith, n) in
      record { event = r.item; is = ap (slice_get events) same ∙ r.is; passes = r.passes }

  pub number_of_event : (test : BoundEvent → Bool) (e : ℕ) → IsEventOf test e → In e (numbers_where test 0 events)
  number_of_event test e x = subst (λ m. In m (numbers_where test 0 events)) (omega arith) (in_numbers test 0 events e x.event x.is x.passes)
