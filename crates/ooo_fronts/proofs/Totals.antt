-- Sums and counts over the numbers below a bound.
use Rattle.std.proofs.Common.{◌≡◌, ◌≢◌, ◌∙◌, refl, ap, arith, ℕ, zero, suc, ◌+◌, ◌*◌, ◌<◌, ◌≤◌, Bool, true, false, inl, inr}
use Rattle.std.proofs.lemmas.Bool.{cases_lt}
use Rattle.ooo_lemmas.specs.Counting.{count}
use Rattle.ooo_lemmas.proofs.Counting.{none_if, some_if}
use Rattle.ooo_fronts.specs.Holds.{total}

-- ---- counts

-- where none passes from m on, as many pass below m
pub count_skips : (test : ℕ → Bool) (m n : ℕ) → m ≤ n → ((b : ℕ) → m ≤ b → b < n → test b ≡ false) → count test n ≡ count test m
count_skips test m zero le none = let e : 0 ≡ m = omega arith in ap (count test) e
count_skips test m (suc n) le none = elim (cases_lt m (suc n)) [
  | inl below ↦
      let rest : count test n ≡ count test m = count_skips test m n (omega arith) (λ b from to. none b from (omega arith)) in
      let last = none_if (test n) (none n (omega arith) (omega arith)) in
      omega (arith, rest, last)
  | inr above ↦ let e : suc n ≡ m = omega arith in ap (count test) e
]

pub count_yes : (test : ℕ → Bool) (n : ℕ) → test n ≡ true → count test (n + 1) ≡ count test n + 1
count_yes test n e =
    let next : n + 1 ≡ suc n = omega arith in
    let one = some_if (test n) e in
    let same : count test (n + 1) ≡ count test (suc n) = ap (count test) next in
    omega (arith, one, same)

pub count_no : (test : ℕ → Bool) (n : ℕ) → test n ≡ false → count test (n + 1) ≡ count test n
count_no test n e =
    let next : n + 1 ≡ suc n = omega arith in
    let one = none_if (test n) e in
    let same : count test (n + 1) ≡ count test (suc n) = ap (count test) next in
    omega (arith, one, same)

pub none_counted : (test : ℕ → Bool) (n : ℕ) → ((b : ℕ) → b < n → test b ≡ false) → count test n ≡ 0
none_counted test n none = count_skips test 0 n (omega arith) (λ b from to. none b to)

pub counted_none : (test : ℕ → Bool) (n : ℕ) → count test n ≡ 0 → (b : ℕ) → b < n → test b ≡ false
counted_none test zero e b lt = absurd (omega arith)
counted_none test (suc n) e b lt = elim (cases_lt b n) [
  | inl below ↦ counted_none test n (omega (arith, e)) b below
  | inr above ↦ let same : b ≡ n = omega arith in ap test same ∙ last (test n) refl
]
  where
    last : (x : Bool) → test n ≡ x → test n ≡ false
    last true t = let one = some_if (test n) t in absurd (omega (arith, e, one))
    last false t = t

-- ---- sums

pub total_same : (f g : ℕ → ℕ) (n : ℕ) → ((k : ℕ) → k < n → f k ≡ g k) → total f n ≡ total g n
total_same f g zero h = refl
total_same f g (suc n) h =
    let rest = total_same f g n (λ k lt. h k (omega arith)) in
    let last = h n (omega arith) in
    omega (arith, rest, last)

-- where two functions differ at one number alone
pub total_changed : (f g : ℕ → ℕ) (p n : ℕ) → p < n → ((k : ℕ) → k ≢ p → f k ≡ g k) → total f n + g p ≡ total g n + f p
total_changed f g p zero lt h = absurd (omega arith)
total_changed f g p (suc n) lt h = elim (cases_lt p n) [
  | inl below ↦
      let rest = total_changed f g p n below h in
      let last = h n (λ e. absurd (omega (arith, e, below))) in
      omega (arith, rest, last)
  | inr above ↦
      let same : p ≡ n = omega arith in
      let rest = total_same f g n (λ k below. h k (λ e. absurd (omega (arith, e, below, same)))) in
      let a = ap f same in
      let b = ap g same in
      omega (arith, rest, a, b)
]

pub total_at_most : (f : ℕ → ℕ) (n : ℕ) → ((k : ℕ) → f k ≤ 1024) → total f n ≤ 1024 * n
total_at_most f zero h = omega arith
total_at_most f (suc n) h = let rest = total_at_most f n h in let last = h n in omega (arith, rest, last)

pub total_more : (f : ℕ → ℕ) (n : ℕ) → total f (n + 1) ≡ total f n + f n
total_more f n = let next : n + 1 ≡ suc n = omega arith in ap (total f) next

-- where nothing is added from m on
pub total_skips : (f : ℕ → ℕ) (m n : ℕ) → m ≤ n → ((b : ℕ) → m ≤ b → b < n → f b ≡ 0) → total f n ≡ total f m
total_skips f m zero le none = let e : 0 ≡ m = omega arith in ap (total f) e
total_skips f m (suc n) le none = elim (cases_lt m (suc n)) [
  | inl below ↦
      let rest : total f n ≡ total f m = total_skips f m n (omega arith) (λ b from to. none b from (omega arith)) in
      let last = none n (omega arith) (omega arith) in
      omega (arith, rest, last)
  | inr above ↦ let e : suc n ≡ m = omega arith in ap (total f) e
]

pub total_rises : (f : ℕ → ℕ) (m n : ℕ) → m ≤ n → total f m ≤ total f n
total_rises f m zero le = let e : m ≡ 0 = omega arith in let same = ap (total f) e in omega (arith, same)
total_rises f m (suc n) le = elim (cases_lt m (suc n)) [
  | inl below ↦ let rest : total f m ≤ total f n = total_rises f m n (omega arith) in omega (arith, rest)
  | inr above ↦ let e : m ≡ suc n = omega arith in let same = ap (total f) e in omega (arith, same)
]

pub none_added : (f : ℕ → ℕ) (n : ℕ) → ((k : ℕ) → k < n → f k ≡ 0) → total f n ≡ 0
none_added f zero h = refl
none_added f (suc n) h =
    let rest = none_added f n (λ k lt. h k (omega arith)) in
    let last = h n (omega arith) in
    omega (arith, rest, last)

pub added_none : (f : ℕ → ℕ) (n : ℕ) → total f n ≡ 0 → (k : ℕ) → k < n → f k ≡ 0
added_none f zero e k lt = absurd (omega arith)
added_none f (suc n) e k lt = elim (cases_lt k n) [
  | inl below ↦ added_none f n (omega (arith, e)) k below
  | inr above ↦ let same : k ≡ n = omega arith in let here = ap f same in omega (arith, e, here)
]
