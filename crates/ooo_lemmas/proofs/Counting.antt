-- How many numbers below a bound pass a test.
use Rattle.std.proofs.Common.{◌≡◌, ◌∙◌, refl, sym, ap, arith, ℕ, zero, suc, ◌<◌, ◌≤◌, Bool, true, false, inl, inr}
use Rattle.std.proofs.lemmas.Bool.Decides.{eqb_tells}
use Rattle.ooo_lemmas.specs.Counting.{one_if, count}

pub one_at_most : (x : Bool) → one_if x ≤ 1
unfolding one_if
one_at_most true = omega arith
one_at_most false = omega arith

pub one_more : (x y : Bool) → (x ≡ true → y ≡ true) → one_if x ≤ one_if y
unfolding one_if
one_more true true h = omega arith
one_more true false h = absurd (let e = h refl in cc)
one_more false y h = omega arith

pub none_if : (x : Bool) → x ≡ false → one_if x ≡ 0
unfolding one_if
none_if false h = refl
none_if true h = absurd cc

pub some_if : (x : Bool) → x ≡ true → one_if x ≡ 1
unfolding one_if
some_if true h = refl
some_if false h = absurd cc

pub strictly : (x y : Bool) → x ≡ false → y ≡ true → one_if x < one_if y
unfolding one_if
strictly false true f t = omega arith
strictly false false f t = absurd cc
strictly true y f t = absurd cc

pub count_at_most : (p : ℕ → Bool) (n : ℕ) → count p n ≤ n
count_at_most p zero = omega arith
count_at_most p (suc n) = let h = count_at_most p n in let g = one_at_most (p n) in omega (arith, h, g)

-- a weaker test
pub count_more : (p q : ℕ → Bool) → ((k : ℕ) → p k ≡ true → q k ≡ true) → (n : ℕ) → count p n ≤ count q n
count_more p q h zero = omega arith
count_more p q h (suc n) = let g = count_more p q h n in let o = one_more (p n) (q n) (h n) in omega (arith, g, o)

-- one that passes the weaker test alone
pub count_strictly : (p q : ℕ → Bool) → ((k : ℕ) → p k ≡ true → q k ≡ true) → (n k : ℕ) → k < n → p k ≡ false → q k ≡ true → count p n < count q n
count_strictly p q h zero k within f t = absurd (omega (arith, within))
count_strictly p q h (suc n) k within f t = elim (eqb_tells k n) [
  | inl w ↦
      let s = strictly (p n) (q n) (ap p (sym w.1) ∙ f) (ap q (sym w.1) ∙ t) in
      let g = count_more p q h n in omega (arith, s, g)
  | inr w ↦
      let o = one_more (p n) (q n) (h n) in
      let r : count p n < count q n = count_strictly p q h n k (omega (arith, within, w.1)) f t in omega (arith, o, r)
]
