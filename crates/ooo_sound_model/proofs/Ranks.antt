-- Ranks from a measure: how many functions have less.
use Rattle.std.proofs.Common.{◌≡◌, ◌∙◌, sym, ap, arith, ℕ, zero, suc, ◌<◌, length, Bool, true, false, inl, inr}
use Rattle.std.specs.Prelude.{nat_lt}
use Rattle.std.proofs.lemmas.Bool.{le-ltb, lt-ltb, ltb-true}
use Rattle.std.proofs.lemmas.Bool.Decides.{eqb_tells}
use Rattle.ooo_lemmas.specs.Counting.{one_if, count}
use Rattle.ooo_lemmas.proofs.Counting.{one_at_most, none_if, count_at_most, count_strictly}
use Rattle.ooo_sound_model.specs.Ranks.{MeasuredAreRanked}

-- one that doesn't pass leaves fewer
count_fewer : (p : ℕ → Bool) (n k : ℕ) → k < n → p k ≡ false → count p n < n
count_fewer p zero k within h = absurd (omega (arith, within))
count_fewer p (suc n) k within h = elim (eqb_tells k n) [
  | inl w ↦ let none : one_if (p n) ≡ 0 = none_if (p n) (ap p (sym w.1) ∙ h) in let g = count_at_most p n in omega (arith, none, g)
  | inr w ↦ let g = one_at_most (p n) in let r : count p n < n = count_fewer p n k (omega (arith, within, w.1)) h in omega (arith, g, r)
]

less : (ℕ → ℕ) → ℕ → ℕ → Bool
less m f h = nat_lt (m h) (m f)

-- what has less than one has less than what has more
less_on : (m : ℕ → ℕ) (g f : ℕ) → m g < m f → (h : ℕ) → less m g h ≡ true → less m f h ≡ true
unfolding less
less_on m g f h k is = let l = ltb-true (m k) (m g) is in lt-ltb (m k) (m f) (omega (arith, l, h))

not_less : (m : ℕ → ℕ) (f : ℕ) → less m f f ≡ false
unfolding less
not_less m f = le-ltb (m f) (m f) (omega arith)

is_less : (m : ℕ → ℕ) (g f : ℕ) → m g < m f → less m f g ≡ true
unfolding less
is_less m g f h = lt-ltb (m g) (m f) h

pub measured_are_ranked : MeasuredAreRanked
measured_are_ranked functions m falls = record {
  rank = λ f. count (less m f) (length functions);
  bounded = λ f within. count_fewer (less m f) (length functions) f within (not_less m f);
  falls = λ f g function is calls.
      let h = falls f g function is calls in
      count_strictly (less m g) (less m f) (less_on m g f h.1) (length functions) g h.0 (not_less m g) (is_less m g f h.1);
}
