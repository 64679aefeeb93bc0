-- The value of digits, as the code sums it up: from the left, each step by the radix.
use Rattle.std.proofs.Common.{◌≡◌, ℕ, ◌+◌, ◌*◌, ◌^◌, ◌<◌, ◌≤◌, Bool, true, false, cond, leb, List, [], ◌∷◌, length, drop, get_or, Option, Some, None, refl, ap, ◌∙◌, subst, arith}
use Rattle.std.proofs.Math.Nat.{add-mul, mul_assoc, pow-succ', one-le-pow, le-mul_of_pos_right, zero-mul, mul-one, pow-zero}
use Rattle.std.proofs.Math.ListN.{drop_of_length-le}
use Rattle.std.proofs.lemmas.Bool.{leb-true, le-leb}
use Rattle.std.proofs.lemmas.List.{drop_more}
use Rattle.ooo_lexer.specs.declared.numbers.Base.{Base}
use Rattle.ooo_lexer.specs.declared.numbers.Base.TheVariants as base
use Rattle.ooo_lexer.specs.Numbers.{radix, digit_value, value_of}
use Rattle.ooo_lexer.specs.Numerals.{fitting}

-- the value of all digits, by the value of those so far and the others
pub record SoFar (b : Base) (whole value : ℕ) (others : List ℕ) : Type 0 where
  pub is : whole ≡ value * radix b ^ length others + value_of b others

pub so_far_none : (b : Base) (ds : List ℕ) → SoFar b (value_of b ds) 0 ds
so_far_none b ds = record { is = omega (arith, zero-mul (radix b ^ length ds)) }

-- one step, over plain numbers
step : (v r d p w : ℕ) → v * (r * p) + (d * p + w) ≡ (v * r + d) * p + w
step v r d p w = omega (arith, add-mul (v * r) d p, mul_assoc v r p)

so_far_more : (b : Base) (whole v d : ℕ) (ds : List ℕ) → SoFar b whole v (d ∷ ds) → SoFar b whole (v * radix b + digit_value d) ds
so_far_more b whole v d ds s = record {
  is = s.is ∙ ap (λ p. v * p + (digit_value d * radix b ^ length ds + value_of b ds)) (pow-succ' (radix b) (length ds)) ∙ step v (radix b) (digit_value d) (radix b ^ length ds) (value_of b ds);
}

radix_some : (b : Base) → 0 < radix b
radix_some base.Decimal = omega arith
radix_some base.Hexadecimal = omega arith

pub so_far_within : (b : Base) (whole v : ℕ) (ds : List ℕ) → SoFar b whole v ds → v ≤ whole
so_far_within b whole v ds s =
    let p = one-le-pow (length ds) (radix b) (radix_some b) in
    let q : v ≤ v * radix b ^ length ds = le-mul_of_pos_right v (omega arith) in
    omega (arith, s.is)

-- the same, by what the loop has
pub so_far_next : (b : Base) (whole v i : ℕ) (ds : List ℕ) → SoFar b whole v (drop i ds) → i < length ds → SoFar b whole (v * radix b + digit_value (get_or ds i 0)) (drop (i + 1) ds)
so_far_next b whole v i ds s h = so_far_more b whole v (get_or ds i 0) (drop (i + 1) ds) (subst (λ xs. SoFar b whole v xs) (drop_more ds i 0 h) s)

-- digits are left, so the whole is at least the value after the next one
pub so_far_at_least : (b : Base) (whole v i : ℕ) (ds : List ℕ) → SoFar b whole v (drop i ds) → i < length ds → v * radix b + digit_value (get_or ds i 0) ≤ whole
so_far_at_least b whole v i ds s h = so_far_within b whole (v * radix b + digit_value (get_or ds i 0)) (drop (i + 1) ds) (so_far_next b whole v i ds s h)

pub so_far_all : (b : Base) (whole v i : ℕ) (ds : List ℕ) → SoFar b whole v (drop i ds) → length ds ≤ i → whole ≡ v
so_far_all b whole v i ds s h =
    let t : SoFar b whole v [] = subst (λ xs. SoFar b whole v xs) (drop_of_length-le ds h) s in
    omega (arith, t.is, ap (λ p. v * p) (pow-zero (radix b)), mul-one v)

pub fitting_some : (v : ℕ) → v < 18446744073709551616 → fitting v ≡ Some v
fitting_some v h = rw (le-leb v 18446744073709551615 (omega arith))

pub fitting_none : (v : ℕ) → 18446744073709551616 ≤ v → fitting v ≡ None
fitting_none v h = at (leb v 18446744073709551615) refl
  where
    at : (t : Bool) → leb v 18446744073709551615 ≡ t → ◌≡◌ {A = Option ℕ} (cond t (Some v) None) None
    at true e = absurd (omega (arith, leb-true v 18446744073709551615 e))
    at false e = refl
