-- Operators on the bits of two signed integers, by their residues.
use Rattle.std.proofs.Common.{◌≡◌, ℕ, ◌+◌, ◌%◌, ◌^◌, ◌<◌, refl, sym, ◌∙◌, ap, arith, ℤ, pos, negsuc, FitsSigned, bit_and, bit_or, bit_xor}
use Rattle.std.specs.Int.{Width, w8, w16, w32, w64, w128, cast_signed, cast_unsigned, int_wrap}
use Rattle.std.specs.Int.Bits.{and_lt}
use Rattle.std.proofs.Math.Nat.{mod-lt, mod-eq_of_lt}
use Rattle.std.proofs.lemmas.Nat.{pow_pos, or_lt, xor_lt}
use mir.Val.{bits, hbits}
use Rattle.ooo_value.specs.Values.{residue}

-- half of what a width holds has a sign
halves : (w : Width) → 2 ^ bits w ≡ 2 ^ hbits w + 2 ^ hbits w
halves w8 = refl
halves w16 = refl
halves w32 = refl
halves w64 = refl
halves w128 = refl

-- a residue is below its power of two
residue-lt : (k : ℕ) (z : ℤ) → residue k z < 2 ^ k
residue-lt k (pos n) = mod-lt n (pow_pos k)
residue-lt k (negsuc n) = omega (arith, pow_pos k)

-- the bits of a signed integer are its residue
bits_are : (w : Width) (z : ℤ) → FitsSigned w z → cast_unsigned w z ≡ residue (bits w) z
bits_are w (pos n) f = let l : n < 2 ^ bits w = omega (arith, f.sfits, halves w) in sym (mod-eq_of_lt l)
bits_are w (negsuc n) f =
    let l : n < 2 ^ bits w = omega (arith, f.sfits, halves w) in
    let e : n % 2 ^ bits w ≡ n = mod-eq_of_lt l in
    omega arith

-- bits read with a sign are what is left of their number
wrap_is : (w : Width) (z : ℤ) → int_wrap w z ≡ cast_signed w (residue (bits w) z)
unfolding int_wrap
wrap_is w z = refl

read : (w : Width) (n : ℕ) → n < 2 ^ bits w → cast_signed w n ≡ int_wrap w (pos n)
read w n h = ap (cast_signed w) (sym (mod-eq_of_lt h)) ∙ sym (wrap_is w (pos n))

-- an operator on bits that makes no longer ones, on two signed integers
signed_bits : (w : Width) (f : ℕ → ℕ → ℕ) → ((k a b : ℕ) → a < 2 ^ k → b < 2 ^ k → f a b < 2 ^ k) → (x y : ℤ) → FitsSigned w x → FitsSigned w y
    → cast_signed w (f (cast_unsigned w x) (cast_unsigned w y)) ≡ int_wrap w (pos (f (residue (bits w) x) (residue (bits w) y)))
signed_bits w f short x y g h = rw (bits_are w x g, bits_are w y h) (read w _ (short (bits w) _ _ (residue-lt (bits w) x) (residue-lt (bits w) y)))

pub signed_and : (w : Width) (x y : ℤ) → FitsSigned w x → FitsSigned w y → cast_signed w (bit_and (cast_unsigned w x) (cast_unsigned w y)) ≡ int_wrap w (pos (bit_and (residue (bits w) x) (residue (bits w) y)))
signed_and w x y f g = signed_bits w bit_and and_lt x y f g

pub signed_or : (w : Width) (x y : ℤ) → FitsSigned w x → FitsSigned w y → cast_signed w (bit_or (cast_unsigned w x) (cast_unsigned w y)) ≡ int_wrap w (pos (bit_or (residue (bits w) x) (residue (bits w) y)))
signed_or w x y f g = signed_bits w bit_or or_lt x y f g

pub signed_xor : (w : Width) (x y : ℤ) → FitsSigned w x → FitsSigned w y → cast_signed w (bit_xor (cast_unsigned w x) (cast_unsigned w y)) ≡ int_wrap w (pos (bit_xor (residue (bits w) x) (residue (bits w) y)))
signed_xor w x y f g = signed_bits w bit_xor xor_lt x y f g
