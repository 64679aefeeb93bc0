-- Operators on the bits of two values of one kind: converted to that kind, its values are as they were.
use Rattle.std.proofs.Common.{◌≡◌, ℕ, ◌^◌, ◌<◌, Ok, ap, ℤ, pos, FitsSigned}
use Rattle.std.specs.Int.{int_wrap, w32, w64}
use Rattle.std.proofs.Math.Nat.{mod-eq_of_lt}
use Rattle.std.proofs.lemmas.Int.{int_wrap_fits}
use Rattle.ooo_value.specs.declared.values.Value.TheVariants as value
use Rattle.ooo_value.specs.Operators.{Answer, Bits, answer_of}
use Rattle.ooo_value.specs.Values.{residue}

-- of two ints
pub ints : (f : ℕ → ℕ → ℕ) (x y z : ℤ) → FitsSigned w32 x → FitsSigned w32 y → z ≡ int_wrap w32 (pos (f (residue 32 x) (residue 32 y))) → Ok (value.Int z) ≡ answer_of (Bits f) (value.Int x) (value.Int y)
ints f x y z g h e = rw (int_wrap_fits w32 x g, int_wrap_fits w32 y h) (let made : ℤ → Answer = λ n. Ok (value.Int n) in ap made e)

-- of two long longs
pub longs : (f : ℕ → ℕ → ℕ) (x y z : ℤ) → FitsSigned w64 x → FitsSigned w64 y → z ≡ int_wrap w64 (pos (f (residue 64 x) (residue 64 y))) → Ok (value.Long z) ≡ answer_of (Bits f) (value.Long x) (value.Long y)
longs f x y z g h e = rw (int_wrap_fits w64 x g, int_wrap_fits w64 y h) (let made : ℤ → Answer = λ n. Ok (value.Long n) in ap made e)

-- of two unsigned ints
pub uints : (f : ℕ → ℕ → ℕ) (a b : ℕ) → a < 2 ^ 32 → b < 2 ^ 32 → f a b < 2 ^ 32 → Ok (value.Uint (f a b)) ≡ answer_of (Bits f) (value.Uint a) (value.Uint b)
uints f a b g h l = simp (mod-eq_of_lt g, mod-eq_of_lt h, mod-eq_of_lt l)

-- of two unsigned long longs
pub ulongs : (f : ℕ → ℕ → ℕ) (a b : ℕ) → a < 2 ^ 64 → b < 2 ^ 64 → f a b < 2 ^ 64 → Ok (value.Ulong (f a b)) ≡ answer_of (Bits f) (value.Ulong a) (value.Ulong b)
ulongs f a b g h l = simp (mod-eq_of_lt g, mod-eq_of_lt h, mod-eq_of_lt l)
