-- An integer of a kind's range is its own value there; quotients, rests and shifts stay in the range.
use Rattle.std.proofs.Common.{rules, arith, ◌≡◌, ◌≢◌, ℕ, suc, zero, ◌+◌, ◌*◌, ◌/◌, ◌^◌, ◌<◌, ◌≤◌, refl, ℤ, pos, negsuc, neg_ℤ, ◌+ℤ◌, ◌*ℤ◌, ◌<ℤ◌, FitsSigned, unsigned_abs}
use Rattle.std.specs.Prelude.{Ok, Err, IfOk, IsTrue, Bool, true, false, if◌then◌else◌}
use Rattle.std.specs.Int.{w32, w64, int_shr}
use Rattle.std.proofs.Math.Nat.{div-le_self, div-mul-le_self, lt-div-mul-add}
use Rattle.std.proofs.lemmas.Nat.{pow_pos}
use Rattle.std.proofs.lemmas.Int.{ints, int_wrap_fits}
use Rattle.ooo_value.specs.declared.kinds.Kind.{Kind}
use Rattle.ooo_value.specs.declared.kinds.Kind.TheVariants as kind
use Rattle.ooo_value.specs.declared.operators.Fault.TheVariants as fault
use Rattle.ooo_value.specs.declared.values.Value.{Value}
use Rattle.ooo_value.specs.Kinds.{promoted_kind}
use Rattle.ooo_value.specs.Operators.{IsFloor, shift_of, shifted_by}
use Rattle.ooo_value.specs.Values.{is_in_range, kind_of, number_of, value_of}

pub fits_32 : (z : ℤ) → IsTrue (is_in_range kind.Int z) → FitsSigned w32 z
fits_32 (pos n) h = search rules
fits_32 (negsuc n) h = search rules

pub fits_64 : (z : ℤ) → IsTrue (is_in_range kind.Long z) → FitsSigned w64 z
fits_64 (pos n) h = search rules
fits_64 (negsuc n) h = search rules

pub number_of-value_of : (k : Kind) (z : ℤ) → k ≢ kind.Bool → IsTrue (is_in_range k z) → number_of (value_of k z) ≡ z
number_of-value_of kind.Bool z n h = absurd (n refl)
number_of-value_of kind.Int z n h = int_wrap_fits w32 z (fits_32 z h)
number_of-value_of kind.Uint (pos m) n h = search rules
number_of-value_of kind.Uint (negsuc m) n h = search rules
number_of-value_of kind.Long z n h = int_wrap_fits w64 z (fits_64 z h)
number_of-value_of kind.Ulong (pos m) n h = search rules
number_of-value_of kind.Ulong (negsuc m) n h = search rules

-- rounding down by a power of two keeps the range
shr-le : (a n : ℕ) → a / 2 ^ n ≤ a
shr-le a n = div-le_self a (2 ^ n)

pub shr_in_range : (k : Kind) (z : ℤ) (n : ℕ) → k ≢ kind.Bool → IsTrue (is_in_range k z) → IsTrue (is_in_range k (int_shr z n))
shr_in_range kind.Bool z n b h = absurd (b refl)
shr_in_range kind.Int (pos a) n b h = let l = shr-le a n in search rules
shr_in_range kind.Int (negsuc a) n b h = let l = shr-le a n in search rules
shr_in_range kind.Uint (pos a) n b h = let l = shr-le a n in search rules
shr_in_range kind.Uint (negsuc a) n b h = absurd (search rules)
shr_in_range kind.Long (pos a) n b h = let l = shr-le a n in search rules
shr_in_range kind.Long (negsuc a) n b h = let l = shr-le a n in search rules
shr_in_range kind.Ulong (pos a) n b h = let l = shr-le a n in search rules
shr_in_range kind.Ulong (negsuc a) n b h = absurd (search rules)

-- and is rounding down
floor_pos : (a m d : ℕ) → d * m ≤ a → a < d * m + m → IsFloor (pos a) m (pos d)
floor_pos a m d l h = (omega (arith, ints), omega (arith, ints))

floor_neg : (a m d : ℕ) → d * m ≤ a → a < d * m + m → IsFloor (negsuc a) m (negsuc d)
floor_neg a m d l h = (omega (arith, ints), rw (up_one d) (above d l))
  where
    up_one : (d : ℕ) → negsuc d +ℤ pos 1 ≡ neg_ℤ (pos d)
    up_one zero = refl
    up_one (suc d) = omega (arith, ints)

    above : (d : ℕ) → d * m ≤ a → negsuc a <ℤ (neg_ℤ (pos d) *ℤ pos m)
    above zero l = omega (arith, ints)
    above (suc d) l = omega (arith, ints)

pub shr-floor : (z : ℤ) (n : ℕ) → IsFloor z (2 ^ n) (int_shr z n)
shr-floor (pos a) n = floor_pos a (2 ^ n) (a / 2 ^ n) (div-mul-le_self a (2 ^ n)) (lt-div-mul-add (pow_pos n))
shr-floor (negsuc a) n = floor_neg a (2 ^ n) (a / 2 ^ n) (div-mul-le_self a (2 ^ n)) (lt-div-mul-add (pow_pos n))

promoted_in_range : (k : Kind) (z : ℤ) → IsTrue (is_in_range k z) → IsTrue (is_in_range (promoted_kind k) z)
promoted_in_range kind.Bool (pos n) h = search rules
promoted_in_range kind.Bool (negsuc n) h = absurd (search rules)
promoted_in_range kind.Int z h = h
promoted_in_range kind.Uint z h = h
promoted_in_range kind.Long z h = h
promoted_in_range kind.Ulong z h = h

promoted-no_bool : (k : Kind) → promoted_kind k ≢ kind.Bool
promoted-no_bool k h = search rules

-- `>>` of a value is rounding down
pub right_shift-floor : (v by : Value) → IsTrue (is_in_range (kind_of v) (number_of v)) → IfOk (shift_of int_shr v by) (λ w. IsFloor (number_of v) (2 ^ unsigned_abs (number_of by)) (number_of w))
right_shift-floor v by h = at _ (unsigned_abs (number_of by))
  where
    k : Kind
    k = promoted_kind (kind_of v)

    exact : (n : ℕ) → number_of (value_of k (int_shr (number_of v) n)) ≡ int_shr (number_of v) n
    exact n = number_of-value_of k _ (promoted-no_bool (kind_of v)) (shr_in_range k (number_of v) n (promoted-no_bool (kind_of v)) (promoted_in_range (kind_of v) (number_of v) h))

    at : (near : Bool) (n : ℕ) → IfOk (shifted_by (if near then Ok n else Err fault.ShiftRange) (λ m. value_of k (int_shr (number_of v) m))) (λ w. IsFloor (number_of v) (2 ^ n) (number_of w))
    at true n = rw (exact n) (shr-floor (number_of v) n)
    at false n = tt
