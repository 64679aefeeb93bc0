-- What an integer converts to.
use Rattle.std.proofs.Common.{rules, arith, ◌≡◌, ◌≢◌, ℕ, zero, suc, ◌+◌, ◌-◌, ◌*◌, ◌/◌, ◌%◌, ◌^◌, ◌<◌, refl, sym, ap, ◌∙◌, ◌⊎◌, inl, inr, ℤ, pos, negsuc, neg_ℤ, ◌+ℤ◌, ◌*ℤ◌, FitsSigned}
use Rattle.std.specs.Prelude.{IsTrue, Bool, true, false, nat_lt, if◌then◌else◌}
use Rattle.std.specs.Int.{Width, w32, w64, cast_signed, int_wrap}
use Rattle.std.proofs.Math.Nat.{mod-lt}
use Rattle.std.proofs.lemmas.Nat.{pow_pos, div-add-mod'}
use Rattle.std.proofs.lemmas.Int.{ints, SFits-int_wrap, int_wrap_fits}
use Rattle.ooo_value.specs.declared.kinds.Kind.{Kind}
use Rattle.ooo_value.specs.declared.kinds.Kind.TheVariants as kind
use Rattle.ooo_value.specs.declared.values.Value.TheVariants as value
use Rattle.ooo_value.specs.Kinds.{width_of}
use Rattle.ooo_value.specs.Values.{kind_of, number_of, value_of, is_in_range, is_nonzero, residue, IsCongruent}
use Rattle.ooo_value.proofs.Wraps.{int_wrap_is, residue-lt}
use mir.Val.{bits, hbits}

-- a value is in its kind's range
pub in_range_32 : (z : ℤ) → FitsSigned w32 z → IsTrue (is_in_range kind.Int z)
in_range_32 (pos n) f = let h : n < 2 ^ 31 = f.sfits in search rules
in_range_32 (negsuc n) f = let h : n < 2 ^ 31 = f.sfits in search rules

pub in_range_64 : (z : ℤ) → FitsSigned w64 z → IsTrue (is_in_range kind.Long z)
in_range_64 (pos n) f = let h : n < 2 ^ 63 = f.sfits in search rules
in_range_64 (negsuc n) f = let h : n < 2 ^ 63 = f.sfits in search rules

pub bool_in_range : (b : Bool) → IsTrue (is_in_range kind.Bool (number_of (value.Bool b)))
bool_in_range true = refl
bool_in_range false = refl

bool_again : (b : Bool) → value_of kind.Bool (number_of (value.Bool b)) ≡ value.Bool b
bool_again true = refl
bool_again false = refl

pub value_in_range : (k : Kind) (z : ℤ) → IsTrue (is_in_range k (number_of (value_of k z)))
value_in_range kind.Bool z = bool_in_range (is_nonzero z)
value_in_range kind.Int z = in_range_32 _ (SFits-int_wrap w32 z)
value_in_range kind.Uint z = let h : residue 32 z < 2 ^ 32 = residue-lt 32 z in search rules
value_in_range kind.Long z = in_range_64 _ (SFits-int_wrap w64 z)
value_in_range kind.Ulong z = let h : residue 64 z < 2 ^ 64 = residue-lt 64 z in search rules

-- an integer and its residue
less_multiple : (n d r p : ℕ) → n ≡ d * p + r → pos r ≡ pos n +ℤ neg_ℤ (pos d) *ℤ pos p
less_multiple n zero r p e = omega (arith, ints)
less_multiple n (suc d) r p e = omega (arith, ints)

more_multiple : (n d r p : ℕ) → n ≡ d * p + r → r < p → pos (p - 1 - r) ≡ negsuc n +ℤ pos (d + 1) *ℤ pos p
more_multiple n d r p e l = omega (arith, ints)

residue-congruent : (k : ℕ) (z : ℤ) → IsCongruent k (pos (residue k z)) z
residue-congruent k (pos n) = (neg_ℤ (pos (n / 2 ^ k)), less_multiple n (n / 2 ^ k) (n % 2 ^ k) (2 ^ k) (sym (div-add-mod' n (2 ^ k))))
residue-congruent k (negsuc n) = (pos (n / 2 ^ k + 1), more_multiple n (n / 2 ^ k) (n % 2 ^ k) (2 ^ k) (sym (div-add-mod' n (2 ^ k))) (mod-lt n (pow_pos k)))

-- bits read with a sign: their number, or that less 2 ^ width
read_cases : (w : Width) (r : ℕ) → r < 2 ^ bits w → (cast_signed w r ≡ pos r) ⊎ (cast_signed w r ≡ pos r +ℤ negsuc (2 ^ bits w - 1))
read_cases w r h = at (nat_lt r (2 ^ hbits w))
  where
    at : (low : Bool) → ((if low then pos r else negsuc (2 ^ bits w - suc r)) ≡ pos r) ⊎ ((if low then pos r else negsuc (2 ^ bits w - suc r)) ≡ pos r +ℤ negsuc (2 ^ bits w - 1))
    at true = inl refl
    at false = inr (omega (arith, ints))

-- and 2 ^ width less is a multiple less
less_once : (n d r p : ℕ) → n ≡ d * p + r → r < p → pos r +ℤ negsuc (p - 1) ≡ pos n +ℤ negsuc d *ℤ pos p
less_once n d r p e l = omega (arith, ints)

more_once : (n d r p : ℕ) → n ≡ d * p + r → r < p → pos (p - 1 - r) +ℤ negsuc (p - 1) ≡ negsuc n +ℤ pos d *ℤ pos p
more_once n d r p e l = omega (arith, ints)

lower-congruent : (k : ℕ) (z : ℤ) → IsCongruent k (pos (residue k z) +ℤ negsuc (2 ^ k - 1)) z
lower-congruent k (pos n) = (negsuc (n / 2 ^ k), less_once n (n / 2 ^ k) (n % 2 ^ k) (2 ^ k) (sym (div-add-mod' n (2 ^ k))) (mod-lt n (pow_pos k)))
lower-congruent k (negsuc n) = (pos (n / 2 ^ k), more_once n (n / 2 ^ k) (n % 2 ^ k) (2 ^ k) (sym (div-add-mod' n (2 ^ k))) (mod-lt n (pow_pos k)))

-- wrapping keeps an integer modulo 2 ^ width
wrap-congruent : (w : Width) (z : ℤ) → IsCongruent (bits w) (int_wrap w z) z
wrap-congruent w z =
    let same = residue-congruent (bits w) z in
    let less = lower-congruent (bits w) z in
    rw (int_wrap_is w z) (elim (read_cases w (residue (bits w) z) (residue-lt (bits w) z)) [
      | inl e ↦ (same.0, e ∙ same.1)
      | inr e ↦ (less.0, e ∙ less.1)
    ])

-- and so does a conversion to another kind than bool
pub value-congruent : (k : Kind) (z : ℤ) → k ≢ kind.Bool → IsCongruent (width_of k) (number_of (value_of k z)) z
value-congruent kind.Bool z h = absurd (h refl)
value-congruent kind.Int z h = wrap-congruent w32 z
value-congruent kind.Uint z h = residue-congruent 32 z
value-congruent kind.Long z h = wrap-congruent w64 z
value-congruent kind.Ulong z h = residue-congruent 64 z

-- a value of a kind is what its integer converts to in that kind
pub value_of-again : (k : Kind) (z : ℤ) → value_of k (number_of (value_of k z)) ≡ value_of k z
value_of-again kind.Bool z = bool_again (is_nonzero z)
value_of-again kind.Int z = ap value.Int (int_wrap_fits w32 _ (SFits-int_wrap w32 z))
value_of-again kind.Uint z = let h : residue 32 z < 2 ^ 32 = residue-lt 32 z in ap value.Uint (omega arith)
value_of-again kind.Long z = ap value.Long (int_wrap_fits w64 _ (SFits-int_wrap w64 z))
value_of-again kind.Ulong z = let h : residue 64 z < 2 ^ 64 = residue-lt 64 z in ap value.Ulong (omega arith)

-- a kind's value is of that kind
pub kind_of-value_of : (k : Kind) (z : ℤ) → kind_of (value_of k z) ≡ k
kind_of-value_of kind.Bool z = refl
kind_of-value_of kind.Int z = refl
kind_of-value_of kind.Uint z = refl
kind_of-value_of kind.Long z = refl
kind_of-value_of kind.Ulong z = refl
