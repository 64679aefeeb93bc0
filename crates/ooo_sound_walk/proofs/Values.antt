-- A value that is converted to a kind is of that kind.
use Rattle.std.proofs.Common.{rules, arith, ◌≡◌, ℕ, ◌^◌, ◌<◌, refl, ℤ, pos, negsuc, FitsSigned}
use Rattle.std.specs.Prelude.{IsTrue, Bool, true, false}
use Rattle.std.specs.Int.{w32, w64}
use Rattle.std.proofs.Math.Nat.{mod-lt}
use Rattle.std.proofs.lemmas.Nat.{pow_pos}
use Rattle.std.proofs.lemmas.Int.{SFits-int_wrap}
use Rattle.ooo_value.specs.declared.kinds.Kind.{Kind}
use Rattle.ooo_value.specs.declared.kinds.Kind.TheVariants as kind
use Rattle.ooo_value.specs.declared.values.Value.TheVariants as value
use Rattle.ooo_value.specs.Values.{IsOfKind, kind_of, number_of, value_of, is_in_range, is_nonzero, residue}

residue-lt : (k : ℕ) (z : ℤ) → residue k z < 2 ^ k
residue-lt k (pos n) = mod-lt n (pow_pos k)
residue-lt k (negsuc n) = omega (arith, pow_pos k)

in_range_32 : (z : ℤ) → FitsSigned w32 z → IsTrue (is_in_range kind.Int z)
in_range_32 (pos n) f = let h : n < 2 ^ 31 = f.sfits in search rules
in_range_32 (negsuc n) f = let h : n < 2 ^ 31 = f.sfits in search rules

in_range_64 : (z : ℤ) → FitsSigned w64 z → IsTrue (is_in_range kind.Long z)
in_range_64 (pos n) f = let h : n < 2 ^ 63 = f.sfits in search rules
in_range_64 (negsuc n) f = let h : n < 2 ^ 63 = f.sfits in search rules

bool_in_range : (b : Bool) → IsTrue (is_in_range kind.Bool (number_of (value.Bool b)))
bool_in_range true = refl
bool_in_range false = refl

value_in_range : (k : Kind) (z : ℤ) → IsTrue (is_in_range k (number_of (value_of k z)))
value_in_range kind.Bool z = bool_in_range (is_nonzero z)
value_in_range kind.Int z = in_range_32 _ (SFits-int_wrap w32 z)
value_in_range kind.Uint z = let h : residue 32 z < 2 ^ 32 = residue-lt 32 z in search rules
value_in_range kind.Long z = in_range_64 _ (SFits-int_wrap w64 z)
value_in_range kind.Ulong z = let h : residue 64 z < 2 ^ 64 = residue-lt 64 z in search rules

kind_of_value : (k : Kind) (z : ℤ) → kind_of (value_of k z) ≡ k
kind_of_value kind.Bool z = refl
kind_of_value kind.Int z = refl
kind_of_value kind.Uint z = refl
kind_of_value kind.Long z = refl
kind_of_value kind.Ulong z = refl

-- the value of a kind that an integer converts to
pub of_kind : (k : Kind) (z : ℤ) → IsOfKind (value_of k z) k
of_kind k z = (kind_of_value k z, value_in_range k z)
