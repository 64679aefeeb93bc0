-- A value is a kind and an integer of the kind's range (ISO C++ [basic.fundamental]); conversions between kinds ([conv.integral], [conv.bool]).
use Rattle.std.specs.Prelude.{◌≡◌, ℕ, ◌-◌, ◌^◌, Bool, not, ◌&&◌, if◌then◌else◌, ℤ, pos, neg_ℤ, ◌+ℤ◌, ◌*ℤ◌, unsigned_abs, int_le, IsTrue}
use Rattle.std.specs.Int.{int_rem_euclid, int_wrap, w32, w64}
use Rattle.std.specs.Ordering.{int_eq}
use Rattle.ooo_value.specs.declared.kinds.Kind.{Kind}
use Rattle.ooo_value.specs.declared.kinds.Kind.TheVariants as kind
use Rattle.ooo_value.specs.declared.values.Value.{Value}
use Rattle.ooo_value.specs.declared.values.Value.TheVariants as value
use Rattle.ooo_value.specs.Kinds.{width_of, is_signed}

-- the kind of a value
abbrev pub kind_of : Value → Kind
kind_of (value.Bool b) = kind.Bool
kind_of (value.Int z) = kind.Int
kind_of (value.Uint n) = kind.Uint
kind_of (value.Long z) = kind.Long
kind_of (value.Ulong n) = kind.Ulong

-- the integer that a value stands for: false is 0, and true is 1
abbrev pub number_of : Value → ℤ
number_of (value.Bool b) = pos (if b then 1 else 0)
number_of (value.Int z) = z
number_of (value.Uint n) = pos n
number_of (value.Long z) = z
number_of (value.Ulong n) = pos n

-- the least integer of a kind
abbrev pub least_of : Kind → ℤ
least_of k = if is_signed k then neg_ℤ (pos (2 ^ (width_of k - 1))) else pos 0

-- the greatest integer of a kind
abbrev pub greatest_of : Kind → ℤ
greatest_of k = pos ((if is_signed k then 2 ^ (width_of k - 1) else 2 ^ width_of k) - 1)

-- the kind has a value for the integer
abbrev pub is_in_range : Kind → ℤ → Bool
is_in_range k z = int_le (least_of k) z && int_le z (greatest_of k)

-- an integer modulo 2 ^ width: what its lowest bits read as a natural number
abbrev pub residue : ℕ → ℤ → ℕ
residue width z = unsigned_abs (int_rem_euclid z (pos (2 ^ width)))

-- whether an integer is not 0
abbrev pub is_nonzero : ℤ → Bool
is_nonzero z = not (int_eq z (pos 0))

-- the value of a kind that an integer converts to: the one congruent to it modulo 2 ^ width ([conv.integral]);
-- a bool tells whether it is not 0 ([conv.bool])
abbrev pub value_of : Kind → ℤ → Value
value_of kind.Bool z = value.Bool (is_nonzero z)
value_of kind.Int z = value.Int (int_wrap w32 z)
value_of kind.Uint z = value.Uint (residue 32 z)
value_of kind.Long z = value.Long (int_wrap w64 z)
value_of kind.Ulong z = value.Ulong (residue 64 z)

-- a value converted to a kind
abbrev pub conversion_of : Value → Kind → Value
conversion_of v k = value_of k (number_of v)

-- whether a value is not 0
abbrev pub truth_of : Value → Bool
truth_of v = is_nonzero (number_of v)

-- the integer of a value converted to a kind
abbrev pub number_in : Kind → Value → ℤ
number_in k v = number_of (conversion_of v k)

-- two integers differ by a multiple of 2 ^ width
abbrev pub IsCongruent : ℕ → ℤ → ℤ → Type 0
IsCongruent width x y = (q : ℤ) × (x ≡ y +ℤ q *ℤ pos (2 ^ width))

-- a value is of the kind, and its integer in the kind's range
abbrev pub IsOfKind : Value → Kind → Type 0
IsOfKind v k = (kind_of v ≡ k) × IsTrue (is_in_range k (number_of v))
