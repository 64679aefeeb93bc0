-- When an operator faults, in the words of ISO C++: [expr.pre] for results out of range, [expr.mul]
-- for divisors, [expr.shift] for amounts.
use Rattle.std.specs.Prelude.{◌≡◌, Bool, true, false, if◌then◌else◌, ℤ, pos, ◌≤ℤ◌, ◌<ℤ◌, int_div, Option, Some, None, IsSomeAnd, IsTrue, IsFalse}
use Rattle.ooo_value.specs.declared.operators.Op.{Op}
use Rattle.ooo_value.specs.declared.values.Value.{Value}
use Rattle.ooo_value.specs.Kinds.{width_of, is_signed, promoted_kind, common_kind}
use Rattle.ooo_value.specs.Operators.{Class, Sum, Quotient, Shift, class_of}
use Rattle.ooo_value.specs.Values.{kind_of, number_of, number_in, is_in_range, is_nonzero}

-- the operators that divide
abbrev pub divides : Class → Bool
divides (Quotient f) = true
divides _ = false

-- the operators that shift
abbrev pub shifts : Class → Bool
shifts (Shift f) = true
shifts _ = false

abbrev pub is_shift : Op → Bool
is_shift o = shifts (class_of o)

-- the integer that has to be one of the common kind, if there is one: the exact result of a sum, and
-- the quotient of a division
abbrev pub exact_of : Class → ℤ → ℤ → Option ℤ
exact_of (Sum f) x y = Some (f x y)
exact_of (Quotient f) x y = if is_nonzero y then Some (int_div x y) else None
exact_of _ x y = None

-- the common kind is signed and doesn't have that integer
abbrev pub OverflowsIn : Class → Value → Value → Type 0
OverflowsIn c a b =
    let k = common_kind (kind_of a) (kind_of b) in
    IsTrue (is_signed k) × IsSomeAnd (exact_of c (number_in k a) (number_in k b)) (λ z. IsFalse (is_in_range k z))

abbrev pub Overflows : Op → Value → Value → Type 0
Overflows o a b = OverflowsIn (class_of o) a b

-- the divisor is 0
abbrev pub DividesByZero : Op → Value → Type 0
DividesByZero o b = IsTrue (divides (class_of o)) × (number_of b ≡ pos 0)

-- the amount is from 0 to below the width of the promoted left side
abbrev pub IsAmount : Value → Value → Type 0
IsAmount a b = (pos 0 ≤ℤ number_of b) × (number_of b <ℤ pos (width_of (promoted_kind (kind_of a))))

-- a shift by another amount
abbrev pub ShiftsTooFar : Op → Value → Value → Type 0
ShiftsTooFar o a b = IsTrue (is_shift o) × ¬ (IsAmount a b)
