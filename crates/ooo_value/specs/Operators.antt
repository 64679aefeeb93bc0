-- What the operators give, on integers (ISO C++ [expr.unary.op], [expr.mul] to [expr.or]).
use Rattle.std.specs.Prelude.{◌≡◌, ℕ, ◌^◌, ◌<◌, ◌≤ℤ◌, ◌<ℤ◌, Bool, not, ◌&&◌, if◌then◌else◌, ℤ, pos, ◌+ℤ◌, ◌-ℤ◌, ◌*ℤ◌, neg_ℤ, unsigned_abs, int_lt, int_le, int_div, int_rem, bit_and, bit_or, bit_xor, Result, Ok, Err}
use Rattle.std.specs.Int.{int_shr}
use Rattle.std.specs.Ordering.{int_eq}
use Rattle.ooo_value.specs.declared.kinds.Kind.{Kind}
use Rattle.ooo_value.specs.declared.kinds.Kind.TheVariants as kind
use Rattle.ooo_value.specs.declared.operators.Op.{Op}
use Rattle.ooo_value.specs.declared.operators.Op.TheVariants as op
use Rattle.ooo_value.specs.declared.operators.Fault.{Fault}
use Rattle.ooo_value.specs.declared.operators.Fault.TheVariants.{Overflow, DivideByZero, ShiftRange}
use Rattle.ooo_value.specs.declared.values.Value.{Value}
use Rattle.ooo_value.specs.declared.values.Value.TheVariants as value
use Rattle.ooo_value.specs.Kinds.{width_of, is_signed, promoted_kind, common_kind}
use Rattle.ooo_value.specs.Values.{kind_of, number_of, number_in, value_of, is_in_range, is_nonzero, residue}

-- the value that an operator gives, or the fault in its place
abbrev pub Answer : Type 0
Answer = Result Value Fault

-- an exact result overflows where its kind is signed and doesn't have it ([expr.pre]); an unsigned kind wraps it ([basic.fundamental])
abbrev pub is_overflow : Kind → ℤ → Bool
is_overflow k z = is_signed k && not (is_in_range k z)

-- an exact result, in a kind
abbrev pub result_in : Kind → ℤ → Answer
result_in k z = if is_overflow k z then Err Overflow else Ok (value_of k z)

-- what `f` gives of two integers that are divided: it is there only where the quotient is ([expr.mul])
abbrev pub divided_in : (ℤ → ℤ → ℤ) → Kind → ℤ → ℤ → Answer
divided_in f k x y =
    if is_nonzero y then (if is_overflow k (int_div x y) then Err Overflow else Ok (value_of k (f x y)))
    else Err DivideByZero

-- the bits of an integer of a kind, in two's complement, read as a natural number
abbrev pub bits_in : Kind → ℤ → ℕ
bits_in k z = residue (width_of k) z

-- the value of a kind whose bits an operator on bits makes of those of two integers ([expr.bit.and], [expr.xor], [expr.or])
abbrev pub bitwise : (ℕ → ℕ → ℕ) → Kind → ℤ → ℤ → Value
bitwise f k x y = value_of k (pos (f (bits_in k x) (bits_in k y)))

-- how far to shift: from 0 to below the width ([expr.shift])
abbrev pub amount_of : ℕ → ℤ → Result ℕ Fault
amount_of width z = if int_le (pos 0) z && int_lt z (pos width) then Ok (unsigned_abs z) else Err ShiftRange

-- the value that an amount gives, or the fault of the amount
abbrev pub shifted_by : Result ℕ Fault → (ℕ → Value) → Answer
shifted_by (Ok n) f = Ok (f n)
shifted_by (Err e) f = Err e

-- a shift, in the promoted kind of its left side, where `f` gives the exact result ([expr.shift])
abbrev pub shift_of : (ℤ → ℕ → ℤ) → Value → Value → Answer
shift_of f v by =
    let k = promoted_kind (kind_of v) in
    shifted_by (amount_of (width_of k) (number_of by)) (λ n. value_of k (f (number_of v) n))

-- times a power of two
abbrev pub times_power : ℤ → ℕ → ℤ
times_power z n = z *ℤ pos (2 ^ n)

-- both operands in their common kind
abbrev pub in_common : (Kind → ℤ → ℤ → Answer) → Value → Value → Answer
in_common f a b = let k = common_kind (kind_of a) (kind_of b) in f k (number_in k a) (number_in k b)

-- a class of operators, by what the exact result is
pub data Class : Type 0 where
  Sum : (ℤ → ℤ → ℤ) → Class
  Quotient : (ℤ → ℤ → ℤ) → Class
  Bits : (ℕ → ℕ → ℕ) → Class
  Shift : (ℤ → ℕ → ℤ) → Class
  Comparison : (ℤ → ℤ → Bool) → Class

-- the class of an operator: a quotient is cut towards zero, and its rest has the sign of the left side ([expr.mul])
abbrev pub class_of : Op → Class
class_of op.Add = Sum (λ x y. x +ℤ y)
class_of op.Subtract = Sum (λ x y. x -ℤ y)
class_of op.Multiply = Sum (λ x y. x *ℤ y)
class_of op.Divide = Quotient int_div
class_of op.Remainder = Quotient int_rem
class_of op.BitAnd = Bits bit_and
class_of op.BitOr = Bits bit_or
class_of op.BitXor = Bits bit_xor
class_of op.ShiftLeft = Shift times_power
class_of op.ShiftRight = Shift int_shr
class_of op.Equal = Comparison int_eq
class_of op.NotEqual = Comparison (λ x y. not (int_eq x y))
class_of op.Less = Comparison int_lt
class_of op.LessOrEqual = Comparison int_le
class_of op.Greater = Comparison (λ x y. int_lt y x)
class_of op.GreaterOrEqual = Comparison (λ x y. int_le y x)

-- what an operator of a class gives for two values
abbrev pub answer_of : Class → Value → Value → Answer
answer_of (Sum f) a b = in_common (λ k x y. result_in k (f x y)) a b
answer_of (Quotient f) a b = in_common (divided_in f) a b
answer_of (Bits f) a b = in_common (λ k x y. Ok (bitwise f k x y)) a b
answer_of (Shift f) a b = shift_of f a b
answer_of (Comparison f) a b = in_common (λ k x y. Ok (value.Bool (f x y))) a b

-- the operators on two values
abbrev pub binary_of : Op → Value → Value → Answer
binary_of o a b = answer_of (class_of o) a b

-- unary minus, in the promoted kind ([expr.unary.op])
abbrev pub negation_of : Value → Answer
negation_of v = result_in (promoted_kind (kind_of v)) (neg_ℤ (number_of v))

-- each bit of the promoted value inverted: -1 - z, modulo 2 ^ width for an unsigned kind ([expr.unary.op])
abbrev pub inversion_of : Value → Value
inversion_of v = value_of (promoted_kind (kind_of v)) (neg_ℤ (pos 1) -ℤ number_of v)

-- the kind of what an operator of a class gives, by the kinds of its operands
abbrev pub answer_kind : Class → Kind → Kind → Kind
answer_kind (Sum f) a b = common_kind a b
answer_kind (Quotient f) a b = common_kind a b
answer_kind (Bits f) a b = common_kind a b
answer_kind (Shift f) a b = promoted_kind a
answer_kind (Comparison f) a b = kind.Bool

abbrev pub binary_kind : Op → Kind → Kind → Kind
binary_kind o a b = answer_kind (class_of o) a b

-- q is z divided by the positive n and rounded down ([expr.shift])
abbrev pub IsFloor : ℤ → ℕ → ℤ → Type 0
IsFloor z n q = ((q *ℤ pos n) ≤ℤ z) × (z <ℤ ((q +ℤ pos 1) *ℤ pos n))

-- q is x divided by y and cut towards zero, and r is what it leaves ([expr.mul])
abbrev pub IsQuotientAndRest : ℤ → ℤ → ℤ → ℤ → Type 0
IsQuotientAndRest x y q r = (((q *ℤ y) +ℤ r) ≡ x) × (unsigned_abs r < unsigned_abs y) × (pos 0 ≤ℤ (r *ℤ x))
