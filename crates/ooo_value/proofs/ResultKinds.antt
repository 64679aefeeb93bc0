-- The kind of what an operator gives.
use Rattle.std.proofs.Common.{rules, ℕ, ℤ, refl}
use Rattle.std.specs.Prelude.{Ok, Err, Bool, true, false, if◌then◌else◌, IfOk}
use Rattle.ooo_value.specs.declared.kinds.Kind.{Kind}
use Rattle.ooo_value.specs.declared.kinds.Kind.TheVariants as kind
use Rattle.ooo_value.specs.declared.operators.Fault.TheVariants as fault
use Rattle.ooo_value.specs.declared.values.Value.{Value}
use Rattle.ooo_value.specs.declared.values.Value.TheVariants as value
use Rattle.ooo_value.specs.Operators.{Class, Sum, Quotient, Bits, Shift, Comparison, answer_kind, answer_of, shifted_by}
use Rattle.ooo_value.specs.Values.{IsOfKind, kind_of, value_of}
use Rattle.ooo_value.proofs.Conversions.{bool_in_range, kind_of-value_of, value_in_range}

of_kind : (k : Kind) (z : ℤ) → IsOfKind (value_of k z) k
of_kind k z = (kind_of-value_of k z, value_in_range k z)

bool_of_kind : (b : Bool) → IsOfKind (value.Bool b) kind.Bool
bool_of_kind b = (refl, bool_in_range b)

sum_of_kind : (over : Bool) (k : Kind) (z : ℤ) → IfOk (if over then Err fault.Overflow else Ok (value_of k z)) (λ v. IsOfKind v k)
sum_of_kind true k z = tt
sum_of_kind false k z = of_kind k z

quotient_of_kind : (divisor over : Bool) (k : Kind) (z : ℤ) → IfOk (if divisor then (if over then Err fault.Overflow else Ok (value_of k z)) else Err fault.DivideByZero) (λ v. IsOfKind v k)
quotient_of_kind true over k z = sum_of_kind over k z
quotient_of_kind false over k z = tt

shift_of_kind : (near : Bool) (n : ℕ) (k : Kind) (f : ℕ → ℤ) → IfOk (shifted_by (if near then Ok n else Err fault.ShiftRange) (λ n. value_of k (f n))) (λ v. IsOfKind v k)
shift_of_kind true n k f = of_kind k (f n)
shift_of_kind false n k f = tt

pub answer_of_kind : (c : Class) (a b : Value) → IfOk (answer_of c a b) (λ v. IsOfKind v (answer_kind c (kind_of a) (kind_of b)))
answer_of_kind (Sum f) a b = sum_of_kind _ _ _
answer_of_kind (Quotient f) a b = quotient_of_kind _ _ _ _
answer_of_kind (Bits f) a b = of_kind _ _
answer_of_kind (Shift f) a b = shift_of_kind _ _ _ _
answer_of_kind (Comparison f) a b = search (rules, bool_of_kind)
