-- Operands that already are of one kind.
use Rattle.std.proofs.Common.{rules, ◌≡◌, refl, sym, ℤ}
use Rattle.std.specs.Prelude.{Ok, IsFalse}
use Rattle.ooo_value.specs.declared.kinds.Kind.{Kind}
use Rattle.ooo_value.specs.declared.kinds.Kind.TheVariants as kind
use Rattle.ooo_value.specs.declared.values.Value.{Value}
use Rattle.ooo_value.specs.declared.values.Value.TheVariants as value
use Rattle.ooo_value.specs.Faults.{shifts}
use Rattle.ooo_value.specs.Kinds.{common_kind, promoted_kind}
use Rattle.ooo_value.specs.Operators.{Answer, Class, Sum, Quotient, Bits, Shift, Comparison, answer_of, bitwise, divided_in, in_common, result_in}
use Rattle.ooo_value.specs.Values.{conversion_of, kind_of, number_of, value_of}
use Rattle.ooo_value.proofs.Conversions.{kind_of-value_of, value_of-again}

-- a common kind meets itself in itself
common-same : (a : Kind) → common_kind a a ≡ promoted_kind a
common-same kind.Bool = refl
common-same kind.Int = refl
common-same kind.Uint = refl
common-same kind.Long = refl
common-same kind.Ulong = refl

-- two values of a kind that meets itself in itself are taken as they are
of_one_kind : (f : Kind → ℤ → ℤ → Answer) (k : Kind) (x y : ℤ) → common_kind k k ≡ k → in_common f (value_of k x) (value_of k y) ≡ f k (number_of (value_of k x)) (number_of (value_of k y))
of_one_kind f k x y e = rw (kind_of-value_of k x, kind_of-value_of k y, e, value_of-again k x, value_of-again k y)

common-again : (a b : Kind) → common_kind (common_kind a b) (common_kind a b) ≡ common_kind a b
common-again a b = search rules

-- operands converted to their common kind are taken as the operands are
in_common-conversion : (f : Kind → ℤ → ℤ → Answer) (a b : Value) → in_common f a b ≡ in_common f (conversion_of a (common_kind (kind_of a) (kind_of b))) (conversion_of b (common_kind (kind_of a) (kind_of b)))
in_common-conversion f a b = sym (of_one_kind f (common_kind (kind_of a) (kind_of b)) (number_of a) (number_of b) (common-again (kind_of a) (kind_of b)))

-- and so are those of each operator other than a shift
pub answer_of-conversion : (c : Class) (a b : Value) → IsFalse (shifts c) → answer_of c a b ≡ answer_of c (conversion_of a (common_kind (kind_of a) (kind_of b))) (conversion_of b (common_kind (kind_of a) (kind_of b)))
answer_of-conversion (Sum f) a b h = in_common-conversion (λ k x y. result_in k (f x y)) a b
answer_of-conversion (Quotient f) a b h = in_common-conversion (divided_in f) a b
answer_of-conversion (Bits f) a b h = in_common-conversion (λ k x y. Ok (bitwise f k x y)) a b
answer_of-conversion (Shift f) a b h = absurd cc
answer_of-conversion (Comparison f) a b h = in_common-conversion (λ k x y. Ok (value.Bool (f x y))) a b
