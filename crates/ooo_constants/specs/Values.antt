-- What constant expressions give (ISO C++ [expr.unary] to [expr.cond]): operands from left to right, the first fault ends it.
use Rattle.std.specs.Prelude.{Bool, true, false, not, if◌then◌else◌, Option, Some, None, Ok, Err}
use Rattle.ooo_value.specs.declared.kinds.Kind.{Kind}
use Rattle.ooo_value.specs.declared.operators.Op.{Op}
use Rattle.ooo_value.specs.declared.operators.Op.TheVariants as op
use Rattle.ooo_value.specs.declared.values.Value.{Value}
use Rattle.ooo_value.specs.declared.values.Value.TheVariants as value
use Rattle.ooo_value.specs.Kinds.{promoted_kind}
use Rattle.ooo_value.specs.Operators.{Answer, binary_of, negation_of, inversion_of}
use Rattle.ooo_value.specs.Values.{kind_of, conversion_of, truth_of}
use Rattle.ooo_syntax.specs.declared.expr.PrefixOp.{PrefixOp}
use Rattle.ooo_syntax.specs.declared.expr.PrefixOp.TheVariants as prefix
use Rattle.ooo_syntax.specs.declared.expr.BinaryOp.{BinaryOp}
use Rattle.ooo_syntax.specs.declared.expr.BinaryOp.TheVariants as binary
use Rattle.ooo_checked.specs.declared.expr.CheckedExpr.{CheckedExpr, CheckedExpr-F, fold-CheckedExpr}
use Rattle.ooo_checked.specs.declared.expr.CheckedExpr.TheOpen as layer
use Rattle.ooo_checked.specs.Exprs.{kind_written}
use Rattle.ooo_constants.specs.Meanings.{Constants, name_value, zero_of}

-- goes on with a value, or ends with the fault
abbrev pub on_value : Answer → (Value → Answer) → Answer
on_value (Ok v) go = go v
on_value (Err f) go = Err f

-- the operator on values that a sign means; `&&` and `||` are none, since they may leave their right side out
abbrev pub operator_of : BinaryOp → Option Op
operator_of binary.Either = None
operator_of binary.Both = None
operator_of binary.Or = Some op.BitOr
operator_of binary.Xor = Some op.BitXor
operator_of binary.And = Some op.BitAnd
operator_of binary.Equal = Some op.Equal
operator_of binary.NotEqual = Some op.NotEqual
operator_of binary.Less = Some op.Less
operator_of binary.LessEqual = Some op.LessOrEqual
operator_of binary.Greater = Some op.Greater
operator_of binary.GreaterEqual = Some op.GreaterOrEqual
operator_of binary.ShiftLeft = Some op.ShiftLeft
operator_of binary.ShiftRight = Some op.ShiftRight
operator_of binary.Add = Some op.Add
operator_of binary.Subtract = Some op.Subtract
operator_of binary.Multiply = Some op.Multiply
operator_of binary.Divide = Some op.Divide
operator_of binary.Remainder = Some op.Remainder

-- the truth of a value, as a bool
abbrev pub truth_value : Value → Answer
truth_value v = Ok (value.Bool (truth_of v))

-- `&&`: the right side only where the left is true
abbrev pub both_of : Answer → Answer → Answer
both_of a b = on_value a (λ v. if truth_of v then on_value b truth_value else Ok (value.Bool false))

-- `||`: the right side only where the left is false
abbrev pub either_of : Answer → Answer → Answer
either_of a b = on_value a (λ v. if truth_of v then Ok (value.Bool true) else on_value b truth_value)

-- `&&`, or else `||`, needs no right side where its left side is so
abbrev pub is_decided : BinaryOp → Bool → Bool
is_decided binary.Both left = not left
is_decided sign left = left

-- an operator on two operands
abbrev pub operated : BinaryOp → Option Op → Answer → Answer → Answer
operated sign (Some o) a b = on_value a (λ v. on_value b (λ w. binary_of o v w))
operated binary.Both None a b = both_of a b
operated sign None a b = either_of a b

-- a prefix on a value
abbrev pub prefixed : PrefixOp → Value → Answer
prefixed prefix.Not v = Ok (value.Bool (if truth_of v then false else true))
prefixed prefix.Invert v = Ok (inversion_of v)
prefixed prefix.Negate v = negation_of v
prefixed prefix.Keep v = Ok (conversion_of v (promoted_kind (kind_of v)))

-- a value converted to a kind
abbrev pub converted : Kind → Answer → Answer
converted k a = on_value a (λ v. Ok (conversion_of v k))

-- what each form of expression gives; a form that no constant expression has gives 0
abbrev pub value_step : Constants → CheckedExpr-F Answer → Answer
value_step c (layer.Number k n) = Ok n.value
value_step c (layer.Truth b at) = Ok (value.Bool b)
value_step c (layer.Name k r) = Ok (name_value c r.denotes)
value_step c (layer.Paren k at e) = e
value_step c (layer.Index k r i) = Ok (zero_of k)
value_step c (layer.Call k r args) = Ok (zero_of k)
value_step c (layer.Member k r after m arg) = Ok (zero_of k)
value_step c (layer.Prefix k at op e) = on_value e (prefixed op)
value_step c (layer.Cast k at t e) = converted (kind_written t.form) e
value_step c (layer.Conversion k t e) = converted (kind_written t.form) e
value_step c (layer.Binary k sign a b) = operated sign (operator_of sign) a b
value_step c (layer.Choose k test a b) = on_value test (λ v. converted k (if truth_of v then a else b))

-- what a constant expression gives
unfoldable pub value_of : Constants → CheckedExpr → Answer
value_of c e = fold-CheckedExpr Answer (value_step c) e
