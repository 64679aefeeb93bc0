-- An exact result by that of its class, and bits of two signed values by their residues.
use Rattle.std.proofs.Common.{bit_and, bit_or, bit_xor, ◌∙◌, ◌+ℤ◌, ◌-ℤ◌, ◌*ℤ◌}
use Rattle.std.specs.Int.{w64}
use Rattle.ooo_value.specs.declared.values.Value.TheVariants as value
use Rattle.ooo_interp.proofs.SignedBits.{signed_and, signed_or, signed_xor}
use Rattle.ooo_interp.proofs.Bitwise.{longs}
use Rattle.ooo_interp.proofs.OneKind.{given_number, sum_of_longs}
use Rattle.ooo_interp.proofs.numbers.kinds.I64Operand.by.Goals as goal

pub returns-in-Add : goal.returns-in-Add
returns-in-Add c =
    let exact = c.long_or_overflow.ensures _ c.checked_add.ensures ∙ sum_of_longs (λ x y. x +ℤ y) c.args.x c.args.y c.ranges.x c.ranges.y in
    rw c.in-Add.is (given_number value.Long _ exact c.number_of_answer.ensures)

pub returns-in-Subtract : goal.returns-in-Subtract
returns-in-Subtract c =
    let exact = c.long_or_overflow-in-Subtract.ensures _ c.checked_sub.ensures ∙ sum_of_longs (λ x y. x -ℤ y) c.args.x c.args.y c.ranges.x c.ranges.y in
    rw c.in-Subtract.is (given_number value.Long _ exact c.number_of_answer-in-Subtract.ensures)

pub returns-in-Multiply : goal.returns-in-Multiply
returns-in-Multiply c =
    let exact = c.long_or_overflow-in-Multiply.ensures _ c.checked_mul.ensures ∙ sum_of_longs (λ x y. x *ℤ y) c.args.x c.args.y c.ranges.x c.ranges.y in
    rw c.in-Multiply.is (given_number value.Long _ exact c.number_of_answer-in-Multiply.ensures)

pub returns-in-BitAnd : goal.returns-in-BitAnd
returns-in-BitAnd c = rw c.in-BitAnd.is (longs bit_and c.args.x c.args.y _ c.ranges.x c.ranges.y (signed_and w64 c.args.x c.args.y c.ranges.x c.ranges.y))

pub returns-in-BitOr : goal.returns-in-BitOr
returns-in-BitOr c = rw c.in-BitOr.is (longs bit_or c.args.x c.args.y _ c.ranges.x c.ranges.y (signed_or w64 c.args.x c.args.y c.ranges.x c.ranges.y))

pub returns-in-BitXor : goal.returns-in-BitXor
returns-in-BitXor c = rw c.in-BitXor.is (longs bit_xor c.args.x c.args.y _ c.ranges.x c.ranges.y (signed_xor w64 c.args.x c.args.y c.ranges.x c.ranges.y))
