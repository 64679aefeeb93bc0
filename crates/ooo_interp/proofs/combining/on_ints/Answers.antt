-- Each operator's answer by that of its class: bits of two signed values by their residues.
use Rattle.std.proofs.Common.{bit_and, bit_or, bit_xor, int_lt, int_le, ◌+ℤ◌, ◌-ℤ◌, ◌*ℤ◌, ◌∙◌}
use Rattle.std.specs.Int.{w32}
use Rattle.ooo_interp.proofs.SignedBits.{signed_and, signed_or, signed_xor}
use Rattle.ooo_interp.proofs.Bitwise.{ints}
use Rattle.ooo_interp.proofs.OneKind.{sum_of_ints, compared_ints}
use Rattle.ooo_interp.proofs.combining.on_ints.Goals as goal

pub returns-in-Add : goal.returns-in-Add
returns-in-Add c = rw c.in-Add.is (c.int_or_overflow.ensures _ c.checked_add.ensures ∙ sum_of_ints (λ x y. x +ℤ y) c.args.x c.args.y c.ranges.x c.ranges.y)

pub returns-in-Subtract : goal.returns-in-Subtract
returns-in-Subtract c = rw c.in-Subtract.is (c.int_or_overflow-in-Subtract.ensures _ c.checked_sub.ensures ∙ sum_of_ints (λ x y. x -ℤ y) c.args.x c.args.y c.ranges.x c.ranges.y)

pub returns-in-Multiply : goal.returns-in-Multiply
returns-in-Multiply c = rw c.in-Multiply.is (c.int_or_overflow-in-Multiply.ensures _ c.checked_mul.ensures ∙ sum_of_ints (λ x y. x *ℤ y) c.args.x c.args.y c.ranges.x c.ranges.y)

pub returns-in-BitAnd : goal.returns-in-BitAnd
returns-in-BitAnd c = rw c.in-BitAnd.is (ints bit_and c.args.x c.args.y _ c.ranges.x c.ranges.y (signed_and w32 c.args.x c.args.y c.ranges.x c.ranges.y))

pub returns-in-BitOr : goal.returns-in-BitOr
returns-in-BitOr c = rw c.in-BitOr.is (ints bit_or c.args.x c.args.y _ c.ranges.x c.ranges.y (signed_or w32 c.args.x c.args.y c.ranges.x c.ranges.y))

pub returns-in-BitXor : goal.returns-in-BitXor
returns-in-BitXor c = rw c.in-BitXor.is (ints bit_xor c.args.x c.args.y _ c.ranges.x c.ranges.y (signed_xor w32 c.args.x c.args.y c.ranges.x c.ranges.y))

pub returns-in-Less : goal.returns-in-Less
returns-in-Less c = rw c.in-Less.is (compared_ints int_lt c.args.x c.args.y c.ranges.x c.ranges.y)

pub returns-in-LessOrEqual : goal.returns-in-LessOrEqual
returns-in-LessOrEqual c = rw c.in-LessOrEqual.is (compared_ints int_le c.args.x c.args.y c.ranges.x c.ranges.y)

pub returns-in-Greater : goal.returns-in-Greater
returns-in-Greater c = rw c.in-Greater.is (compared_ints (λ x y. int_lt y x) c.args.x c.args.y c.ranges.x c.ranges.y)

pub returns-in-GreaterOrEqual : goal.returns-in-GreaterOrEqual
returns-in-GreaterOrEqual c = rw c.in-GreaterOrEqual.is (compared_ints (λ x y. int_le y x) c.args.x c.args.y c.ranges.x c.ranges.y)
