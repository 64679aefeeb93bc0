-- A comparison of two values of one kind by that of its class.
use Rattle.std.proofs.Common.{int_lt, int_le}
use Rattle.ooo_interp.proofs.OneKind.{compared_ints}
use Rattle.ooo_interp.proofs.numbers.kinds.I32Operand.compared.Goals as goal

pub returns-in-Less : goal.returns-in-Less
returns-in-Less c = rw c.in-Less.is (compared_ints int_lt c.args.x c.args.y c.ranges.x c.ranges.y)

pub returns-in-LessOrEqual : goal.returns-in-LessOrEqual
returns-in-LessOrEqual c = rw c.in-LessOrEqual.is (compared_ints int_le c.args.x c.args.y c.ranges.x c.ranges.y)

pub returns-in-Greater : goal.returns-in-Greater
returns-in-Greater c = rw c.in-Greater.is (compared_ints (λ x y. int_lt y x) c.args.x c.args.y c.ranges.x c.ranges.y)

pub returns-in-GreaterOrEqual : goal.returns-in-GreaterOrEqual
returns-in-GreaterOrEqual c = rw c.in-GreaterOrEqual.is (compared_ints (λ x y. int_le y x) c.args.x c.args.y c.ranges.x c.ranges.y)
