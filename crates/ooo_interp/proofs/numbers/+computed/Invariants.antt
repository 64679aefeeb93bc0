-- An operator ranks above the larger of its operands, and an operand above what it is as an expression.
use Rattle.std.proofs.Common.{◌*◌, ◌+◌}
use Rattle.std.specs.Prelude.{max}
use Rattle.ooo_code.proofs.expression.NodeExpr.TheLaws.{the_size}
use Rattle.ooo_interp.proofs.numbers.+computed.Given as goal

abbrev pub decreases-computed : goal.decreases-computed
decreases-computed g l = 3 * the_size l.e.now

abbrev pub decreases-operand : goal.decreases-operand
decreases-operand g l = 3 * the_size l.e.now + 1

abbrev pub decreases-combined : goal.decreases-combined
decreases-combined g l = 3 * max (the_size l.a.now) (the_size l.b.now) + 2
