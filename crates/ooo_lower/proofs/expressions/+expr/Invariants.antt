use Rattle.std.proofs.Common.{◌+◌, ◌*◌, max}
use Rattle.ooo_bound.specs.declared.expr.BoundExpr.{size-BoundExpr}
use Rattle.ooo_lower.proofs.expressions.+expr.Given as goal

abbrev pub decreases-lowered : goal.decreases-lowered
decreases-lowered l = goal.size-lowered l * 3

abbrev pub decreases-boxed : goal.decreases-boxed
decreases-boxed l = goal.size-boxed l * 3 + 1

abbrev pub decreases-operands : goal.decreases-operands
decreases-operands l = max (size-BoundExpr l.a.now) (size-BoundExpr l.b.now) * 3 + 2
