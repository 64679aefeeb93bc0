-- A form ranks above the largest of its parts, and a part above what it is as an expression.
use Rattle.std.proofs.Common.{◌*◌, ◌+◌}
use Rattle.std.specs.Prelude.{max}
use Rattle.ooo_checked.proofs.expr.CheckedExpr.TheLaws.{the_size}
use Rattle.ooo_numbers.proofs.exprs.+expr.Given as goal

abbrev pub decreases-expr : goal.decreases-expr
decreases-expr l = 3 * the_size l.e.now

abbrev pub decreases-boxed : goal.decreases-boxed
decreases-boxed l = 3 * the_size l.e.now + 1

abbrev pub decreases-indexed : goal.decreases-indexed
decreases-indexed l = 3 * the_size l.index.now + 2

abbrev pub decreases-prefix : goal.decreases-prefix
decreases-prefix l = 3 * the_size l.e.now + 2

abbrev pub decreases-converted : goal.decreases-converted
decreases-converted l = 3 * the_size l.e.now + 2

abbrev pub decreases-binary : goal.decreases-binary
decreases-binary l = 3 * max (the_size l.a.now) (the_size l.b.now) + 2

abbrev pub decreases-choice : goal.decreases-choice
decreases-choice l = 3 * max (the_size l.test.now) (max (the_size l.a.now) (the_size l.b.now)) + 2
