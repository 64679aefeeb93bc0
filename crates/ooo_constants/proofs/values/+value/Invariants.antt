-- A form ranks above the largest of its parts, and a part above what it is as an expression.
use Rattle.std.proofs.Common.{◌*◌, ◌+◌}
use Rattle.std.specs.Prelude.{max}
use Rattle.ooo_checked.proofs.expr.CheckedExpr.TheLaws.{the_size}
use Rattle.ooo_constants.proofs.values.+value.Given as goal

abbrev pub decreases-value : goal.decreases-value
decreases-value l = 3 * the_size l.e.now

abbrev pub decreases-converted : goal.decreases-converted
decreases-converted l = 3 * the_size l.e.now + 1

abbrev pub decreases-operated : goal.decreases-operated
decreases-operated l = 3 * max (the_size l.a.now) (the_size l.b.now) + 2

abbrev pub decreases-chosen : goal.decreases-chosen
decreases-chosen l = 3 * max (the_size l.test.now) (max (the_size l.yes.now) (the_size l.no.now)) + 2
