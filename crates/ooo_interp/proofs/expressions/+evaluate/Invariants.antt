-- A form ranks above the largest of its parts, and a part above what it is as an expression.
use Rattle.std.proofs.Common.{◌*◌, ◌+◌}
use Rattle.std.specs.Prelude.{max}
use Rattle.ooo_code.proofs.expression.NodeExpr.TheLaws.{the_size}
use Rattle.ooo_interp.proofs.expressions.+evaluate.Given as goal

abbrev pub decreases-evaluate : goal.decreases-evaluate
decreases-evaluate g l = 3 * the_size l.e.now

abbrev pub decreases-operand : goal.decreases-operand
decreases-operand g l = 3 * the_size l.e.now + 1

abbrev pub decreases-element_of : goal.decreases-element_of
decreases-element_of g l = 3 * the_size l.i.now + 2

abbrev pub decreases-converted : goal.decreases-converted
decreases-converted g l = 3 * the_size l.a.now + 2

abbrev pub decreases-negated : goal.decreases-negated
decreases-negated g l = 3 * the_size l.a.now + 2

abbrev pub decreases-inverted : goal.decreases-inverted
decreases-inverted g l = 3 * the_size l.a.now + 2

abbrev pub decreases-opposite : goal.decreases-opposite
decreases-opposite g l = 3 * the_size l.a.now + 2

abbrev pub decreases-combined : goal.decreases-combined
decreases-combined g l = 3 * max (the_size l.a.now) (the_size l.b.now) + 2

abbrev pub decreases-both : goal.decreases-both
decreases-both g l = 3 * max (the_size l.a.now) (the_size l.b.now) + 2

abbrev pub decreases-either : goal.decreases-either
decreases-either g l = 3 * max (the_size l.a.now) (the_size l.b.now) + 2

abbrev pub decreases-chosen : goal.decreases-chosen
decreases-chosen g l = 3 * max (the_size l.c.now) (max (the_size l.a.now) (the_size l.b.now)) + 2
