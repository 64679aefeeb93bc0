use Rattle.ooo_shapes.proofs.Depending.{touches_only}
use Rattle.ooo_shapes.proofs.law.changes_what_statements_touch.Goals as goal

pub returns : goal.returns
returns c = λ b process statements place v. touches_only c.own_steps_are_seen.ensures b process statements place v
