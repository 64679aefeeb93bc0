use Rattle.ooo_shapes.proofs.Depending.{same_on_touched}
use Rattle.ooo_shapes.proofs.law.reads_what_statements_touch.Goals as goal

pub returns : goal.returns
returns c = λ b process statements place v w h. same_on_touched c.own_steps_are_seen.ensures b process statements place v w h
