use Rattle.ooo_shapes.proofs.Pausing.{waits_behind}
use Rattle.ooo_shapes.proofs.law.ends_behind_a_wait.Goals as goal

pub returns : goal.returns
returns c = λ b process statements place v. waits_behind b process statements place v
