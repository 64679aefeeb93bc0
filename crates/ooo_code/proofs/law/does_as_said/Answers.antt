use Rattle.ooo_code.proofs.Saying.{does_as_said}
use Rattle.ooo_code.proofs.law.does_as_said.Goals as goal

pub returns : goal.returns
returns c = does_as_said
