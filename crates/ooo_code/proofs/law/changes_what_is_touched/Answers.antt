use Rattle.ooo_code.proofs.Activations.{touches_only}
use Rattle.ooo_code.proofs.law.changes_what_is_touched.Goals as goal

pub returns : goal.returns
returns c = λ design statements p process frame v is. touches_only design statements p process frame v is
