use Rattle.ooo_code.proofs.Activations.{same_on_touched}
use Rattle.ooo_code.proofs.law.reads_what_is_touched.Goals as goal

pub returns : goal.returns
returns c = λ design statements p process frame v w is h. same_on_touched design statements p process frame v w is h
