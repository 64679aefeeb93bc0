use Rattle.ooo_value.specs.Operators.{class_of}
use Rattle.ooo_value.proofs.ResultKinds.{answer_of_kind}
use Rattle.ooo_value.proofs.law.binary_is_of_its_kind.Goals as goal

pub returns : goal.returns
returns c = answer_of_kind (class_of c.args.op) c.args.a c.args.b
