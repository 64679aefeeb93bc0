use Rattle.ooo_value.specs.Operators.{class_of}
use Rattle.ooo_value.proofs.Operands.{answer_of-conversion}
use Rattle.ooo_value.proofs.law.operands_are_converted.Goals as goal

pub returns : goal.returns
returns c = answer_of-conversion (class_of c.args.op) c.args.a c.args.b
