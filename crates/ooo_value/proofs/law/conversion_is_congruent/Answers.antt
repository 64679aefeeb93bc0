use Rattle.ooo_value.specs.Values.{number_of}
use Rattle.ooo_value.proofs.Conversions.{value-congruent}
use Rattle.ooo_value.proofs.law.conversion_is_congruent.Goals as goal

pub returns-clause-number : goal.returns-clause-number
returns-clause-number c = value-congruent c.args.to (number_of c.args.v)
