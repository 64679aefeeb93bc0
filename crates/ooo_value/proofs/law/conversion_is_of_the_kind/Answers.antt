use Rattle.ooo_value.specs.Values.{number_of}
use Rattle.ooo_value.proofs.Conversions.{value_in_range}
use Rattle.ooo_value.proofs.law.conversion_is_of_the_kind.Goals as goal

pub returns-clause-range : goal.returns-clause-range
returns-clause-range c = value_in_range c.args.to (number_of c.args.v)
