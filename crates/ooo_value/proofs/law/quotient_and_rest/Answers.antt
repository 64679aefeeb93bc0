use Rattle.ooo_value.proofs.QuotientLaw.{quotient_and_rest}
use Rattle.ooo_value.proofs.law.quotient_and_rest.Goals as goal

pub returns : goal.returns
returns c = quotient_and_rest c.args.a c.args.b c.args.quotient c.args.rest
