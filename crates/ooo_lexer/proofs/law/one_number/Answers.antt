use Rattle.ooo_lexer.proofs.Numerals.{one_number}
use Rattle.ooo_lexer.proofs.law.one_number.Goals as goal

pub returns : goal.returns
returns c = one_number
