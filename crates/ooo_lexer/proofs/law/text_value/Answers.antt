use Rattle.ooo_lexer.proofs.TextValues.{value_of_parts}
use Rattle.ooo_lexer.proofs.law.text_value.Goals as goal

pub returns : goal.returns
returns c = value_of_parts
