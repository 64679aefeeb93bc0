use Rattle.ooo_lexer.proofs.Cuttings.{one_cutting}
use Rattle.ooo_lexer.proofs.Lexemes.{one_list}
use Rattle.ooo_lexer.proofs.law.one_cutting.Goals as goal

pub returns-clause-pieces : goal.returns-clause-pieces
returns-clause-pieces c = one_cutting

pub returns-clause-tokens : goal.returns-clause-tokens
returns-clause-tokens c = one_list
