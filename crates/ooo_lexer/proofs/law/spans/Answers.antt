use Rattle.ooo_lexer.proofs.Lexemes.{tokens_within, tokens_in_order, tokens_are_lexemes}
use Rattle.ooo_lexer.proofs.law.spans.Goals as goal

pub returns-clause-within : goal.returns-clause-within
returns-clause-within c = tokens_within

pub returns-clause-in_order : goal.returns-clause-in_order
returns-clause-in_order c = tokens_in_order

pub returns-clause-lexemes : goal.returns-clause-lexemes
returns-clause-lexemes c = tokens_are_lexemes
