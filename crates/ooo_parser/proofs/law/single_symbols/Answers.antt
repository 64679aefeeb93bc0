use Rattle.std.proofs.Common.{sym}
use Rattle.ooo_parser.proofs.Values.{number_valued}
use Rattle.ooo_parser.proofs.WordKinds.{words_are_words}
use Rattle.ooo_parser.proofs.law.single_symbols.Goals as goal

pub returns-clause-words : goal.returns-clause-words
returns-clause-words c = words_are_words

pub returns-clause-numbers : goal.returns-clause-numbers
returns-clause-numbers c = λ bs n is. sym (number_valued c.number_found.ensures bs n is)
