use Rattle.ooo_grammar.specs.Members.{word_in_parens}
use Rattle.ooo_grammar.specs.Steps.{stops_first}
use Rattle.ooo_simple.specs.Steps.{gives_second}
use Rattle.ooo_declarations.proofs.words.read_word_in_parens.Goals as goal

pub returns-in-Err : goal.returns-in-Err
unfolding word_in_parens
returns-in-Err c = stops_first _ _ _ c.in-Err.ensures

pub returns : goal.returns
unfolding word_in_parens
returns c = gives_second _ _ c.in-Ok.ensures c.followed.ensures
