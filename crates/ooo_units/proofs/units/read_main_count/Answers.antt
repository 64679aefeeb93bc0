use Rattle.ooo_grammar.specs.Units.{main_count}
use Rattle.ooo_grammar.specs.Steps.{stops_first}
use Rattle.ooo_simple.specs.Steps.{gives_second}
use Rattle.ooo_units.proofs.units.read_main_count.Goals as goal

pub returns-in-Err : goal.returns-in-Err
unfolding main_count
returns-in-Err c = stops_first _ _ _ c.in-Err.ensures

pub returns : goal.returns
unfolding main_count
returns c = gives_second _ _ c.in-Ok.ensures c.read_count_word_inside.ensures
