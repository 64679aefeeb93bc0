use Rattle.ooo_grammar.specs.Units.{instances_of}
use Rattle.ooo_grammar.specs.Steps.{stops_first}
use Rattle.ooo_simple.specs.Steps.{gives_second}
use Rattle.ooo_declarations.proofs.main_entries.read_instances_of.Goals as goal

pub returns-in-Err : goal.returns-in-Err
unfolding instances_of
returns-in-Err c = stops_first _ _ _ c.in-Err.ensures

pub returns : goal.returns
unfolding instances_of
returns c = gives_second _ _ c.in-Ok.ensures c.followed.ensures
