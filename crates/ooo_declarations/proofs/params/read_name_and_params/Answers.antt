use Rattle.ooo_grammar.specs.Members.{name_and_params}
use Rattle.ooo_grammar.specs.Steps.{stops_first}
use Rattle.ooo_simple.specs.Steps.{gives_second}
use Rattle.ooo_declarations.proofs.params.read_name_and_params.Goals as goal

pub returns-in-Err : goal.returns-in-Err
unfolding name_and_params
returns-in-Err c = stops_first _ _ _ c.in-Err.ensures

pub returns : goal.returns
unfolding name_and_params
returns c = gives_second _ _ c.in-Ok.ensures c.followed.ensures
