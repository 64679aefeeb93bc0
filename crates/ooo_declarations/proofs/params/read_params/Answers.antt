use Rattle.ooo_grammar.specs.Members.{params}
use Rattle.ooo_grammar.specs.Steps.{stops_first, stops_second}
use Rattle.ooo_simple.specs.Steps.{gives_second}
use Rattle.ooo_declarations.proofs.params.read_params.Goals as goal

pub returns-in-Err : goal.returns-in-Err
unfolding params
returns-in-Err c = stops_first _ _ _ c.in-Err.ensures

pub returns-in-Err-read_listed_params_inside : goal.returns-in-Err-read_listed_params_inside
unfolding params
returns-in-Err-read_listed_params_inside c = stops_second _ _ c.in-Ok.ensures (stops_first _ _ _ c.in-Err-read_listed_params_inside.ensures)

pub returns : goal.returns
unfolding params
returns c = gives_second _ _ c.in-Ok.ensures (gives_second _ _ c.in-Ok-read_listed_params_inside.ensures c.followed.ensures)
