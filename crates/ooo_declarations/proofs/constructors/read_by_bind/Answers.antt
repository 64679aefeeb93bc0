use Rattle.ooo_grammar.specs.Members.{by_bind}
use Rattle.ooo_grammar.specs.Steps.{stops_first, stops_second}
use Rattle.ooo_simple.specs.Steps.{gives_second}
use Rattle.ooo_declarations.proofs.constructors.read_by_bind.Goals as goal

pub returns-in-Err : goal.returns-in-Err
unfolding by_bind
returns-in-Err c = stops_first _ _ _ c.in-Err.ensures

pub returns-in-Err-one : goal.returns-in-Err-one
unfolding by_bind
returns-in-Err-one c = stops_second _ _ c.in-Ok.ensures (stops_first _ _ _ c.in-Err-one.ensures)

pub returns : goal.returns
unfolding by_bind
returns c = gives_second _ _ c.in-Ok.ensures (gives_second _ _ c.in-Ok-one.ensures c.read_bound_to.ensures)
