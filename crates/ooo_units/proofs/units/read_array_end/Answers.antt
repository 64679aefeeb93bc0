use Rattle.ooo_grammar.specs.Steps.{stops_first, stops_second}
use Rattle.ooo_simple.specs.Steps.{gives_second}
use Rattle.ooo_units.proofs.units.read_array_end.Goals as goal

pub returns-in-Err : goal.returns-in-Err
returns-in-Err c = stops_first _ _ _ c.in-Err.ensures

pub returns-in-Err-one_inside : goal.returns-in-Err-one_inside
returns-in-Err-one_inside c = stops_second _ _ c.in-Ok.ensures (stops_first _ _ _ c.in-Err-one_inside.ensures)

pub returns : goal.returns
returns c = gives_second _ _ c.in-Ok.ensures (gives_second _ _ c.in-Ok-one_inside.ensures c.followed.ensures)
