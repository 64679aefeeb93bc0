use Rattle.ooo_grammar.specs.Units.{main_body}
use Rattle.ooo_grammar.specs.Steps.{stops_first, stops_second}
use Rattle.ooo_simple.specs.Steps.{gives_second}
use Rattle.ooo_units.proofs.units.read_main_body.Goals as goal

pub returns-in-Err : goal.returns-in-Err
unfolding main_body
returns-in-Err c = stops_first _ _ _ c.in-Err.ensures

pub returns-in-Err-read_main_parts_inside : goal.returns-in-Err-read_main_parts_inside
unfolding main_body
returns-in-Err-read_main_parts_inside c = stops_second _ _ c.in-Ok.ensures (stops_first _ _ _ c.in-Err-read_main_parts_inside.ensures)

pub returns : goal.returns
unfolding main_body
returns c = gives_second _ _ c.in-Ok.ensures (gives_second _ _ c.in-Ok-read_main_parts_inside.ensures c.followed.ensures)
