use Rattle.ooo_grammar.specs.Units.{main}
use Rattle.ooo_grammar.specs.Steps.{stops_first, stops_second}
use Rattle.ooo_simple.specs.Steps.{gives_second}
use Rattle.ooo_units.proofs.units.read_main.Goals as goal

pub returns-in-Err : goal.returns-in-Err
unfolding main
returns-in-Err c = stops_first _ _ _ c.in-Err.ensures

pub returns-in-Err-one : goal.returns-in-Err-one
unfolding main
returns-in-Err-one c = stops_second _ _ c.in-Ok.ensures (stops_first _ _ _ c.in-Err-one.ensures)

pub returns-in-Err-read_main_count : goal.returns-in-Err-read_main_count
unfolding main
returns-in-Err-read_main_count c = stops_second _ _ c.in-Ok.ensures (stops_second _ _ c.in-Ok-one.ensures (stops_first _ _ _ c.in-Err-read_main_count.ensures))

pub returns-in-Err-read_main_values : goal.returns-in-Err-read_main_values
unfolding main
returns-in-Err-read_main_values c = stops_second _ _ c.in-Ok.ensures (stops_second _ _ c.in-Ok-one.ensures (stops_second _ _ c.in-Ok-read_main_count.ensures (stops_first _ _ _ c.in-Err-read_main_values.ensures)))

pub returns : goal.returns
unfolding main
returns c = gives_second _ _ c.in-Ok.ensures (gives_second _ _ c.in-Ok-one.ensures (gives_second _ _ c.in-Ok-read_main_count.ensures (gives_second _ _ c.in-Ok-read_main_values.ensures c.read_main_body.ensures)))
