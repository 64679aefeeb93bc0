use Rattle.ooo_grammar.specs.Units.{start}
use Rattle.ooo_grammar.specs.Steps.{stops_first, stops_second}
use Rattle.ooo_simple.specs.Steps.{gives_second}
use Rattle.ooo_units.proofs.units.read_start.Goals as goal

pub returns-in-Err : goal.returns-in-Err
unfolding start
returns-in-Err c = stops_first _ _ _ c.in-Err.ensures

pub returns-in-Err-one : goal.returns-in-Err-one
unfolding start
returns-in-Err-one c = stops_second _ _ c.in-Ok.ensures (stops_first _ _ _ c.in-Err-one.ensures)

pub returns-in-Err-read_start_tail : goal.returns-in-Err-read_start_tail
unfolding start
returns-in-Err-read_start_tail c = stops_second _ _ c.in-Ok.ensures (stops_second _ _ c.in-Ok-one.ensures (stops_first _ _ _ c.in-Err-read_start_tail.ensures))

pub returns : goal.returns
unfolding start
returns c = gives_second _ _ c.in-Ok.ensures (gives_second _ _ c.in-Ok-one.ensures (gives_second _ _ c.in-Ok-read_start_tail.ensures c.followed.ensures))
