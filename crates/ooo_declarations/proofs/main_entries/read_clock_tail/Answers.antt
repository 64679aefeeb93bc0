use Rattle.ooo_grammar.specs.Units.{clock_tail}
use Rattle.ooo_grammar.specs.Steps.{stops_first, stops_second}
use Rattle.ooo_simple.specs.Steps.{gives_second}
use Rattle.ooo_declarations.proofs.main_entries.read_clock_tail.Goals as goal

pub returns-in-Err : goal.returns-in-Err
unfolding clock_tail
returns-in-Err c = stops_first _ _ _ c.in-Err.ensures

pub returns-in-Err-read_clock_parts_inside : goal.returns-in-Err-read_clock_parts_inside
unfolding clock_tail
returns-in-Err-read_clock_parts_inside c = stops_second _ _ c.in-Ok.ensures (stops_first _ _ _ c.in-Err-read_clock_parts_inside.ensures)

pub returns : goal.returns
unfolding clock_tail
returns c = gives_second _ _ c.in-Ok.ensures (gives_second _ _ c.in-Ok-read_clock_parts_inside.ensures c.followed.ensures)
