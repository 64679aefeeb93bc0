use Rattle.ooo_grammar.specs.Steps.{stops_first, stops_second}
use Rattle.ooo_grammar.specs.Times.{after_amount}
use Rattle.ooo_exprs.specs.Steps.{gives_second}
use Rattle.ooo_simple.proofs.waits.read_after_amount.Goals as goal

pub returns-in-Err : goal.returns-in-Err
unfolding after_amount
returns-in-Err c = stops_first _ _ _ c.in-Err.ensures

pub returns-in-Err-read_unit_inside : goal.returns-in-Err-read_unit_inside
unfolding after_amount
returns-in-Err-read_unit_inside c = stops_second _ _ c.in-Ok.ensures (stops_first _ _ _ c.in-Err-read_unit_inside.ensures)

pub returns : goal.returns
unfolding after_amount
returns c = gives_second _ _ c.in-Ok.ensures (gives_second _ _ c.in-Ok-read_unit_inside.ensures c.read_after_time.ensures)
