use Rattle.std.proofs.Common.{refl}
use Rattle.ooo_grammar.specs.Statements.{print}
use Rattle.ooo_grammar.specs.Steps.{stops_first, stops_second, got_second}
use Rattle.ooo_simple.proofs.prints.read_print.Goals as goal

pub returns-in-Err : goal.returns-in-Err
unfolding print
returns-in-Err c = stops_first _ _ _ c.in-Err.ensures

pub returns-in-Err-one : goal.returns-in-Err-one
unfolding print
returns-in-Err-one c = stops_second _ _ c.in-Ok.ensures (stops_first _ _ _ c.in-Err-one.ensures)

pub returns-in-Err-read_items : goal.returns-in-Err-read_items
unfolding print
returns-in-Err-read_items c = stops_second _ _ c.in-Ok.ensures (stops_second _ _ c.in-Ok-one.ensures (stops_first _ _ _ c.in-Err-read_items.ensures))

pub returns : goal.returns
unfolding print
returns c = got_second _ c.in-Ok.ensures (got_second _ c.in-Ok-one.ensures (got_second _ c.in-Ok-read_items.ensures refl))
