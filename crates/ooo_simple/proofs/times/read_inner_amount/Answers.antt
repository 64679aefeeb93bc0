use Rattle.std.proofs.Common.{refl}
use Rattle.ooo_grammar.specs.Steps.{stops_first, stops_second, got_second}
use Rattle.ooo_grammar.specs.Times.{inner_amount}
use Rattle.ooo_simple.proofs.times.read_inner_amount.Goals as goal

pub returns-in-Err : goal.returns-in-Err
unfolding inner_amount
returns-in-Err c = stops_first _ _ _ c.in-Err.ensures

pub returns-in-Err-one_inside : goal.returns-in-Err-one_inside
unfolding inner_amount
returns-in-Err-one_inside c = stops_second _ _ c.in-Ok.ensures (stops_first _ _ _ c.in-Err-one_inside.ensures)

pub returns-in-Err-read_unit_inside : goal.returns-in-Err-read_unit_inside
unfolding inner_amount
returns-in-Err-read_unit_inside c = stops_second _ _ c.in-Ok.ensures (stops_second _ _ c.in-Ok-one_inside.ensures (stops_first _ _ _ c.in-Err-read_unit_inside.ensures))

pub returns : goal.returns
unfolding inner_amount
returns c = got_second _ c.in-Ok.ensures (got_second _ c.in-Ok-one_inside.ensures (got_second _ c.in-Ok-read_unit_inside.ensures refl))
