use Rattle.std.proofs.Common.{refl}
use Rattle.ooo_grammar.specs.Units.{returned}
use Rattle.ooo_grammar.specs.Steps.{stops_first, stops_second, got_second}
use Rattle.ooo_units.proofs.units.read_returned.Goals as goal

pub returns-in-Err : goal.returns-in-Err
unfolding returned
returns-in-Err c = stops_first _ _ _ c.in-Err.ensures

pub returns-in-Err-read_literal : goal.returns-in-Err-read_literal
unfolding returned
returns-in-Err-read_literal c = stops_second _ _ c.in-Ok.ensures (stops_first _ _ _ c.in-Err-read_literal.ensures)

pub returns-in-Err-one : goal.returns-in-Err-one
unfolding returned
returns-in-Err-one c = stops_second _ _ c.in-Ok.ensures (stops_second _ _ c.in-Ok-read_literal.ensures (stops_first _ _ _ c.in-Err-one.ensures))

pub returns : goal.returns
unfolding returned
returns c = got_second _ c.in-Ok.ensures (got_second _ c.in-Ok-read_literal.ensures (got_second _ c.in-Ok-one.ensures refl))
