use Rattle.std.proofs.Common.{refl}
use Rattle.ooo_grammar.specs.Units.{unit}
use Rattle.ooo_grammar.specs.Steps.{stops_first, stops_second, got_second}
use Rattle.ooo_units.proofs.units.read_unit.Goals as goal

pub returns-in-Err : goal.returns-in-Err
unfolding unit
returns-in-Err c = stops_first _ _ _ c.in-Err.ensures

pub returns-in-Err-read_main : goal.returns-in-Err-read_main
unfolding unit
returns-in-Err-read_main c = stops_second _ _ c.in-Ok.ensures (stops_first _ _ _ c.in-Err-read_main.ensures)

pub returns : goal.returns
unfolding unit
returns c = got_second _ c.in-Ok.ensures (got_second _ c.in-Ok-read_main.ensures refl)
