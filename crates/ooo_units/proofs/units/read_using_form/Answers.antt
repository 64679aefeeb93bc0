use Rattle.std.proofs.Common.{refl}
use Rattle.ooo_grammar.specs.Units.{using_form}
use Rattle.ooo_grammar.specs.Steps.{stops_first, stops_second, got_second}
use Rattle.ooo_units.proofs.units.read_using_form.Goals as goal

pub returns-in-Err : goal.returns-in-Err
unfolding using_form
returns-in-Err c = stops_first _ _ _ c.in-Err.ensures

pub returns-in-Err-one : goal.returns-in-Err-one
unfolding using_form
returns-in-Err-one c = stops_second _ _ c.in-Ok.ensures (stops_first _ _ _ c.in-Err-one.ensures)

pub returns-in-Err-read_library : goal.returns-in-Err-read_library
unfolding using_form
returns-in-Err-read_library c = stops_second _ _ c.in-Ok.ensures (stops_second _ _ c.in-Ok-one.ensures (stops_first _ _ _ c.in-Err-read_library.ensures))

pub returns-in-Err-one-2 : goal.returns-in-Err-one-2
unfolding using_form
returns-in-Err-one-2 c = stops_second _ _ c.in-Ok.ensures (stops_second _ _ c.in-Ok-one.ensures (stops_second _ _ c.in-Ok-read_library.ensures (stops_first _ _ _ c.in-Err-one-2.ensures)))

pub returns : goal.returns
unfolding using_form
returns c = got_second _ c.in-Ok.ensures (got_second _ c.in-Ok-one.ensures (got_second _ c.in-Ok-read_library.ensures (got_second _ c.in-Ok-one-2.ensures refl)))
