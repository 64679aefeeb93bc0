use Rattle.std.proofs.Common.{refl}
use Rattle.ooo_grammar.specs.Steps.{stops_first, stops_second, got_second}
use Rattle.ooo_declarations.proofs.constructors.read_quiet_setup.Goals as goal

pub returns-in-Err : goal.returns-in-Err
returns-in-Err c = stops_first _ _ _ c.in-Err.ensures

pub returns-in-Err-one : goal.returns-in-Err-one
returns-in-Err-one c = stops_second _ _ c.in-Ok.ensures (stops_first _ _ _ c.in-Err-one.ensures)

pub returns-in-Err-one-2 : goal.returns-in-Err-one-2
returns-in-Err-one-2 c = stops_second _ _ c.in-Ok.ensures (stops_second _ _ c.in-Ok-one.ensures (stops_first _ _ _ c.in-Err-one-2.ensures))

pub returns-in-Err-one-3 : goal.returns-in-Err-one-3
returns-in-Err-one-3 c = stops_second _ _ c.in-Ok.ensures (stops_second _ _ c.in-Ok-one.ensures (stops_second _ _ c.in-Ok-one-2.ensures (stops_first _ _ _ c.in-Err-one-3.ensures)))

pub returns : goal.returns
returns c = got_second _ c.in-Ok.ensures (got_second _ c.in-Ok-one.ensures (got_second _ c.in-Ok-one-2.ensures (got_second _ c.in-Ok-one-3.ensures refl)))
