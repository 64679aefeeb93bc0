use Rattle.std.proofs.Common.{refl}
use Rattle.ooo_grammar.specs.Members.{written_constructor}
use Rattle.ooo_grammar.specs.Steps.{stops_first, stops_second, got_second}
use Rattle.ooo_declarations.proofs.constructors.read_written_constructor.Goals as goal

pub returns-in-Err : goal.returns-in-Err
unfolding written_constructor
returns-in-Err c = stops_first _ _ _ c.in-Err.ensures

pub returns-in-Err-one_inside : goal.returns-in-Err-one_inside
unfolding written_constructor
returns-in-Err-one_inside c = stops_second _ _ c.in-Ok.ensures (stops_first _ _ _ c.in-Err-one_inside.ensures)

pub returns-in-Err-read_name_and_params : goal.returns-in-Err-read_name_and_params
unfolding written_constructor
returns-in-Err-read_name_and_params c = stops_second _ _ c.in-Ok.ensures (stops_second _ _ c.in-Ok-one_inside.ensures (stops_first _ _ _ c.in-Err-read_name_and_params.ensures))

pub returns-in-Err-read_maybe_inits : goal.returns-in-Err-read_maybe_inits
unfolding written_constructor
returns-in-Err-read_maybe_inits c = stops_second _ _ c.in-Ok.ensures (stops_second _ _ c.in-Ok-one_inside.ensures (stops_second _ _ c.in-Ok-read_name_and_params.ensures (stops_first _ _ _ c.in-Err-read_maybe_inits.ensures)))

pub returns-in-Err-read_setups : goal.returns-in-Err-read_setups
unfolding written_constructor
returns-in-Err-read_setups c = stops_second _ _ c.in-Ok.ensures (stops_second _ _ c.in-Ok-one_inside.ensures (stops_second _ _ c.in-Ok-read_name_and_params.ensures (stops_second _ _ c.in-Ok-read_maybe_inits.ensures (stops_first _ _ _ c.in-Err-read_setups.ensures))))

pub returns : goal.returns
unfolding written_constructor
returns c = got_second _ c.in-Ok.ensures (got_second _ c.in-Ok-one_inside.ensures (got_second _ c.in-Ok-read_name_and_params.ensures (got_second _ c.in-Ok-read_maybe_inits.ensures (got_second _ c.in-Ok-read_setups.ensures refl))))
