use Rattle.std.proofs.Common.{refl}
use Rattle.ooo_grammar.specs.Members.{field}
use Rattle.ooo_grammar.specs.Steps.{stops_first, stops_second, got_second}
use Rattle.ooo_units.proofs.members.read_field.Goals as goal

pub returns-in-Err : goal.returns-in-Err
unfolding field
returns-in-Err c = stops_first _ _ _ c.in-Err.ensures

pub returns-in-Err-read_field_form : goal.returns-in-Err-read_field_form
unfolding field
returns-in-Err-read_field_form c = stops_second _ _ c.in-Ok.ensures (stops_first _ _ _ c.in-Err-read_field_form.ensures)

pub returns : goal.returns
unfolding field
returns c = got_second _ c.in-Ok.ensures (got_second _ c.in-Ok-read_field_form.ensures refl)
