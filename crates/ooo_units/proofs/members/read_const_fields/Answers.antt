use Rattle.ooo_grammar.specs.Members.{const_fields}
use Rattle.ooo_grammar.specs.Steps.{stops_first, stops_second}
use Rattle.ooo_simple.specs.Steps.{gives_second}
use Rattle.ooo_units.proofs.members.read_const_fields.Goals as goal

pub returns-in-Err : goal.returns-in-Err
unfolding const_fields
returns-in-Err c = stops_first _ _ _ c.in-Err.ensures

pub returns-in-Err-read_field : goal.returns-in-Err-read_field
unfolding const_fields
returns-in-Err-read_field c = stops_second _ _ c.in-Ok.ensures (stops_first _ _ _ c.in-Err-read_field.ensures)

pub returns-in-Err-read_more_fields : goal.returns-in-Err-read_more_fields
unfolding const_fields
returns-in-Err-read_more_fields c = stops_second _ _ c.in-Ok.ensures (stops_second _ _ c.in-Ok-read_field.ensures (stops_first _ _ _ c.in-Err-read_more_fields.ensures))

pub returns : goal.returns
unfolding const_fields
returns c = gives_second _ _ c.in-Ok.ensures (gives_second _ _ c.in-Ok-read_field.ensures (gives_second _ _ c.in-Ok-read_more_fields.ensures c.const_member.ensures))
