use Rattle.std.proofs.Common.{refl}
use Rattle.ooo_grammar.specs.Members.{channels}
use Rattle.ooo_grammar.specs.Steps.{stops_first, stops_second, got_second}
use Rattle.ooo_units.proofs.members.read_channels.Goals as goal

pub returns-in-Err : goal.returns-in-Err
unfolding channels
returns-in-Err c = stops_first _ _ _ c.in-Err.ensures

pub returns-in-Err-read_of_type : goal.returns-in-Err-read_of_type
unfolding channels
returns-in-Err-read_of_type c = stops_second _ _ c.in-Ok.ensures (stops_first _ _ _ c.in-Err-read_of_type.ensures)

pub returns-in-Err-read_parts : goal.returns-in-Err-read_parts
unfolding channels
returns-in-Err-read_parts c = stops_second _ _ c.in-Ok.ensures (stops_second _ _ c.in-Ok-read_of_type.ensures (stops_first _ _ _ c.in-Err-read_parts.ensures))

pub returns : goal.returns
unfolding channels
returns c = got_second _ c.in-Ok.ensures (got_second _ c.in-Ok-read_of_type.ensures (got_second _ c.in-Ok-read_parts.ensures refl))
