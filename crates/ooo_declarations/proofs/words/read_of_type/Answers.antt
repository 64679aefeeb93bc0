use Rattle.std.proofs.Common.{refl}
use Rattle.ooo_grammar.specs.Members.{of_type}
use Rattle.ooo_grammar.specs.Steps.{stops_first, stops_second, got_second}
use Rattle.ooo_declarations.proofs.words.read_of_type.Goals as goal

pub returns-in-Err : goal.returns-in-Err
unfolding of_type
returns-in-Err c = stops_first _ _ _ c.in-Err.ensures

pub returns-in-Err-read_type : goal.returns-in-Err-read_type
unfolding of_type
returns-in-Err-read_type c = stops_second _ _ c.in-Ok.ensures (stops_first _ _ _ c.in-Err-read_type.ensures)

pub returns-in-Err-one : goal.returns-in-Err-one
unfolding of_type
returns-in-Err-one c = stops_second _ _ c.in-Ok.ensures (stops_second _ _ c.in-Ok-read_type.ensures (stops_first _ _ _ c.in-Err-one.ensures))

pub returns : goal.returns
unfolding of_type
returns c = got_second _ c.in-Ok.ensures (got_second _ c.in-Ok-read_type.ensures (got_second _ c.in-Ok-one.ensures refl))
