use Rattle.std.proofs.Common.{refl}
use Rattle.ooo_grammar.specs.Members.{function_tail}
use Rattle.ooo_grammar.specs.Steps.{stops_first, stops_second, got_second}
use Rattle.ooo_units.proofs.members.read_function_tail.Goals as goal

pub returns-in-Err : goal.returns-in-Err
unfolding function_tail
returns-in-Err c = stops_first _ _ _ c.in-Err.ensures

pub returns-in-Err-read_body : goal.returns-in-Err-read_body
unfolding function_tail
returns-in-Err-read_body c = stops_second _ _ c.in-Ok.ensures (stops_first _ _ _ c.in-Err-read_body.ensures)

pub returns : goal.returns
unfolding function_tail
returns c = got_second _ c.in-Ok.ensures (got_second _ c.in-Ok-read_body.ensures refl)
