use Rattle.std.proofs.Common.{refl}
use Rattle.ooo_grammar.specs.Steps.{stops_first, stops_second, got_second}
use Rattle.ooo_units.proofs.members.read_static_member.Goals as goal

pub returns-in-Err : goal.returns-in-Err
returns-in-Err c = stops_first _ _ _ c.in-Err.ensures

pub returns-in-Err-one : goal.returns-in-Err-one
returns-in-Err-one c = stops_second _ _ c.in-Ok.ensures (stops_first _ _ _ c.in-Err-one.ensures)

pub returns-in-Err-read_constant_tail : goal.returns-in-Err-read_constant_tail
returns-in-Err-read_constant_tail c = stops_second _ _ c.in-Ok.ensures (stops_second _ _ c.in-Ok-one.ensures (stops_first _ _ _ c.in-Err-read_constant_tail.ensures))

pub returns : goal.returns
returns c = got_second _ c.in-Ok.ensures (got_second _ c.in-Ok-one.ensures (got_second _ c.in-Ok-read_constant_tail.ensures refl))
