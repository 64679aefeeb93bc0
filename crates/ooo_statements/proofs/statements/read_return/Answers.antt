use Rattle.std.proofs.Common.{refl}
use Rattle.ooo_grammar.specs.Statements.{return_stat}
use Rattle.ooo_grammar.specs.Steps.{stops_first, stops_second, got_second}
use Rattle.ooo_statements.proofs.statements.read_return.Goals as goal

pub returns-in-Err : goal.returns-in-Err
unfolding return_stat
returns-in-Err c = stops_first _ _ _ c.in-Err.ensures

pub returns-in-Err-read_ended_value : goal.returns-in-Err-read_ended_value
unfolding return_stat
returns-in-Err-read_ended_value c = stops_second _ _ c.in-Ok.ensures (stops_first _ _ _ c.in-Err-read_ended_value.ensures)

pub returns : goal.returns
unfolding return_stat
returns c = got_second _ c.in-Ok.ensures (got_second _ c.in-Ok-read_ended_value.ensures refl)
