use Rattle.std.proofs.Common.{refl}
use Rattle.ooo_grammar.specs.Statements.{continue_stat}
use Rattle.ooo_grammar.specs.Steps.{stops_first, stops_second, got_second}
use Rattle.ooo_statements.proofs.statements.read_continue.Goals as goal

pub returns-in-Err : goal.returns-in-Err
unfolding continue_stat
returns-in-Err c = stops_first _ _ _ c.in-Err.ensures

pub returns-in-Err-one : goal.returns-in-Err-one
unfolding continue_stat
returns-in-Err-one c = stops_second _ _ c.in-Ok.ensures (stops_first _ _ _ c.in-Err-one.ensures)

pub returns : goal.returns
unfolding continue_stat
returns c = got_second _ c.in-Ok.ensures (got_second _ c.in-Ok-one.ensures refl)
