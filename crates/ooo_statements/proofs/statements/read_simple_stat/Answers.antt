use Rattle.std.proofs.Common.{refl}
use Rattle.ooo_grammar.specs.Statements.{simple_stat}
use Rattle.ooo_grammar.specs.Steps.{stops_first, stops_second, got_second}
use Rattle.ooo_statements.proofs.statements.read_simple_stat.Goals as goal

pub returns-in-Err : goal.returns-in-Err
unfolding simple_stat
returns-in-Err c = stops_first _ _ _ (stops_first _ _ _ c.in-Err.ensures)

pub returns-in-Err-followed : goal.returns-in-Err-followed
unfolding simple_stat
returns-in-Err-followed c = stops_first _ _ _ (stops_second _ _ c.in-Ok.ensures c.in-Err-followed.ensures)

pub returns : goal.returns
unfolding simple_stat
returns c = got_second _ (got_second _ c.in-Ok.ensures c.in-Ok-followed.ensures) refl
