use Rattle.std.proofs.Common.{refl}
use Rattle.ooo_grammar.specs.Statements.{empty_stat}
use Rattle.ooo_grammar.specs.Steps.{stops_first, got_second}
use Rattle.ooo_statements.proofs.statements.read_empty.Goals as goal

pub returns-in-Err : goal.returns-in-Err
unfolding empty_stat
returns-in-Err c = stops_first _ _ _ c.in-Err.ensures

pub returns : goal.returns
unfolding empty_stat
returns c = got_second _ c.in-Ok.ensures refl
