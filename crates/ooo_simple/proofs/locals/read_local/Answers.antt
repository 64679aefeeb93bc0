use Rattle.std.proofs.Common.{refl}
use Rattle.ooo_grammar.specs.Statements.{local}
use Rattle.ooo_grammar.specs.Steps.{stops_first, stops_second, got_second}
use Rattle.ooo_simple.proofs.locals.read_local.Goals as goal

pub returns-in-Err : goal.returns-in-Err
unfolding local
returns-in-Err c = stops_first _ _ _ c.in-Err.ensures

pub returns-in-Err-read_declarators : goal.returns-in-Err-read_declarators
unfolding local
returns-in-Err-read_declarators c = stops_second _ _ c.in-Ok.ensures (stops_first _ _ _ c.in-Err-read_declarators.ensures)

pub returns : goal.returns
unfolding local
returns c = got_second _ c.in-Ok.ensures (got_second _ c.in-Ok-read_declarators.ensures refl)
