use Rattle.ooo_grammar.specs.Steps.{stops_first, stops_second}
use Rattle.ooo_exprs.specs.Steps.{gives_second}
use Rattle.ooo_simple.proofs.locals.read_next_declarator.Goals as goal

pub returns-in-Err : goal.returns-in-Err
returns-in-Err c = stops_first _ _ _ c.in-Err.ensures

pub returns-in-Err-read_declarator : goal.returns-in-Err-read_declarator
returns-in-Err-read_declarator c = stops_second _ _ c.in-Ok.ensures (stops_first _ _ _ c.in-Err-read_declarator.ensures)

pub returns : goal.returns
returns c = gives_second _ _ c.in-Ok.ensures (gives_second _ _ c.in-Ok-read_declarator.ensures c.added.ensures)
