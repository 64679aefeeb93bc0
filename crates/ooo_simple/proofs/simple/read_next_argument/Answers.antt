use Rattle.ooo_grammar.specs.Steps.{stops_first, stops_second}
use Rattle.ooo_exprs.specs.Steps.{gives_second}
use Rattle.ooo_simple.proofs.simple.read_next_argument.Goals as goal

pub returns-in-Err : goal.returns-in-Err
returns-in-Err c = stops_first _ _ _ c.in-Err.ensures

pub returns-in-Err-read_inner_value : goal.returns-in-Err-read_inner_value
returns-in-Err-read_inner_value c = stops_second _ _ c.in-Ok.ensures (stops_first _ _ _ c.in-Err-read_inner_value.ensures)

pub returns : goal.returns
returns c = gives_second _ _ c.in-Ok.ensures (gives_second _ _ c.in-Ok-read_inner_value.ensures c.added.ensures)
