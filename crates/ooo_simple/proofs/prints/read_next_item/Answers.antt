use Rattle.ooo_grammar.specs.Steps.{stops_first, stops_second}
use Rattle.ooo_exprs.specs.Steps.{gives_second}
use Rattle.ooo_simple.proofs.prints.read_next_item.Goals as goal

pub returns-in-Err : goal.returns-in-Err
returns-in-Err c = stops_first _ _ _ c.in-Err.ensures

pub returns-in-Err-read_print_item : goal.returns-in-Err-read_print_item
returns-in-Err-read_print_item c = stops_second _ _ c.in-Ok.ensures (stops_first _ _ _ c.in-Err-read_print_item.ensures)

pub returns : goal.returns
returns c = gives_second _ _ c.in-Ok.ensures (gives_second _ _ c.in-Ok-read_print_item.ensures c.added.ensures)
