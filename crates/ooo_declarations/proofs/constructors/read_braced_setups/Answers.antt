use Rattle.ooo_grammar.specs.Steps.{stops_first, stops_second}
use Rattle.ooo_simple.specs.Steps.{gives_second}
use Rattle.ooo_declarations.proofs.constructors.read_braced_setups.Goals as goal

pub returns-in-Err : goal.returns-in-Err
returns-in-Err c = stops_first _ _ _ c.in-Err.ensures

pub returns-in-Err-read_all_setups_inside : goal.returns-in-Err-read_all_setups_inside
returns-in-Err-read_all_setups_inside c = stops_second _ _ c.in-Ok.ensures (stops_first _ _ _ c.in-Err-read_all_setups_inside.ensures)

pub returns : goal.returns
returns c = gives_second _ _ c.in-Ok.ensures (gives_second _ _ c.in-Ok-read_all_setups_inside.ensures c.followed.ensures)
