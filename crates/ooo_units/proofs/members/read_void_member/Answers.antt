use Rattle.ooo_grammar.specs.Steps.{stops_first, stops_second}
use Rattle.ooo_simple.specs.Steps.{gives_second}
use Rattle.ooo_units.proofs.members.read_void_member.Goals as goal

pub returns-in-Err : goal.returns-in-Err
returns-in-Err c = stops_first _ _ _ c.in-Err.ensures

pub returns-in-Err-read_word : goal.returns-in-Err-read_word
returns-in-Err-read_word c = stops_second _ _ c.in-Ok.ensures (stops_first _ _ _ c.in-Err-read_word.ensures)

pub returns : goal.returns
returns c = gives_second _ _ c.in-Ok.ensures (gives_second _ _ c.in-Ok-read_word.ensures c.read_function_tail.ensures)
