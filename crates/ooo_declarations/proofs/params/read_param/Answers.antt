use Rattle.std.proofs.Common.{refl}
use Rattle.ooo_grammar.specs.Members.{param}
use Rattle.ooo_grammar.specs.Steps.{stops_first, stops_second, got_second}
use Rattle.ooo_declarations.proofs.params.read_param.Goals as goal

pub returns-in-Err : goal.returns-in-Err
unfolding param
returns-in-Err c = stops_first _ _ _ c.in-Err.ensures

pub returns-in-Err-read_word : goal.returns-in-Err-read_word
unfolding param
returns-in-Err-read_word c = stops_second _ _ c.in-Ok.ensures (stops_first _ _ _ c.in-Err-read_word.ensures)

pub returns : goal.returns
unfolding param
returns c = got_second _ c.in-Ok.ensures (got_second _ c.in-Ok-read_word.ensures refl)
