use Rattle.std.proofs.Common.{refl}
use Rattle.ooo_grammar.specs.Members.{constant_tail}
use Rattle.ooo_grammar.specs.Steps.{stops_first, stops_second, got_second}
use Rattle.ooo_declarations.proofs.constants.read_constant_tail.Goals as goal

pub returns-in-Err : goal.returns-in-Err
unfolding constant_tail
returns-in-Err c = stops_first _ _ _ c.in-Err.ensures

pub returns-in-Err-read_word : goal.returns-in-Err-read_word
unfolding constant_tail
returns-in-Err-read_word c = stops_second _ _ c.in-Ok.ensures (stops_first _ _ _ c.in-Err-read_word.ensures)

pub returns-in-Err-one : goal.returns-in-Err-one
unfolding constant_tail
returns-in-Err-one c = stops_second _ _ c.in-Ok.ensures (stops_second _ _ c.in-Ok-read_word.ensures (stops_first _ _ _ c.in-Err-one.ensures))

pub returns-in-Err-read_boxed_value : goal.returns-in-Err-read_boxed_value
unfolding constant_tail
returns-in-Err-read_boxed_value c = stops_second _ _ c.in-Ok.ensures (stops_second _ _ c.in-Ok-read_word.ensures (stops_second _ _ c.in-Ok-one.ensures (stops_first _ _ _ (stops_first _ _ _ c.in-Err-read_boxed_value.ensures))))

pub returns-in-Err-followed : goal.returns-in-Err-followed
unfolding constant_tail
returns-in-Err-followed c = stops_second _ _ c.in-Ok.ensures (stops_second _ _ c.in-Ok-read_word.ensures (stops_second _ _ c.in-Ok-one.ensures (stops_first _ _ _ (stops_second _ _ c.in-Ok-read_boxed_value.ensures c.in-Err-followed.ensures))))

pub returns : goal.returns
unfolding constant_tail
returns c = got_second _ c.in-Ok.ensures (got_second _ c.in-Ok-read_word.ensures (got_second _ c.in-Ok-one.ensures (got_second _ (got_second _ c.in-Ok-read_boxed_value.ensures c.in-Ok-followed.ensures) refl)))
