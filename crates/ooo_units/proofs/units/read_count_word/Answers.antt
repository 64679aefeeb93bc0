use Rattle.ooo_grammar.specs.Steps.{stops_first, stops_second}
use Rattle.ooo_simple.specs.Steps.{gives_second}
use Rattle.ooo_units.proofs.units.read_count_word.Goals as goal

pub returns-in-Err : goal.returns-in-Err
returns-in-Err c = stops_first _ _ _ c.in-Err.ensures

pub returns-in-Err-read_maybe_word : goal.returns-in-Err-read_maybe_word
returns-in-Err-read_maybe_word c = stops_second _ _ c.in-Ok.ensures (stops_first _ _ _ c.in-Err-read_maybe_word.ensures)

pub returns-in-Err-one : goal.returns-in-Err-one
returns-in-Err-one c = stops_second _ _ c.in-Ok.ensures (stops_second _ _ c.in-Ok-read_maybe_word.ensures (stops_first _ _ _ c.in-Err-one.ensures))

pub returns-in-Err-one-2 : goal.returns-in-Err-one-2
returns-in-Err-one-2 c = stops_second _ _ c.in-Ok.ensures (stops_second _ _ c.in-Ok-read_maybe_word.ensures (stops_second _ _ c.in-Ok-one.ensures (stops_first _ _ _ c.in-Err-one-2.ensures)))

pub returns : goal.returns
returns c = gives_second _ _ c.in-Ok.ensures (gives_second _ _ c.in-Ok-read_maybe_word.ensures (gives_second _ _ c.in-Ok-one.ensures (gives_second _ _ c.in-Ok-one-2.ensures c.followed.ensures)))
