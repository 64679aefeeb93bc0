use Rattle.ooo_grammar.specs.Steps.{stops_first, stops_second, got_second}
use Rattle.ooo_grammar.specs.Times.{event_call}
use Rattle.ooo_exprs.specs.Steps.{gives_second}
use Rattle.ooo_simple.proofs.events.read_event_call.Goals as goal

pub returns-in-Err : goal.returns-in-Err
unfolding event_call
returns-in-Err c = stops_first _ _ _ c.in-Err.ensures

pub returns-in-Err-read_member_word : goal.returns-in-Err-read_member_word
unfolding event_call
returns-in-Err-read_member_word c = stops_second _ _ c.in-Ok.ensures (stops_first _ _ _ (stops_first _ _ _ c.in-Err-read_member_word.ensures))

pub returns-in-Err-followed : goal.returns-in-Err-followed
unfolding event_call
returns-in-Err-followed c = stops_second _ _ c.in-Ok.ensures (stops_first _ _ _ (stops_second _ _ c.in-Ok-read_member_word.ensures c.in-Err-followed.ensures))

pub returns : goal.returns
unfolding event_call
returns c = gives_second _ _ c.in-Ok.ensures (gives_second _ _ (got_second _ c.in-Ok-read_member_word.ensures c.in-Ok-followed.ensures) c.followed-2.ensures)
