use Rattle.std.proofs.Common.{sym, refl, ◌∙◌}
use Rattle.ooo_grammar.specs.Steps.{stops_first, stops_second, got_second}
use Rattle.ooo_grammar.specs.Times.{event}
use Rattle.ooo_simple.proofs.events.read_event.Goals as goal

pub returns-in-Err : goal.returns-in-Err
unfolding event
returns-in-Err c = stops_first _ _ _ c.in-Err.ensures

pub returns-then-not-starts : goal.returns-then-not-starts
unfolding event
returns-then-not-starts c = got_second _ c.in-Ok.ensures (rw (sym c.starts.ensures ∙ c.if-not-starts.true) refl)

pub returns-in-Err-read_event_call : goal.returns-in-Err-read_event_call
unfolding event
returns-in-Err-read_event_call c = stops_second _ _ c.in-Ok.ensures (rw (sym c.starts.ensures ∙ c.if-not-starts.false) (stops_first _ _ _ (stops_first _ _ _ c.in-Err-read_event_call.ensures)))

pub returns : goal.returns
unfolding event
returns c = got_second _ c.in-Ok.ensures (rw (sym c.starts.ensures ∙ c.if-not-starts.false) (got_second _ (got_second _ c.in-Ok-read_event_call.ensures refl) refl))
