use Rattle.std.proofs.Common.{sym, ◌∙◌}
use Rattle.ooo_grammar.specs.Steps.{stops_first, stops_second}
use Rattle.ooo_grammar.specs.Times.{awaiting}
use Rattle.ooo_exprs.specs.Steps.{gives_second}
use Rattle.ooo_simple.proofs.waits.read_awaiting.Goals as goal

pub returns-in-Err : goal.returns-in-Err
unfolding awaiting
returns-in-Err c = stops_first _ _ _ c.in-Err.ensures

pub returns-then-starts : goal.returns-then-starts
unfolding awaiting
returns-then-starts c = gives_second _ _ c.in-Ok.ensures (rw (sym c.starts.ensures ∙ c.if-starts.true) c.followed.ensures)

pub returns-in-Err-read_named_time_inside : goal.returns-in-Err-read_named_time_inside
unfolding awaiting
returns-in-Err-read_named_time_inside c = stops_second _ _ c.in-Ok.ensures (rw (sym c.starts.ensures ∙ c.if-starts.false, sym c.begins_with_named_time.ensures ∙ c.if-begins_with_named_time.true) (stops_first _ _ _ c.in-Err-read_named_time_inside.ensures))

pub returns-then-begins_with_named_time : goal.returns-then-begins_with_named_time
unfolding awaiting
returns-then-begins_with_named_time c = gives_second _ _ c.in-Ok.ensures (rw (sym c.starts.ensures ∙ c.if-starts.false, sym c.begins_with_named_time.ensures ∙ c.if-begins_with_named_time.true) (gives_second _ _ c.in-Ok-read_named_time_inside.ensures c.read_after_time.ensures))

pub returns : goal.returns
unfolding awaiting
returns c = gives_second _ _ c.in-Ok.ensures (rw (sym c.starts.ensures ∙ c.if-starts.false, sym c.begins_with_named_time.ensures ∙ c.if-begins_with_named_time.false) c.read_awaited_expression.ensures)
