use Rattle.std.proofs.Common.{sym, refl, ◌∙◌}
use Rattle.ooo_grammar.specs.Steps.{stops_first, stops_second, got_second}
use Rattle.ooo_grammar.specs.Times.{timed}
use Rattle.ooo_simple.proofs.times.read_timed.Goals as goal

pub returns-then-begins_with_named_time : goal.returns-then-begins_with_named_time
unfolding timed
returns-then-begins_with_named_time c = rw (sym c.begins_with_named_time.ensures ∙ c.if-begins_with_named_time.true) c.read_named_time.ensures

pub returns-in-Err : goal.returns-in-Err
unfolding timed
returns-in-Err c = rw (sym c.begins_with_named_time.ensures ∙ c.if-begins_with_named_time.false) (stops_first _ _ _ c.in-Err.ensures)

pub returns-in-Err-one : goal.returns-in-Err-one
unfolding timed
returns-in-Err-one c = rw (sym c.begins_with_named_time.ensures ∙ c.if-begins_with_named_time.false) (stops_second _ _ c.in-Ok.ensures (stops_first _ _ _ c.in-Err-one.ensures))

pub returns-in-Err-read_unit_of_time : goal.returns-in-Err-read_unit_of_time
unfolding timed
returns-in-Err-read_unit_of_time c = rw (sym c.begins_with_named_time.ensures ∙ c.if-begins_with_named_time.false) (stops_second _ _ c.in-Ok.ensures (stops_second _ _ c.in-Ok-one.ensures (stops_first _ _ _ c.in-Err-read_unit_of_time.ensures)))

pub returns : goal.returns
unfolding timed
returns c = rw (sym c.begins_with_named_time.ensures ∙ c.if-begins_with_named_time.false) (got_second _ c.in-Ok.ensures (got_second _ c.in-Ok-one.ensures (got_second _ c.in-Ok-read_unit_of_time.ensures refl)))
