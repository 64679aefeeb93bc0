use Rattle.std.proofs.Common.{sym, refl, ◌∙◌}
use Rattle.ooo_grammar.specs.Steps.{stops_first, stops_second, got_second}
use Rattle.ooo_grammar.specs.Times.{named_time}
use Rattle.ooo_exprs.specs.Steps.{gives_second}
use Rattle.ooo_simple.proofs.times.read_named_time.Goals as goal

pub returns-in-Err : goal.returns-in-Err
unfolding named_time
returns-in-Err c = rw (sym c.starts.ensures ∙ c.if-starts.true) (stops_first _ _ _ c.in-Err.ensures)

pub returns-then-starts : goal.returns-then-starts
unfolding named_time
returns-then-starts c = rw (sym c.starts.ensures ∙ c.if-starts.true) (got_second _ c.in-Ok.ensures refl)

pub returns-in-Err-one : goal.returns-in-Err-one
unfolding named_time
returns-in-Err-one c = rw (sym c.starts.ensures ∙ c.if-starts.false) (stops_first _ _ _ c.in-Err-one.ensures)

pub returns-in-Err-one-2 : goal.returns-in-Err-one-2
unfolding named_time
returns-in-Err-one-2 c = rw (sym c.starts.ensures ∙ c.if-starts.false) (stops_second _ _ c.in-Ok-one.ensures (stops_first _ _ _ c.in-Err-one-2.ensures))

pub returns-in-Err-read_inner_amount : goal.returns-in-Err-read_inner_amount
unfolding named_time
returns-in-Err-read_inner_amount c = rw (sym c.starts.ensures ∙ c.if-starts.false) (stops_second _ _ c.in-Ok-one.ensures (stops_second _ _ c.in-Ok-one-2.ensures (stops_first _ _ _ c.in-Err-read_inner_amount.ensures)))

pub returns : goal.returns
unfolding named_time
returns c = rw (sym c.starts.ensures ∙ c.if-starts.false) (gives_second _ _ c.in-Ok-one.ensures (gives_second _ _ c.in-Ok-one-2.ensures (gives_second _ _ c.in-Ok-read_inner_amount.ensures c.followed.ensures)))
