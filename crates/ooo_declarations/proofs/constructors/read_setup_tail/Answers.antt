use Rattle.std.proofs.Common.{refl, sym, ◌∙◌}
use Rattle.ooo_grammar.specs.Members.{setup_tail}
use Rattle.ooo_grammar.specs.Steps.{stops_first, stops_second, got_second}
use Rattle.ooo_declarations.proofs.constructors.read_setup_tail.Goals as goal

pub returns-in-Err : goal.returns-in-Err
unfolding setup_tail
returns-in-Err c = rw (sym c.starts.ensures ∙ c.if-starts.true) (stops_first _ _ _ c.in-Err.ensures)

pub returns-then-starts : goal.returns-then-starts
unfolding setup_tail
returns-then-starts c = rw (sym c.starts.ensures ∙ c.if-starts.true) (got_second _ c.in-Ok.ensures refl)

pub returns-in-Err-one : goal.returns-in-Err-one
unfolding setup_tail
returns-in-Err-one c = rw (sym c.starts.ensures ∙ c.if-starts.false) (stops_first _ _ _ c.in-Err-one.ensures)

pub returns-in-Err-read_boxed_value : goal.returns-in-Err-read_boxed_value
unfolding setup_tail
returns-in-Err-read_boxed_value c = rw (sym c.starts.ensures ∙ c.if-starts.false) (stops_second _ _ c.in-Ok-one.ensures (stops_first _ _ _ (stops_first _ _ _ c.in-Err-read_boxed_value.ensures)))

pub returns-in-Err-followed : goal.returns-in-Err-followed
unfolding setup_tail
returns-in-Err-followed c = rw (sym c.starts.ensures ∙ c.if-starts.false) (stops_second _ _ c.in-Ok-one.ensures (stops_first _ _ _ (stops_second _ _ c.in-Ok-read_boxed_value.ensures c.in-Err-followed.ensures)))

pub returns : goal.returns
unfolding setup_tail
returns c = rw (sym c.starts.ensures ∙ c.if-starts.false) (got_second _ c.in-Ok-one.ensures (got_second _ (got_second _ c.in-Ok-read_boxed_value.ensures c.in-Ok-followed.ensures) refl))
