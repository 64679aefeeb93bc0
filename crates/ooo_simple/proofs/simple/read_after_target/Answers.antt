use Rattle.std.proofs.Common.{sym, refl, ◌∙◌}
use Rattle.ooo_grammar.specs.Statements.{after_target}
use Rattle.ooo_grammar.specs.Steps.{stops_first, stops_second, got_second}
use Rattle.ooo_simple.proofs.simple.read_after_target.Goals as goal

pub returns-then-starts : goal.returns-then-starts
unfolding after_target
returns-then-starts c = rw (sym c.starts.ensures ∙ c.if-starts.true) c.followed.ensures

pub returns-then-starts-2 : goal.returns-then-starts-2
unfolding after_target
returns-then-starts-2 c = rw (sym c.starts.ensures ∙ c.if-starts.false, sym c.starts-2.ensures ∙ c.if-starts-2.true) c.followed-then-starts-2.ensures

pub returns-in-Err : goal.returns-in-Err
unfolding after_target
returns-in-Err c = rw (sym c.starts.ensures ∙ c.if-starts.false, sym c.starts-2.ensures ∙ c.if-starts-2.false) (stops_first _ _ _ c.in-Err.ensures)

pub returns-in-Err-read_value : goal.returns-in-Err-read_value
unfolding after_target
returns-in-Err-read_value c = rw (sym c.starts.ensures ∙ c.if-starts.false, sym c.starts-2.ensures ∙ c.if-starts-2.false) (stops_second _ _ c.in-Ok.ensures (stops_first _ _ _ c.in-Err-read_value.ensures))

pub returns : goal.returns
unfolding after_target
returns c = rw (sym c.starts.ensures ∙ c.if-starts.false, sym c.starts-2.ensures ∙ c.if-starts-2.false) (got_second _ c.in-Ok.ensures (got_second _ c.in-Ok-read_value.ensures refl))
