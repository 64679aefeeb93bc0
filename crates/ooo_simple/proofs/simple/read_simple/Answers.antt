use Rattle.std.proofs.Common.{sym, ◌∙◌}
use Rattle.ooo_grammar.specs.Statements.{simple}
use Rattle.ooo_grammar.specs.Steps.{stops_first}
use Rattle.ooo_exprs.specs.Steps.{gives_second}
use Rattle.ooo_simple.proofs.simple.read_simple.Goals as goal

pub returns-in-Err : goal.returns-in-Err
unfolding simple
returns-in-Err c = rw (sym c.begins_with_word.ensures ∙ c.if-begins_with_word.true) (stops_first _ _ _ c.in-Err.ensures)

pub returns-then-begins_with_word : goal.returns-then-begins_with_word
unfolding simple
returns-then-begins_with_word c = rw (sym c.begins_with_word.ensures ∙ c.if-begins_with_word.true) (gives_second _ _ c.in-Ok.ensures c.read_after_first_word.ensures)

pub returns-then-starts : goal.returns-then-starts
unfolding simple
returns-then-starts c = rw (sym c.begins_with_word.ensures ∙ c.if-begins_with_word.false, sym c.starts.ensures ∙ c.if-starts.true) c.read_step_before.ensures

pub returns-then-starts-2 : goal.returns-then-starts-2
unfolding simple
returns-then-starts-2 c = rw (sym c.begins_with_word.ensures ∙ c.if-begins_with_word.false, sym c.starts.ensures ∙ c.if-starts.false, sym c.starts-2.ensures ∙ c.if-starts-2.true) c.read_step_before-then-starts-2.ensures

pub returns-then-starts-3 : goal.returns-then-starts-3
unfolding simple
returns-then-starts-3 c = rw (sym c.begins_with_word.ensures ∙ c.if-begins_with_word.false, sym c.starts.ensures ∙ c.if-starts.false, sym c.starts-2.ensures ∙ c.if-starts-2.false, sym c.starts-3.ensures ∙ c.if-starts-3.true) c.read_wait.ensures

pub returns-then-starts-4 : goal.returns-then-starts-4
unfolding simple
returns-then-starts-4 c = rw (sym c.begins_with_word.ensures ∙ c.if-begins_with_word.false, sym c.starts.ensures ∙ c.if-starts.false, sym c.starts-2.ensures ∙ c.if-starts-2.false, sym c.starts-3.ensures ∙ c.if-starts-3.false, sym c.starts-4.ensures ∙ c.if-starts-4.true) c.read_next_trigger.ensures

pub returns-then-starts-5 : goal.returns-then-starts-5
unfolding simple
returns-then-starts-5 c = rw (sym c.begins_with_word.ensures ∙ c.if-begins_with_word.false, sym c.starts.ensures ∙ c.if-starts.false, sym c.starts-2.ensures ∙ c.if-starts-2.false, sym c.starts-3.ensures ∙ c.if-starts-3.false, sym c.starts-4.ensures ∙ c.if-starts-4.false, sym c.starts-5.ensures ∙ c.if-starts-5.true) c.read_stop.ensures

pub returns : goal.returns
unfolding simple
returns c = rw (sym c.begins_with_word.ensures ∙ c.if-begins_with_word.false, sym c.starts.ensures ∙ c.if-starts.false, sym c.starts-2.ensures ∙ c.if-starts-2.false, sym c.starts-3.ensures ∙ c.if-starts-3.false, sym c.starts-4.ensures ∙ c.if-starts-4.false, sym c.starts-5.ensures ∙ c.if-starts-5.false) c.read_print.ensures
