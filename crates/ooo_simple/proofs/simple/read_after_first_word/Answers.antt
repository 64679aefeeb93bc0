use Rattle.std.proofs.Common.{sym, refl, ◌∙◌}
use Rattle.ooo_grammar.specs.Statements.{after_first_word}
use Rattle.ooo_grammar.specs.Steps.{stops_first, got_second}
use Rattle.ooo_exprs.specs.Steps.{gives_second}
use Rattle.ooo_simple.proofs.simple.read_after_first_word.Goals as goal

pub returns-in-Err : goal.returns-in-Err
unfolding after_first_word
returns-in-Err c = rw (sym c.starts.ensures ∙ c.if-starts.true) (stops_first _ _ _ c.in-Err.ensures)

pub returns-then-starts : goal.returns-then-starts
unfolding after_first_word
returns-then-starts c = rw (sym c.starts.ensures ∙ c.if-starts.true) (gives_second _ _ c.in-Ok.ensures c.read_after_target.ensures)

pub returns-in-Err-read_arguments : goal.returns-in-Err-read_arguments
unfolding after_first_word
returns-in-Err-read_arguments c = rw (sym c.starts.ensures ∙ c.if-starts.false, sym c.starts-2.ensures ∙ c.if-starts-2.true) (stops_first _ _ _ c.in-Err-read_arguments.ensures)

pub returns-then-starts-2 : goal.returns-then-starts-2
unfolding after_first_word
returns-then-starts-2 c = rw (sym c.starts.ensures ∙ c.if-starts.false, sym c.starts-2.ensures ∙ c.if-starts-2.true) (got_second _ c.in-Ok-read_arguments.ensures refl)

pub returns-in-Err-one : goal.returns-in-Err-one
unfolding after_first_word
returns-in-Err-one c = rw (sym c.starts.ensures ∙ c.if-starts.false, sym c.starts-2.ensures ∙ c.if-starts-2.false, sym c.starts-3.ensures ∙ c.if-starts-3.true) (stops_first _ _ _ c.in-Err-one.ensures)

pub returns-then-starts-3 : goal.returns-then-starts-3
unfolding after_first_word
returns-then-starts-3 c = rw (sym c.starts.ensures ∙ c.if-starts.false, sym c.starts-2.ensures ∙ c.if-starts-2.false, sym c.starts-3.ensures ∙ c.if-starts-3.true) (gives_second _ _ c.in-Ok-one.ensures c.read_after_dot.ensures)

pub returns : goal.returns
unfolding after_first_word
returns c = rw (sym c.starts.ensures ∙ c.if-starts.false, sym c.starts-2.ensures ∙ c.if-starts-2.false, sym c.starts-3.ensures ∙ c.if-starts-3.false) c.read_after_target-2.ensures
