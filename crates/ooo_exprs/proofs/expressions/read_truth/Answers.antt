use Rattle.std.proofs.Common.{refl, sym, ◌∙◌}
use Rattle.ooo_grammar.specs.Expressions.{truth}
use Rattle.ooo_grammar.specs.Steps.{stops_first, got_second}
use Rattle.ooo_exprs.proofs.expressions.read_truth.Goals as goal

pub returns-in-Err : goal.returns-in-Err
unfolding truth
returns-in-Err c = rw (sym c.starts.ensures ∙ c.if-starts.true) (stops_first _ _ _ c.in-Err.ensures)

pub returns-then-starts : goal.returns-then-starts
unfolding truth
returns-then-starts c = rw (sym c.starts.ensures ∙ c.if-starts.true) (got_second _ c.in-Ok.ensures refl)

pub returns-in-Err-one : goal.returns-in-Err-one
unfolding truth
returns-in-Err-one c = rw (sym c.starts.ensures ∙ c.if-starts.false) (stops_first _ _ _ c.in-Err-one.ensures)

pub returns : goal.returns
unfolding truth
returns c = rw (sym c.starts.ensures ∙ c.if-starts.false) (got_second _ c.in-Ok-one.ensures refl)
