use Rattle.std.proofs.Common.{sym, refl, ◌∙◌}
use Rattle.ooo_grammar.specs.Steps.{stops_first, stops_second, got_second}
use Rattle.ooo_exprs.specs.Steps.{gives_second}
use Rattle.ooo_simple.proofs.simple.read_option_in_parens.Goals as goal

pub returns-in-Err : goal.returns-in-Err
returns-in-Err c = stops_first _ _ _ c.in-Err.ensures

pub returns-then-not-begins_with_expression : goal.returns-then-not-begins_with_expression
returns-then-not-begins_with_expression c = gives_second _ _ c.in-Ok.ensures (rw (sym c.begins_with_expression.ensures ∙ c.if-not-begins_with_expression.true) c.followed.ensures)

pub returns-in-Err-read_inner_value : goal.returns-in-Err-read_inner_value
returns-in-Err-read_inner_value c = stops_second _ _ c.in-Ok.ensures (rw (sym c.begins_with_expression.ensures ∙ c.if-not-begins_with_expression.false) (stops_first _ _ _ (stops_first _ _ _ c.in-Err-read_inner_value.ensures)))

pub returns : goal.returns
returns c = gives_second _ _ c.in-Ok.ensures (rw (sym c.begins_with_expression.ensures ∙ c.if-not-begins_with_expression.false) (gives_second _ _ (got_second _ c.in-Ok-read_inner_value.ensures refl) c.followed-2.ensures))
