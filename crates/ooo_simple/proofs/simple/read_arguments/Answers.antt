use Rattle.std.proofs.Common.{List, sym, subst, ◌∙◌}
use Rattle.ooo_syntax.specs.declared.terminal.Terminal.TheVariants as terminal
use Rattle.ooo_syntax.specs.declared.expr.Expr.{Expr}
use Rattle.ooo_grammar.specs.Combinators.{quoted}
use Rattle.ooo_grammar.specs.Forms.{after, nothing_r}
use Rattle.ooo_grammar.specs.Gives.{Gives, Stops, reads_at}
use Rattle.ooo_grammar.specs.Statements.{call_arguments}
use Rattle.ooo_grammar.specs.Steps.{stops_first, stops_second}
use Rattle.ooo_exprs.specs.Steps.{gives_second}
use Rattle.ooo_simple.proofs.Listed.{some_listed, none_listed}
use Rattle.ooo_simple.proofs.simple.read_arguments.Goals as goal

pub returns-in-Err : goal.returns-in-Err
unfolding call_arguments
returns-in-Err c = stops_first _ _ _ c.in-Err.ensures

pub returns-then-not-begins_with_expression : goal.returns-then-not-begins_with_expression
unfolding call_arguments
returns-then-not-begins_with_expression c =
    gives_second _ _ c.in-Ok.ensures (gives_second _ _ (none_listed c.args.limits c.in-Ok.found.1.now (sym c.begins_with_expression.ensures ∙ c.if-not-begins_with_expression.true))
    (subst (λ (es : List Expr). Gives (after (reads_at c.args.limits (quoted terminal.Close) c.in-Ok.found.1.now) (λ _. nothing_r es)) c.followed.result) c.new.ensures c.followed.ensures))

pub returns-in-Err-read_some_arguments : goal.returns-in-Err-read_some_arguments
unfolding call_arguments
returns-in-Err-read_some_arguments c =
    stops_second _ _ c.in-Ok.ensures (stops_first _ _ _
    (subst (λ o. Stops o c.in-Err-read_some_arguments.error) (sym (some_listed c.args.limits c.in-Ok.found.1.now (sym c.begins_with_expression.ensures ∙ c.if-not-begins_with_expression.false))) c.in-Err-read_some_arguments.ensures))

pub returns : goal.returns
unfolding call_arguments
returns c =
    gives_second _ _ c.in-Ok.ensures
    (gives_second _ _ (some_listed c.args.limits c.in-Ok.found.1.now (sym c.begins_with_expression.ensures ∙ c.if-not-begins_with_expression.false) ∙ c.in-Ok-read_some_arguments.ensures) c.followed-2.ensures)
