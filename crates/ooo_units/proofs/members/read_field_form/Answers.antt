use Rattle.std.proofs.Common.{refl, sym, ◌∙◌}
use Rattle.ooo_syntax.specs.declared.expr.Expr.{Expr}
use Rattle.ooo_syntax.specs.declared.module.FieldForm.TheVariants as form
use Rattle.ooo_syntax.specs.declared.terminal.Terminal.TheVariants as terminal
use Rattle.ooo_grammar.specs.Combinators.{quoted}
use Rattle.ooo_grammar.specs.Gives.{reads_at}
use Rattle.ooo_grammar.specs.Members.{field_form}
use Rattle.ooo_grammar.specs.Steps.{stops_first, stops_second, got_second}
use Rattle.ooo_simple.specs.Steps.{gives_made}
use Rattle.ooo_units.proofs.members.read_field_form.Goals as goal

pub returns-in-Err : goal.returns-in-Err
unfolding field_form
returns-in-Err c = rw (sym c.starts.ensures ∙ c.if-starts.true) (stops_first _ _ _ (stops_first _ _ _ c.in-Err.ensures))

pub returns-in-Err-read_boxed_inner_value : goal.returns-in-Err-read_boxed_inner_value
unfolding field_form
returns-in-Err-read_boxed_inner_value c = rw (sym c.starts.ensures ∙ c.if-starts.true) (stops_first _ _ _ (stops_second _ _ c.in-Ok.ensures (stops_first _ _ _ c.in-Err-read_boxed_inner_value.ensures)))

pub returns-then-starts : goal.returns-then-starts
unfolding field_form
returns-then-starts c =
    rw (sym c.starts.ensures ∙ c.if-starts.true)
    (gives_made (reads_at c.args.limits (quoted terminal.CloseBracket) c.in-Ok-read_boxed_inner_value.found.1.now) c.in-Ok-read_boxed_inner_value.found.0 _ (λ (e : Expr). form.Length e) _ (got_second _ c.in-Ok.ensures (got_second _ c.in-Ok-read_boxed_inner_value.ensures refl)) refl c.followed.ensures)

pub returns-in-Err-one : goal.returns-in-Err-one
unfolding field_form
returns-in-Err-one c = rw (sym c.starts.ensures ∙ c.if-starts.false, sym c.starts-2.ensures ∙ c.if-starts-2.true) (stops_first _ _ _ c.in-Err-one.ensures)

pub returns-in-Err-read_boxed_value : goal.returns-in-Err-read_boxed_value
unfolding field_form
returns-in-Err-read_boxed_value c = rw (sym c.starts.ensures ∙ c.if-starts.false, sym c.starts-2.ensures ∙ c.if-starts-2.true) (stops_second _ _ c.in-Ok-one.ensures (stops_first _ _ _ c.in-Err-read_boxed_value.ensures))

pub returns-then-starts-2 : goal.returns-then-starts-2
unfolding field_form
returns-then-starts-2 c = rw (sym c.starts.ensures ∙ c.if-starts.false, sym c.starts-2.ensures ∙ c.if-starts-2.true) (got_second _ c.in-Ok-one.ensures (got_second _ c.in-Ok-read_boxed_value.ensures refl))

pub returns : goal.returns
unfolding field_form
returns c = rw (sym c.starts.ensures ∙ c.if-starts.false, sym c.starts-2.ensures ∙ c.if-starts-2.false) refl
