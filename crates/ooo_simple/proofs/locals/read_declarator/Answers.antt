use Rattle.std.proofs.Common.{sym, refl, ◌∙◌}
use Rattle.ooo_grammar.specs.Statements.{declarator}
use Rattle.ooo_grammar.specs.Steps.{stops_first, got_second}
use Rattle.ooo_simple.proofs.locals.read_declarator.Goals as goal

pub returns-in-Err : goal.returns-in-Err
unfolding declarator
returns-in-Err c = stops_first _ _ _ c.in-Err.ensures

pub returns-then-not-starts : goal.returns-then-not-starts
unfolding declarator
returns-then-not-starts c = got_second _ c.in-Ok.ensures (rw (sym c.starts.ensures ∙ c.if-not-starts.true) refl)

pub returns : goal.returns
unfolding declarator
returns c = got_second _ c.in-Ok.ensures (rw (sym c.starts.ensures ∙ c.if-not-starts.false) (got_second _ (got_second _ (got_second _ c.in-Ok-one.ensures c.in-Ok-read_value.ensures) refl) refl))
