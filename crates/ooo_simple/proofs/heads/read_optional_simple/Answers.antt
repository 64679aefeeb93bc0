use Rattle.std.proofs.Common.{sym, refl, ◌∙◌}
use Rattle.ooo_grammar.specs.Steps.{stops_first, got_second}
use Rattle.ooo_simple.proofs.heads.read_optional_simple.Goals as goal

pub returns-then-not-begins_with_simple : goal.returns-then-not-begins_with_simple
returns-then-not-begins_with_simple c = rw (sym c.begins_with_simple.ensures ∙ c.if-not-begins_with_simple.true) refl

pub returns-in-Err : goal.returns-in-Err
returns-in-Err c = rw (sym c.begins_with_simple.ensures ∙ c.if-not-begins_with_simple.false) (stops_first _ _ _ c.in-Err.ensures)

pub returns : goal.returns
returns c = rw (sym c.begins_with_simple.ensures ∙ c.if-not-begins_with_simple.false) (got_second _ c.in-Ok.ensures refl)
