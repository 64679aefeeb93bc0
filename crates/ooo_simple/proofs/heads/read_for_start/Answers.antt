use Rattle.std.proofs.Common.{sym, refl, ◌∙◌}
use Rattle.ooo_grammar.specs.Statements.{for_start}
use Rattle.ooo_grammar.specs.Steps.{stops_first, got_second}
use Rattle.ooo_simple.proofs.heads.read_for_start.Goals as goal

pub returns-in-Err : goal.returns-in-Err
unfolding for_start
returns-in-Err c = rw (sym c.begins_with_type.ensures ∙ c.if-begins_with_type.true) (stops_first _ _ _ c.in-Err.ensures)

pub returns-then-begins_with_type : goal.returns-then-begins_with_type
unfolding for_start
returns-then-begins_with_type c = rw (sym c.begins_with_type.ensures ∙ c.if-begins_with_type.true) (got_second _ c.in-Ok.ensures refl)

pub returns-in-Err-read_simple : goal.returns-in-Err-read_simple
unfolding for_start
returns-in-Err-read_simple c = rw (sym c.begins_with_type.ensures ∙ c.if-begins_with_type.false) (stops_first _ _ _ c.in-Err-read_simple.ensures)

pub returns : goal.returns
unfolding for_start
returns c = rw (sym c.begins_with_type.ensures ∙ c.if-begins_with_type.false) (got_second _ c.in-Ok-read_simple.ensures refl)
