use Rattle.std.proofs.Common.{sym, refl, ◌∙◌}
use Rattle.ooo_grammar.specs.Steps.{stops_first, got_second}
use Rattle.ooo_exprs.specs.Steps.{gives_second}
use Rattle.ooo_simple.proofs.heads.read_ended_start.Goals as goal

pub returns-then-not-begins_with_for_start : goal.returns-then-not-begins_with_for_start
returns-then-not-begins_with_for_start c = rw (sym c.begins_with_for_start.ensures ∙ c.if-not-begins_with_for_start.true) c.followed.ensures

pub returns-in-Err : goal.returns-in-Err
returns-in-Err c = rw (sym c.begins_with_for_start.ensures ∙ c.if-not-begins_with_for_start.false) (stops_first _ _ _ (stops_first _ _ _ c.in-Err.ensures))

pub returns : goal.returns
returns c = rw (sym c.begins_with_for_start.ensures ∙ c.if-not-begins_with_for_start.false) (gives_second _ _ (got_second _ c.in-Ok.ensures refl) c.followed-2.ensures)
