use Rattle.std.proofs.Common.{refl, sym, ◌∙◌}
use Rattle.ooo_grammar.specs.Steps.{stops_first, got_second}
use Rattle.ooo_units.proofs.units.read_maybe_word.Goals as goal

pub returns-then-not-begins_with_word : goal.returns-then-not-begins_with_word
returns-then-not-begins_with_word c = rw (sym c.begins_with_word.ensures ∙ c.if-not-begins_with_word.true) refl

pub returns-in-Err : goal.returns-in-Err
returns-in-Err c = rw (sym c.begins_with_word.ensures ∙ c.if-not-begins_with_word.false) (stops_first _ _ _ c.in-Err.ensures)

pub returns : goal.returns
returns c = rw (sym c.begins_with_word.ensures ∙ c.if-not-begins_with_word.false) (got_second _ c.in-Ok.ensures refl)
