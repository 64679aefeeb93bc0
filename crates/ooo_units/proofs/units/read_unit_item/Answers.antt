use Rattle.std.proofs.Common.{refl, sym, ◌∙◌}
use Rattle.ooo_grammar.specs.Units.{unit_item}
use Rattle.ooo_grammar.specs.Steps.{stops_first, got_second}
use Rattle.ooo_units.proofs.units.read_unit_item.Goals as goal

pub returns-in-Err : goal.returns-in-Err
unfolding unit_item
returns-in-Err c = rw (sym c.starts.ensures ∙ c.if-starts.true) (stops_first _ _ _ c.in-Err.ensures)

pub returns-then-starts : goal.returns-then-starts
unfolding unit_item
returns-then-starts c = rw (sym c.starts.ensures ∙ c.if-starts.true) (got_second _ c.in-Ok.ensures refl)

pub returns-in-Err-read_module_form : goal.returns-in-Err-read_module_form
unfolding unit_item
returns-in-Err-read_module_form c = rw (sym c.starts.ensures ∙ c.if-starts.false, sym c.starts-2.ensures ∙ c.if-starts-2.true) (stops_first _ _ _ c.in-Err-read_module_form.ensures)

pub returns-then-starts-2 : goal.returns-then-starts-2
unfolding unit_item
returns-then-starts-2 c = rw (sym c.starts.ensures ∙ c.if-starts.false, sym c.starts-2.ensures ∙ c.if-starts-2.true) (got_second _ c.in-Ok-read_module_form.ensures refl)

pub returns-in-Err-read_constant : goal.returns-in-Err-read_constant
unfolding unit_item
returns-in-Err-read_constant c = rw (sym c.starts.ensures ∙ c.if-starts.false, sym c.starts-2.ensures ∙ c.if-starts-2.false) (stops_first _ _ _ c.in-Err-read_constant.ensures)

pub returns : goal.returns
unfolding unit_item
returns c = rw (sym c.starts.ensures ∙ c.if-starts.false, sym c.starts-2.ensures ∙ c.if-starts-2.false) (got_second _ c.in-Ok-read_constant.ensures refl)
