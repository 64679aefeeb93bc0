use Rattle.std.proofs.Common.{arith, sym, ◌∙◌}
use Rattle.ooo_grammar.specs.Sets.{in_set}
use Rattle.ooo_grammar.specs.Units.{unit_item}
use Rattle.ooo_units.specs.Parts.{begins_unit_item}
use Rattle.ooo_declarations.specs.Loops.{one_more}
use Rattle.ooo_simple.specs.Steps.{turn_made, turn_refused}
use Rattle.ooo_units.proofs.units.read_unit_items.Goals as goal

pub returns-in-Err : goal.returns-in-Err
returns-in-Err c =
    turn_refused (in_set begins_unit_item) (one_more c.args.limits unit_item) _ _ _ c.turns.list c.turns.rest.now c.in-Err.error c.turns.invariant (omega (arith, c.turns-test.true)) (sym c.begins_with_unit_item.ensures ∙ c.if-not-begins_with_unit_item.false) c.in-Err.ensures

pub turns-preserved : goal.turns-preserved
turns-preserved c =
    turn_made (in_set begins_unit_item) (one_more c.args.limits unit_item) _ _ _ c.turns.list c.in-Ok.found.0 c.turns.rest.now c.in-Ok.found.1.now c.turns.invariant (omega (arith, c.turns-test.true)) (sym c.begins_with_unit_item.ensures ∙ c.if-not-begins_with_unit_item.false) c.in-Ok.ensures
