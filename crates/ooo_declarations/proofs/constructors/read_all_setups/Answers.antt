use Rattle.std.proofs.Common.{arith, sym, ◌∙◌}
use Rattle.ooo_grammar.specs.Sets.{in_set}
use Rattle.ooo_grammar.specs.Members.{setup}
use Rattle.ooo_declarations.specs.Parts.{begins_setup}
use Rattle.ooo_declarations.specs.Loops.{one_more}
use Rattle.ooo_simple.specs.Steps.{turn_made, turn_refused}
use Rattle.ooo_declarations.proofs.constructors.read_all_setups.Goals as goal

pub returns-in-Err : goal.returns-in-Err
returns-in-Err c =
    turn_refused (in_set begins_setup) (one_more c.args.limits setup) _ _ _ c.turns.list c.turns.rest.now c.in-Err.error c.turns.invariant (omega (arith, c.turns-test.true)) (sym c.begins_with_setup.ensures ∙ c.if-not-begins_with_setup.false) c.in-Err.ensures

pub turns-preserved : goal.turns-preserved
turns-preserved c =
    turn_made (in_set begins_setup) (one_more c.args.limits setup) _ _ _ c.turns.list c.in-Ok.found.0 c.turns.rest.now c.in-Ok.found.1.now c.turns.invariant (omega (arith, c.turns-test.true)) (sym c.begins_with_setup.ensures ∙ c.if-not-begins_with_setup.false) c.in-Ok.ensures
