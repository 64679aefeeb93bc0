use Rattle.std.proofs.Common.{arith, sym, ◌∙◌}
use Rattle.ooo_grammar.specs.Sets.{in_set}
use Rattle.ooo_grammar.specs.Units.{main_entry}
use Rattle.ooo_declarations.specs.Parts.{begins_main_entry}
use Rattle.ooo_declarations.specs.Loops.{more_of}
use Rattle.ooo_simple.specs.Steps.{turn_made, turn_refused}
use Rattle.ooo_declarations.proofs.main_entries.read_main_entries.Goals as goal

pub returns-in-Err : goal.returns-in-Err
returns-in-Err c =
    turn_refused (in_set begins_main_entry) (more_of c.args.limits main_entry) _ _ _ c.turns.list c.turns.rest.now c.in-Err.error c.turns.invariant (omega (arith, c.turns-test.true)) (sym c.begins_with_main_entry.ensures ∙ c.if-not-begins_with_main_entry.false) c.in-Err.ensures

pub turns-preserved : goal.turns-preserved
turns-preserved c =
    turn_made (in_set begins_main_entry) (more_of c.args.limits main_entry) _ _ _ c.turns.list c.in-Ok.found.0 c.turns.rest.now c.in-Ok.found.1.now c.turns.invariant (omega (arith, c.turns-test.true)) (sym c.begins_with_main_entry.ensures ∙ c.if-not-begins_with_main_entry.false) c.in-Ok.ensures
