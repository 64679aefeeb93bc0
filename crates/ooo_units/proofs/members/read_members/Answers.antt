use Rattle.std.proofs.Common.{arith, sym, ◌∙◌}
use Rattle.ooo_grammar.specs.Sets.{in_set}
use Rattle.ooo_grammar.specs.Members.{begins_member, member}
use Rattle.ooo_declarations.specs.Loops.{one_more}
use Rattle.ooo_simple.specs.Steps.{turn_made, turn_refused}
use Rattle.ooo_units.proofs.members.read_members.Goals as goal

pub returns-in-Err : goal.returns-in-Err
returns-in-Err c =
    turn_refused (in_set begins_member) (one_more c.args.limits member) _ _ _ c.turns.list c.turns.rest.now c.in-Err.error c.turns.invariant (omega (arith, c.turns-test.true)) (sym c.begins_with_member.ensures ∙ c.if-not-begins_with_member.false) c.in-Err.ensures

pub turns-preserved : goal.turns-preserved
turns-preserved c =
    turn_made (in_set begins_member) (one_more c.args.limits member) _ _ _ c.turns.list c.in-Ok.found.0 c.turns.rest.now c.in-Ok.found.1.now c.turns.invariant (omega (arith, c.turns-test.true)) (sym c.begins_with_member.ensures ∙ c.if-not-begins_with_member.false) c.in-Ok.ensures
