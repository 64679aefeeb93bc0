use Rattle.std.proofs.Common.{[], ◌∷◌, arith, sym, ◌∙◌}
use Rattle.ooo_syntax.specs.declared.terminal.Terminal.TheVariants as terminal
use Rattle.ooo_grammar.specs.Sets.{in_set}
use Rattle.ooo_grammar.specs.Members.{field}
use Rattle.ooo_simple.specs.Loops.{next_item}
use Rattle.ooo_simple.specs.Steps.{turn_made, turn_refused}
use Rattle.ooo_units.proofs.members.read_further_fields.Goals as goal

pub returns-in-Err : goal.returns-in-Err
returns-in-Err c =
    turn_refused (in_set (terminal.Comma ∷ [])) (next_item c.args.limits terminal.Comma field) _ _ _ c.turns.list c.turns.rest.now c.in-Err.error c.turns.invariant (omega (arith, c.turns-test.true)) (sym c.starts.ensures ∙ c.if-not-starts.false) c.in-Err.ensures

pub turns-preserved : goal.turns-preserved
turns-preserved c =
    turn_made (in_set (terminal.Comma ∷ [])) (next_item c.args.limits terminal.Comma field) _ _ _ c.turns.list c.in-Ok.found.0 c.turns.rest.now c.in-Ok.found.1.now c.turns.invariant (omega (arith, c.turns-test.true)) (sym c.starts.ensures ∙ c.if-not-starts.false) c.in-Ok.ensures
