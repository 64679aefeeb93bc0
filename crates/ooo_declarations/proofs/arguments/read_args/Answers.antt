use Rattle.std.proofs.Common.{[], ◌∷◌, arith, rules, suc, ◌+◌, ◌-◌, ◌≡◌, length}
use Rattle.std.proofs.lemmas.Grind.{common_steps}
use Rattle.ooo_syntax.specs.declared.terminal.Terminal.TheVariants as terminal
use Rattle.ooo_grammar.specs.Sets.{in_set}
use Rattle.ooo_grammar.specs.Steps.{loop_turn, loop_stops}
use Rattle.ooo_declarations.specs.Loops.{arg_step}
use Rattle.ooo_declarations.proofs.arguments.read_args.Goals as goal

pub returns-in_err-more : goal.returns-in_err-more
returns-in_err-more c =
    let n = length c.in_ok-first.rest.now in
    let e : n - c.turns._turn ≡ suc (n - (c.turns._turn + 1)) = omega (arith, c.turns-test.true) in
    let s = loop_stops (in_set (terminal.Comma ∷ [])) (arg_step c.args.limits) _ (n - c.turns._turn) (n - (c.turns._turn + 1)) c.turns.list c.turns.rest.now c.in_err-more.field-0.0 c.turns.invariant e in
    first_of (search rules, grind (arith, common_steps))

pub turns-preserved : goal.turns-preserved
turns-preserved c =
    let n = length c.in_ok-first.rest.now in
    let e : n - c.turns._turn ≡ suc (n - (c.turns._turn + 1)) = omega (arith, c.turns-test.true) in
    let s = loop_turn (in_set (terminal.Comma ∷ [])) (arg_step c.args.limits) _ (n - c.turns._turn) (n - (c.turns._turn + 1)) c.turns.list c.in_ok-more.more c.turns.rest.now c.in_ok-more.after.now c.turns.invariant e in
    first_of (search rules, grind (arith, common_steps))
