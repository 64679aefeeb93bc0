use Rattle.std.proofs.Common.{[], ◌∷◌, arith, suc, ◌+◌, ◌-◌, ◌≡◌, length, ap, sym, ◌∙◌}
use Rattle.ooo_syntax.specs.declared.terminal.Terminal.TheVariants as terminal
use Rattle.ooo_grammar.specs.Forms.{repeats_in}
use Rattle.ooo_grammar.specs.Gives.{reads_at}
use Rattle.ooo_grammar.specs.Sets.{in_set}
use Rattle.ooo_grammar.specs.Steps.{stops_first, loop_turn, loop_stops, loop_ends}
use Rattle.ooo_grammar.specs.Times.{event}
use Rattle.ooo_simple.specs.Loops.{next_item}
use Rattle.ooo_simple.specs.Steps.{loop_begins}
use Rattle.ooo_declarations.proofs.constructors.read_some_events.Goals as goal

pub returns-in-Err : goal.returns-in-Err
returns-in-Err c = stops_first _ _ _ c.in-Err.ensures

pub turns-init : goal.turns-init
turns-init c =
    loop_begins (in_set (terminal.ShiftLeft ∷ [])) (next_item c.args.limits terminal.ShiftLeft event) (λ b. b ∷ []) (reads_at c.args.limits event c.args.tokens.now) _ c.in-Ok.found.0 _ c.in-Ok.found.1.now
    c.in-Ok.ensures c.in_ok-list.ensures (omega arith)

pub turns-preserved : goal.turns-preserved
turns-preserved c =
    let n = length c.in-Ok.found.1.now in
    let e : n - c.turns._turn ≡ suc (n - (c.turns._turn + 1)) = omega (arith, c.turns-test.true) in
    loop_turn (in_set (terminal.ShiftLeft ∷ [])) (next_item c.args.limits terminal.ShiftLeft event) _ (n - c.turns._turn) (n - (c.turns._turn + 1)) c.turns.list c.in-Ok-read_next_event.found.0 c.turns.rest.now c.in-Ok-read_next_event.found.1.now c.turns.invariant e (sym c.starts.ensures ∙ c.if-not-starts.false) c.in-Ok-read_next_event.ensures

pub returns-then-not-starts : goal.returns-then-not-starts
returns-then-not-starts c =
    let n = length c.in-Ok.found.1.now in
    loop_ends (in_set (terminal.ShiftLeft ∷ [])) (next_item c.args.limits terminal.ShiftLeft event) _ (n - c.turns._turn) c.turns.list c.turns.rest.now c.turns.invariant (sym c.starts.ensures ∙ c.if-not-starts.true)

pub returns-in-Err-read_next_event : goal.returns-in-Err-read_next_event
returns-in-Err-read_next_event c =
    let n = length c.in-Ok.found.1.now in
    let e : n - c.turns._turn ≡ suc (n - (c.turns._turn + 1)) = omega (arith, c.turns-test.true) in
    loop_stops (in_set (terminal.ShiftLeft ∷ [])) (next_item c.args.limits terminal.ShiftLeft event) _ (n - c.turns._turn) (n - (c.turns._turn + 1)) c.turns.list c.turns.rest.now c.in-Err-read_next_event.error c.turns.invariant e (sym c.starts.ensures ∙ c.if-not-starts.false) c.in-Err-read_next_event.ensures

pub returns : goal.returns
returns c =
    let n = length c.in-Ok.found.1.now in
    let e : n - c.turns._turn ≡ 0 = omega (arith, c.turns-test.false) in
    c.turns.invariant ∙ ap (λ n. repeats_in (in_set (terminal.ShiftLeft ∷ [])) (next_item c.args.limits terminal.ShiftLeft event) n c.turns.list c.turns.rest.now) e
