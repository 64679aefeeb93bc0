use Rattle.std.proofs.Common.{ℕ, List, [], ◌∙◌, sym, ap, arith, length, replicate}
use Rattle.std.proofs.lemmas.Option.{slice_get-get_or}
use Rattle.std.specs.Prelude.{slice_get}
use Rattle.ooo_plain.specs.Schedule.{lists_of}
use Rattle.ooo_plain.proofs.Beginning.{events_all, events_none}
use Rattle.ooo_plain.proofs.starting.all_channel_events.Goals as goal

pub loop-e-init : goal.loop-e-init
loop-e-init c =
    let none : List ℕ = [] in
    events_none c.args.design.now (lists_of c.in_ok-channel_events.channel_events.items) (c.in_ok-channel_events.ensures ∙ ap (λ n. replicate n none) c.len.ensures)

pub add_event-requires-clause-event : goal.add_event-requires-clause-event
add_event-requires-clause-event c = ap (λ xs. slice_get xs c.loop-e.e) (sym c.as_slice-events.ensures) ∙ slice_get-get_or c.as_slice-events.result.now c.loop-e.e _ c.loop-e-test.true

pub returns : goal.returns
returns c =
    events_all c.args.design.now c.loop-e.e (lists_of c.loop-e.channel_events.items)
    (let h = c.loop-e-test.false in let n = ap length c.as_slice-events.ensures in omega (arith, h, n)) c.loop-e.invariant
