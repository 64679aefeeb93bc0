use Rattle.std.proofs.Common.{◌∙◌, [], List, ℕ, ap, arith, length, replicate, sym}
use Rattle.std.specs.Prelude.{slice_get}
use Rattle.std.proofs.lemmas.Option.{slice_get-get_or}
use Rattle.ooo_value.specs.declared.bound.BoundEvent.TheVariants.{Own}
use Rattle.ooo_board.proofs.Made.{all_events, no_events}
use Rattle.ooo_board.proofs.links.all_channel_events.Goals as goal

pub loop-e-init : goal.loop-e-init
loop-e-init c = no_events c.args.design.now c.in_ok-lists.lists.items (c.in_ok-lists.ensures ∙ ap (λ n. replicate {A = List ℕ} n []) c.len.ensures)

pub loop-e-preserved : goal.loop-e-preserved
loop-e-preserved c = c.in-Ok.ensures

pub add_event-requires-clause-event : goal.add_event-requires-clause-event
add_event-requires-clause-event c = ap (λ xs. slice_get xs c.loop-e.e) (sym c.as_slice-events.ensures) ∙ slice_get-get_or c.as_slice-events.result.now c.loop-e.e Own c.loop-e-test.true

pub add_event-requires-clause-so_far : goal.add_event-requires-clause-so_far
add_event-requires-clause-so_far c = c.loop-e.invariant

pub returns : goal.returns
returns c = all_events c.args.design.now c.loop-e.e c.loop-e.lists.items (omega (arith, ap length c.as_slice-events.ensures, c.loop-e-test.false)) c.loop-e.invariant
