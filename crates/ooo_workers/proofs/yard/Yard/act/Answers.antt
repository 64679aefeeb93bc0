use Rattle.std.proofs.Common.{refl, sym, ap, ◌∙◌, subst, Some, None, IfSome}
use Rattle.ooo_dispatch.specs.Steps.{IsLost}
use Rattle.ooo_dispatch.specs.declared.step.Step.TheVariants.{Dispatch}
use Rattle.ooo_board.specs.Boards.{MayBeDispatched, Shown, rules, state}
use Rattle.ooo_fronts.specs.Choices.{IsPick}
use Rattle.ooo_workers.specs.Passes.{EndIs}
use Rattle.ooo_workers.proofs.Calls.{acted_end, acted_job, is_picked, may_be_made, may_dispatch}
use Rattle.ooo_workers.proofs.yard.Yard.act.Goals as goal

pub returns-in_default-clause-some : goal.returns-in_default-clause-some
returns-in_default-clause-some c =
    acted_end c.args.place.now.me.0 c.free.new.place.me.0 c.args.board.value None c.end_of-end.result c.requires.held.2 refl (ap (λ m. m.0) c.free.ensures.now)
    (subst (λ (k : Shown). ¬ IsLost (state k) → IsPick (rules k) k.tables.advance (state k).board None) c.deref.ensures c.in_default.ensures.pick)
    (subst (λ (k : Shown). IfSome c.end_of-end.result (EndIs k)) c.deref-in_default.ensures c.end_of-end.ensures)

pub dispatch-requires : goal.dispatch-requires
dispatch-requires c =
    let there = c.deref.ensures ∙ sym c.deref_mut.ensures.value in
    subst (λ (k : Shown). MayBeDispatched k c.in-Some.p) there (may_dispatch c.deref.result.now c.in-Some.p (Some c.in-Some.p) refl c.in-Some.ensures.lost c.in-Some.ensures.pick)

pub free_after-requires-clause-step : goal.free_after-requires-clause-step
free_after-requires-clause-step c =
    let there = c.deref.ensures ∙ sym c.deref_mut.ensures.value in
    let may = subst (λ (k : Shown). MayBeDispatched k c.in-Some.p) there (may_dispatch c.deref.result.now c.in-Some.p (Some c.in-Some.p) refl c.in-Some.ensures.lost c.in-Some.ensures.pick) in
    may_be_made c.args.place.now.me.0 c.deref_mut.result.now c.dispatch.new.self (Dispatch c.in-Some.p) c.in-Some.p (c.requires.held.2 ∙ sym c.deref_mut.ensures.value) c.in-Ok.ensures.step may c.requires.idle c.in-Ok.ensures.others refl

pub returns-in-Ok-clause-some : goal.returns-in-Ok-clause-some
returns-in-Ok-clause-some c =
    let there = c.deref.ensures ∙ sym c.deref_mut.ensures.value in
    let may = subst (λ (k : Shown). MayBeDispatched k c.in-Some.p) there (may_dispatch c.deref.result.now c.in-Some.p (Some c.in-Some.p) refl c.in-Some.ensures.lost c.in-Some.ensures.pick) in
    let pick = subst (λ (k : Shown). IsPick (rules k) k.tables.advance (state k).board (Some c.in-Some.p)) there (is_picked c.deref.result.now c.in-Some.p (Some c.in-Some.p) refl c.in-Some.ensures.lost c.in-Some.ensures.pick) in
    acted_job c.args.place.now.me.0 c.free_after.new.place.me.0 c.deref_mut.result.now c.dispatch.new.self c.in-Some.p c.in-Ok.job (c.requires.held.2 ∙ sym c.deref_mut.ensures.value) c.in-Ok.ensures.job c.in-Ok.ensures.step may pick c.in-Ok.ensures.reads c.in-Ok.ensures.gives
    (ap (λ m. m.0) c.free_after.ensures.now)
