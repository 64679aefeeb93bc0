use Rattle.std.proofs.Common.{◌<◌, refl, sym, ap, subst, ◌∙◌}
use Rattle.std.specs.List.{list_any}
use Rattle.std.proofs.lemmas.List.{length-set}
use Rattle.ooo_dispatch.specs.Banks.{operations_on}
use Rattle.ooo_dispatch.specs.Least.{rules_of}
use Rattle.ooo_dispatch.specs.Rules.{is_stop}
use Rattle.ooo_board.specs.Committing.{once_committed}
use Rattle.ooo_board.specs.Cores.{IsCore, after, maybe_wait}
use Rattle.ooo_board.specs.Forgetting.{forgetting}
use Rattle.ooo_board.specs.declared.cores.Core.{Core}
use Rattle.ooo_channels.specs.Bank.{IsBankAfter}
use Rattle.ooo_channels.specs.Conditions.{MayApplyAll}
use Rattle.ooo_channels.specs.Operations.{after_effects}
use Rattle.ooo_fronts.specs.declared.choice.State.TheVariants.{Waiting}
use Rattle.std.specs.Vec.{with_item}
use Rattle.ooo_board.specs.Waking.{MayWake}
use Rattle.ooo_board.proofs.Committed.{step_is}
use Rattle.ooo_board.proofs.Refreshing.{stands}
use Rattle.ooo_board.proofs.TakenIn.{TakesIn, countable, counted, effects_there, may_apply, may_leave, owned_there, process_there, state_there, taken, waking}
use Rattle.ooo_board.proofs.cores.Core.commit.Goals as goal

pub apply-requires-clause-may : goal.apply-requires-clause-may
apply-requires-clause-may c =
    let w = c.requires.may in
    let design = w.0 in
    let limits = w.1 in
    let steps = w.2 in
    let links = w.3 in
    let may = w.4 in
    let r = rules_of design limits c.args.tables.now in
    let s = after design limits c.args.tables.now steps in
    let job = may.gives.job in
    let keep = c.commits_keep.ensures design limits c.args.tables.now steps c.args.done.process job may.has.stands may.gives.out in
    (forgetting c.args.self.now.below (operations_on r s.board), may.has.core.has_bank.applied, may_apply design limits c.args.tables.now s c.args.done.process job keep c.args.done may.gives.is_done c.args.at may.stamp c.args.self.now may.has.core c.as_slice-effects.result.now c.as_slice-effects.ensures.value)

pub apply-requires-clause-countable : goal.apply-requires-clause-countable
apply-requires-clause-countable c =
    let w = c.requires.may in
    let design = w.0 in
    let limits = w.1 in
    let steps = w.2 in
    let links = w.3 in
    let may = w.4 in
    let r = rules_of design limits c.args.tables.now in
    let s = after design limits c.args.tables.now steps in
    let job = may.gives.job in
    let keep = c.commits_keep.ensures design limits c.args.tables.now steps c.args.done.process job may.has.stands may.gives.out in
    countable design limits c.args.tables.now s c.args.done.process job keep c.args.done may.gives.is_done c.args.at may.stamp c.args.self.now may.has.core

pub move_back-used-requires : goal.move_back-used-requires
move_back-used-requires c =
    let w = c.requires.may in
    let design = w.0 in
    let limits = w.1 in
    let steps = w.2 in
    let links = w.3 in
    let may = w.4 in
    let r = rules_of design limits c.args.tables.now in
    let s = after design limits c.args.tables.now steps in
    let job = may.gives.job in
    let keep = c.commits_keep.ensures design limits c.args.tables.now steps c.args.done.process job may.has.stands may.gives.out in
    owned_there design limits c.args.tables.now s c.args.done.process job keep c.args.done may.gives.is_done c.args.at may.stamp c.args.self.now may.has.core

pub waiting_after-waiting-requires : goal.waiting_after-waiting-requires
waiting_after-waiting-requires c =
    let w = c.requires.may in
    let design = w.0 in
    let limits = w.1 in
    let steps = w.2 in
    let links = w.3 in
    let may = w.4 in
    let r = rules_of design limits c.args.tables.now in
    let s = after design limits c.args.tables.now steps in
    let job = may.gives.job in
    let keep = c.commits_keep.ensures design limits c.args.tables.now steps c.args.done.process job may.has.stands may.gives.out in
    (design, limits, may_leave design limits c.args.tables.now s c.args.done.process job keep c.args.done may.gives.is_done c.args.at may.stamp c.args.self.now may.has.core c.args.links.now may.has.stands.ready.tables links)

pub index_mut-requires : goal.index_mut-requires
index_mut-requires c =
    let w = c.requires.may in
    let design = w.0 in
    let limits = w.1 in
    let steps = w.2 in
    let links = w.3 in
    let may = w.4 in
    let r = rules_of design limits c.args.tables.now in
    let s = after design limits c.args.tables.now steps in
    let job = may.gives.job in
    let keep = c.commits_keep.ensures design limits c.args.tables.now steps c.args.done.process job may.has.stands may.gives.out in
    let there = process_there design limits c.args.tables.now s c.args.done.process job keep c.args.done may.gives.is_done c.args.at may.stamp c.args.self.now may.has.core in
    subst (λ n. c.args.done.process < n) (sym c.args.self.now.processes.ok.0) there

pub leave-requires : goal.leave-requires
leave-requires c =
    let w = c.requires.may in
    let design = w.0 in
    let limits = w.1 in
    let steps = w.2 in
    let links = w.3 in
    let may = w.4 in
    let r = rules_of design limits c.args.tables.now in
    let s = after design limits c.args.tables.now steps in
    let job = may.gives.job in
    let keep = c.commits_keep.ensures design limits c.args.tables.now steps c.args.done.process job may.has.stands may.gives.out in
    counted design limits c.args.tables.now s c.args.done.process job keep c.args.done may.gives.is_done c.args.at may.stamp c.args.self.now may.has.core c.index_mut.result.now (stands c.args.self.now.processes.items c.args.done.process c.index_mut.result.now (process_there design limits c.args.tables.now s c.args.done.process job keep c.args.done may.gives.is_done c.args.at may.stamp c.args.self.now may.has.core) c.index_mut.ensures.value)

pub index_mut-requires-2 : goal.index_mut-requires-2
index_mut-requires-2 c =
    let w = c.requires.may in
    let design = w.0 in
    let limits = w.1 in
    let steps = w.2 in
    let links = w.3 in
    let may = w.4 in
    let r = rules_of design limits c.args.tables.now in
    let s = after design limits c.args.tables.now steps in
    let job = may.gives.job in
    let keep = c.commits_keep.ensures design limits c.args.tables.now steps c.args.done.process job may.has.stands may.gives.out in
    let there = state_there design limits c.args.tables.now s c.args.done.process job keep c.args.done may.gives.is_done c.args.at may.stamp c.args.self.now may.has.core in
    subst (λ n. c.args.done.process < n) (sym c.args.self.now.states.ok.0) there

pub refresh-requires-clause-within : goal.refresh-requires-clause-within
refresh-requires-clause-within c =
    let w = c.requires.may in
    let design = w.0 in
    let limits = w.1 in
    let steps = w.2 in
    let links = w.3 in
    let may = w.4 in
    let r = rules_of design limits c.args.tables.now in
    let s = after design limits c.args.tables.now steps in
    let job = may.gives.job in
    let keep = c.commits_keep.ensures design limits c.args.tables.now steps c.args.done.process job may.has.stands may.gives.out in
    let there = process_there design limits c.args.tables.now s c.args.done.process job keep c.args.done may.gives.is_done c.args.at may.stamp c.args.self.now may.has.core in
    subst (λ n. c.args.done.process < n) (sym (length-set c.args.self.now.processes.items c.args.done.process c.leave.new.self)) there

pub refresh-requires-clause-waking : goal.refresh-requires-clause-waking
refresh-requires-clause-waking c =
    let w = c.requires.may in
    let design = w.0 in
    let limits = w.1 in
    let steps = w.2 in
    let links = w.3 in
    let may = w.4 in
    let r = rules_of design limits c.args.tables.now in
    let s = after design limits c.args.tables.now steps in
    let job = may.gives.job in
    let keep = c.commits_keep.ensures design limits c.args.tables.now steps c.args.done.process job may.has.stands may.gives.out in
    let c1 : Core = (record {
      bank = c.apply.new.self;
      below = c.args.self.now.below;
      variables = c.move_back-used.new.variables;
      processes = with_item c.args.self.now.processes c.args.done.process c.leave.new.self;
      states = with_item c.args.self.now.states c.args.done.process Waiting;
      fronts = c.args.self.now.fronts;
      cut = c.note.new.self;
      pieces = c.print.new.pieces;
      places = c.push_reserved.new.self;
    }) in
    let takes : TakesIn r s c.args.done.process job c.args.done c.args.at c.args.self.now c1 c.index_mut.result.now c.leave.new.self = record {
      bank = λ ops h m. subst (λ fs. IsBankAfter c.apply.new.self (after_effects c.args.at ops fs)) c.as_slice-effects.ensures.value (c.apply.ensures.after ops h (subst (λ fs. MayApplyAll ops c.args.at fs) (sym c.as_slice-effects.ensures.value) m));
      below = refl;
      variables = c.move_back-used.ensures;
      was = stands c.args.self.now.processes.items c.args.done.process c.index_mut.result.now (process_there design limits c.args.tables.now s c.args.done.process job keep c.args.done may.gives.is_done c.args.at may.stamp c.args.self.now may.has.core) c.index_mut.ensures.value;
      processes = refl;
      slots = c.leave.ensures.slots;
      waiting = ap maybe_wait c.leave.ensures.waiting ∙ c.waiting_after-waiting.ensures design limits;
      activations = c.leave.ensures.activations;
      states = refl;
      fronts = refl;
      cut = λ log h place end stops. c.note.ensures r job log h place end (c.stops.ensures ∙ ap (list_any is_stop) c.as_slice-effects.ensures.value ∙ stops);
      pieces = c.print.ensures;
      places = c.push_reserved.ensures.items;
    } in
    (r, once_committed r s job, record { waking = waking design limits c.args.tables.now s c.args.done.process job keep c.args.done may.gives.is_done c.args.at may.stamp c.args.self.now may.has.core may.has.stands.deltas c1 c.index_mut.result.now c.leave.new.self takes; links = links })

pub wake-requires : goal.wake-requires
wake-requires c =
    let w = c.requires.may in
    let design = w.0 in
    let limits = w.1 in
    let steps = w.2 in
    let links = w.3 in
    let may = w.4 in
    let r = rules_of design limits c.args.tables.now in
    let s = after design limits c.args.tables.now steps in
    let job = may.gives.job in
    let keep = c.commits_keep.ensures design limits c.args.tables.now steps c.args.done.process job may.has.stands may.gives.out in
    let c1 : Core = (record {
      bank = c.apply.new.self;
      below = c.args.self.now.below;
      variables = c.move_back-used.new.variables;
      processes = with_item c.args.self.now.processes c.args.done.process c.leave.new.self;
      states = with_item c.args.self.now.states c.args.done.process Waiting;
      fronts = c.args.self.now.fronts;
      cut = c.note.new.self;
      pieces = c.print.new.pieces;
      places = c.push_reserved.new.self;
    }) in
    let takes : TakesIn r s c.args.done.process job c.args.done c.args.at c.args.self.now c1 c.index_mut.result.now c.leave.new.self = record {
      bank = λ ops h m. subst (λ fs. IsBankAfter c.apply.new.self (after_effects c.args.at ops fs)) c.as_slice-effects.ensures.value (c.apply.ensures.after ops h (subst (λ fs. MayApplyAll ops c.args.at fs) (sym c.as_slice-effects.ensures.value) m));
      below = refl;
      variables = c.move_back-used.ensures;
      was = stands c.args.self.now.processes.items c.args.done.process c.index_mut.result.now (process_there design limits c.args.tables.now s c.args.done.process job keep c.args.done may.gives.is_done c.args.at may.stamp c.args.self.now may.has.core) c.index_mut.ensures.value;
      processes = refl;
      slots = c.leave.ensures.slots;
      waiting = ap maybe_wait c.leave.ensures.waiting ∙ c.waiting_after-waiting.ensures design limits;
      activations = c.leave.ensures.activations;
      states = refl;
      fronts = refl;
      cut = λ log h place end stops. c.note.ensures r job log h place end (c.stops.ensures ∙ ap (list_any is_stop) c.as_slice-effects.ensures.value ∙ stops);
      pieces = c.print.ensures;
      places = c.push_reserved.ensures.items;
    } in
    let first = c.refresh.ensures r (once_committed r s job) (record { waking = waking design limits c.args.tables.now s c.args.done.process job keep c.args.done may.gives.is_done c.args.at may.stamp c.args.self.now may.has.core may.has.stands.deltas c1 c.index_mut.result.now c.leave.new.self takes; links = links }) in
    let may_wake : MayWake r c.args.tables.now (once_committed r s job) c.args.links.now c.refresh.new.self = record { waking = first.waking; links = links } in
    record { there = (r, once_committed r s job, may_wake, effects_there design limits c.args.tables.now s c.args.done.process job keep c.args.done may.gives.is_done c.args.at may.stamp c.args.self.now may.has.core may.has.stands.deltas c1 c.index_mut.result.now c.leave.new.self takes c.as_slice-effects.result.now c.as_slice-effects.ensures.value) }

pub returns : goal.returns
returns c = λ design limits steps links may.
    let r = rules_of design limits c.args.tables.now in
    let s = after design limits c.args.tables.now steps in
    let job = may.gives.job in
    let keep = c.commits_keep.ensures design limits c.args.tables.now steps c.args.done.process job may.has.stands may.gives.out in
    let c1 : Core = (record {
      bank = c.apply.new.self;
      below = c.args.self.now.below;
      variables = c.move_back-used.new.variables;
      processes = with_item c.args.self.now.processes c.args.done.process c.leave.new.self;
      states = with_item c.args.self.now.states c.args.done.process Waiting;
      fronts = c.args.self.now.fronts;
      cut = c.note.new.self;
      pieces = c.print.new.pieces;
      places = c.push_reserved.new.self;
    }) in
    let takes : TakesIn r s c.args.done.process job c.args.done c.args.at c.args.self.now c1 c.index_mut.result.now c.leave.new.self = record {
      bank = λ ops h m. subst (λ fs. IsBankAfter c.apply.new.self (after_effects c.args.at ops fs)) c.as_slice-effects.ensures.value (c.apply.ensures.after ops h (subst (λ fs. MayApplyAll ops c.args.at fs) (sym c.as_slice-effects.ensures.value) m));
      below = refl;
      variables = c.move_back-used.ensures;
      was = stands c.args.self.now.processes.items c.args.done.process c.index_mut.result.now (process_there design limits c.args.tables.now s c.args.done.process job keep c.args.done may.gives.is_done c.args.at may.stamp c.args.self.now may.has.core) c.index_mut.ensures.value;
      processes = refl;
      slots = c.leave.ensures.slots;
      waiting = ap maybe_wait c.leave.ensures.waiting ∙ c.waiting_after-waiting.ensures design limits;
      activations = c.leave.ensures.activations;
      states = refl;
      fronts = refl;
      cut = λ log h place end stops. c.note.ensures r job log h place end (c.stops.ensures ∙ ap (list_any is_stop) c.as_slice-effects.ensures.value ∙ stops);
      pieces = c.print.ensures;
      places = c.push_reserved.ensures.items;
    } in
    let first = c.refresh.ensures r (once_committed r s job) (record { waking = waking design limits c.args.tables.now s c.args.done.process job keep c.args.done may.gives.is_done c.args.at may.stamp c.args.self.now may.has.core may.has.stands.deltas c1 c.index_mut.result.now c.leave.new.self takes; links = links }) in
    let may_wake : MayWake r c.args.tables.now (once_committed r s job) c.args.links.now c.refresh.new.self = record { waking = first.waking; links = links } in
    let there = effects_there design limits c.args.tables.now s c.args.done.process job keep c.args.done may.gives.is_done c.args.at may.stamp c.args.self.now may.has.core may.has.stands.deltas c1 c.index_mut.result.now c.leave.new.self takes c.as_slice-effects.result.now c.as_slice-effects.ensures.value in
    let second = c.wake.ensures r (once_committed r s job) may_wake there in
    subst (λ x. IsCore design limits c.args.tables.now x c.wake.new.self) (sym (step_is r s c.args.done.process job may.gives.out))
    (taken design limits c.args.tables.now s c.args.done.process job keep c.args.done may.gives.is_done c.args.at may.stamp c.args.self.now may.has.core may.has.stands.deltas c1 c.index_mut.result.now c.leave.new.self takes c.args.links.now links c.as_slice-effects.result.now c.as_slice-effects.ensures.value c.refresh.new.self c.wake.new.self first second)
