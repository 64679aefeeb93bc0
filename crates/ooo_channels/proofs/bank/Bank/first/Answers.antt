use Rattle.std.proofs.Common.{sym, subst}
use Rattle.ooo_time.specs.Stamps.{IsBefore}
use Rattle.ooo_channels.specs.Cycles.{cycle_of}
use Rattle.ooo_channels.specs.Calls.{channel_calls, channel_of}
use Rattle.ooo_channels.specs.Kept.{IsChannelAfter}
use Rattle.ooo_channels.specs.Bank.{BankState, IsBankAfter}
use Rattle.ooo_channels.proofs.Banked.{channel_kept}
use Rattle.ooo_channels.proofs.Asking.{kind_there, event_channel_there, event_has, event_kept, first_of_channel, first_of_own}
use Rattle.ooo_channels.proofs.bank.Bank.first.Goals as goal

pub first-requires : goal.first-requires
first-requires c =
    let may = c.requires in
    let i = c.self.inside in
    let h = subst (λ (b : BankState). IsBankAfter b may.0) (sym c.self.view_is) may.1 in
    record {
      is = event_has i.channels.items i.kinds.items i.events.items i.below may.0 c.args.event c.index-kind.result.now c.in-Some.c _ h may.2 c.index-kind.ensures c.in-Some.ensures.0 c.in-Some.ensures.1 c.index-in-Some.ensures;
      kept = event_kept i.channels.items i.kinds.items i.events.items i.below may.0 c.args.event c.index-kind.result.now c.in-Some.c _ h may.2 c.index-kind.ensures c.in-Some.ensures.0 c.in-Some.ensures.1 c.index-in-Some.ensures;
    }

pub returns-in-None : goal.returns-in-None
returns-in-None c = λ ops was later.
    let may = c.requires in
    let i = c.self.inside in
    let g = subst (λ (b : BankState). IsBankAfter b may.0) (sym c.self.view_is) may.1 in
    let h = subst (λ (b : BankState). IsBankAfter b ops) (sym c.self.view_is) was in
    let lt = kind_there i.channels.items i.kinds.items i.events.items i.below may.0 c.args.event g may.2 in
    first_of_own i.channels.items i.kinds.items i.events.items i.below ops c.args.event c.index-kind.result.now _ c.args.since _ h lt c.index-kind.ensures c.in-None.ensures c.index.ensures later c.first_after.ensures.fires

pub returns-in-Some : goal.returns-in-Some
returns-in-Some c = λ ops was later.
    let may = c.requires in
    let i = c.self.inside in
    let k = c.index-kind.result.now in
    let g = subst (λ (b : BankState). IsBankAfter b may.0) (sym c.self.view_is) may.1 in
    let h = subst (λ (b : BankState). IsBankAfter b ops) (sym c.self.view_is) was in
    let lt = kind_there i.channels.items i.kinds.items i.events.items i.below may.0 c.args.event g may.2 in
    let there = event_channel_there i.channels.items i.kinds.items i.events.items i.below may.0 c.args.event k c.in-Some.c g may.2 c.index-kind.ensures c.in-Some.ensures.0 c.in-Some.ensures.1 in
    let kept = channel_kept i.channels.items i.kinds.items i.events.items i.below ops c.in-Some.c _ h there c.index-in-Some.ensures in
    let at = subst (λ n. IsChannelAfter n i.below (cycle_of ops n) (channel_calls ops) c.index-in-Some.result.now) c.in-Some.ensures.0 kept in
    first_of_channel i.channels.items i.kinds.items i.events.items i.below ops c.args.event k c.args.since _ h lt c.index-kind.ensures c.in-Some.ensures.1
    (c.first.ensures i.below (cycle_of ops (channel_of k)) (channel_calls ops) at (subst (λ s. ¬ IsBefore c.args.since s) (sym h.below) later))
