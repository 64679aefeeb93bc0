use Rattle.std.proofs.Common.{◌<◌, length, set, arith, sym, subst}
use Rattle.std.proofs.lemmas.Option.{slice_get_within}
use Rattle.ooo_value.specs.declared.bound.BoundEvent.TheVariants as event
use Rattle.ooo_channels.specs.Bank.{BankState, IsBankAfter, HasMoreRoom}
use Rattle.ooo_channels.proofs.Banked.{channel_there}
use Rattle.ooo_channels.proofs.Reserving.{more_on_channel, more_on_event, named_event, named_channel}
use Rattle.ooo_channels.proofs.bank.Bank.reserve_for.Goals as goal

pub returns-in-Notify-clause-more : goal.returns-in-Notify-clause-more
returns-in-Notify-clause-more c =
    let i = c.self.inside in
    let may = c.requires in
    let h = subst (λ (b : BankState). IsBankAfter b may.0) (sym c.self.view_is) may.1 in
    let own = named_event may.0 c.args.effect c.in-Notify.e c.in-Notify.is may.2 in
    let lt : c.in-Notify.e < length i.events.items = omega (arith, slice_get_within may.0.events c.in-Notify.e event.Own own, h.event_count) in
    let more = more_on_event i.channels.items i.kinds.items i.events.items i.below c.in-Notify.e _ c.reserve.new.self lt c.index_mut.ensures.value c.reserve.ensures.rest c.reserve.ensures.kept c.reserve.ensures.after in
    subst (λ (b : BankState). HasMoreRoom b (record { channels = i.channels.items; kinds = i.kinds.items; events = set i.events.items c.in-Notify.e c.reserve.new.self; below = i.below })) c.self.view_is more

pub returns-in-Request-clause-more : goal.returns-in-Request-clause-more
returns-in-Request-clause-more c =
    let i = c.self.inside in
    let r = c.reserve-in-Request in
    let may = c.requires in
    let h = subst (λ (b : BankState). IsBankAfter b may.0) (sym c.self.view_is) may.1 in
    let has = named_channel may.0 c.args.effect c.in-Request.c c.in-Request.is may.2 in
    let lt = channel_there i.channels.items i.kinds.items i.events.items i.below may.0 c.in-Request.c has.0 h has.1 in
    let more = more_on_channel i.channels.items i.kinds.items i.events.items i.below c.in-Request.c _ r.new.self lt c.index_mut-in-Request.ensures.value r.ensures.kept r.ensures.kind r.ensures.keeps r.ensures.after r.ensures.shows in
    subst (λ (b : BankState). HasMoreRoom b (record { channels = set i.channels.items c.in-Request.c r.new.self; kinds = i.kinds.items; events = i.events.items; below = i.below })) c.self.view_is more
