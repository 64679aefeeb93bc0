use Rattle.std.proofs.Common.{◌<◌, length, arith, sym, subst}
use Rattle.std.proofs.lemmas.Result.{IfOk-weaker}
use Rattle.ooo_channels.specs.Cycles.{cycle_of}
use Rattle.ooo_channels.specs.Calls.{channel_calls}
use Rattle.ooo_channels.specs.Bank.{BankState, IsBankAfter}
use Rattle.ooo_channels.proofs.Banked.{channel_kept}
use Rattle.ooo_channels.proofs.Ordered.{history_before}
use Rattle.ooo_channels.proofs.bank.Bank.history.Goals as goal

pub history-requires : goal.history-requires
history-requires c =
    let may = c.requires in
    let i = c.self.inside in
    let h = subst (λ (b : BankState). IsBankAfter b may.0) (sym c.self.view_is) may.1 in
    let lt : c.args.id < length i.channels.items = omega (arith, h.channel_count, may.2) in
    (c.args.id, i.below, cycle_of may.0 c.args.id, channel_calls may.0, channel_kept i.channels.items i.kinds.items i.events.items i.below may.0 c.args.id _ h lt c.index.ensures)

pub returns : goal.returns
returns c =
    let may = c.requires in
    let i = c.self.inside in
    let there = subst (λ (b : BankState). IsBankAfter b may.0) (sym c.self.view_is) may.1 in
    let lt : c.args.id < length i.channels.items = omega (arith, there.channel_count, may.2) in
    IfOk-weaker c.history.result _ _ (λ copied told ops was.
    let h = subst (λ (b : BankState). IsBankAfter b ops) (sym c.self.view_is) was in
    history_before ops c.args.id c.args.before copied.items
    (told c.args.id i.below (cycle_of ops c.args.id) (channel_calls ops)
    (channel_kept i.channels.items i.kinds.items i.events.items i.below ops c.args.id _ h lt c.index.ensures))) c.history.ensures
