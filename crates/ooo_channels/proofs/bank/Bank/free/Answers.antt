use Rattle.std.proofs.Common.{sym, subst}
use Rattle.ooo_value.specs.declared.bound.ChannelKind.TheVariants as kind
use Rattle.ooo_channels.specs.Cycles.{cycle_of}
use Rattle.ooo_channels.specs.Calls.{channel_calls}
use Rattle.ooo_channels.specs.Bank.{BankState, IsBankAfter}
use Rattle.ooo_channels.proofs.Banked.{channel_kept, channel_there}
use Rattle.ooo_channels.proofs.bank.Bank.free.Goals as goal

pub free-requires-clause-fifo : goal.free-requires-clause-fifo
free-requires-clause-fifo c =
    let may = c.requires in
    let i = c.self.inside in
    let h = subst (λ (b : BankState). IsBankAfter b may.0) (sym c.self.view_is) may.1 in
    let lt = channel_there i.channels.items i.kinds.items i.events.items i.below may.0 c.args.id kind.Fifo h may.2 in
    (c.args.id, i.below, cycle_of may.0 c.args.id, channel_calls may.0, channel_kept i.channels.items i.kinds.items i.events.items i.below may.0 c.args.id _ h lt c.index.ensures)

pub returns : goal.returns
returns c = λ ops was has.
    let i = c.self.inside in
    let h = subst (λ (b : BankState). IsBankAfter b ops) (sym c.self.view_is) was in
    let lt = channel_there i.channels.items i.kinds.items i.events.items i.below ops c.args.id kind.Fifo h has in
    c.free.ensures c.args.id i.below (cycle_of ops c.args.id) (channel_calls ops)
    (channel_kept i.channels.items i.kinds.items i.events.items i.below ops c.args.id _ h lt c.index.ensures)
