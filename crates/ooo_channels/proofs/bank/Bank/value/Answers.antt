use Rattle.std.proofs.Common.{sym, subst}
use Rattle.ooo_value.specs.declared.bound.ChannelKind.TheVariants as kind
use Rattle.ooo_channels.specs.Cycles.{cycle_of}
use Rattle.ooo_channels.specs.Calls.{channel_calls}
use Rattle.ooo_channels.specs.Bank.{BankState, IsBankAfter}
use Rattle.ooo_channels.proofs.Banked.{channel_kept, channel_there}
use Rattle.ooo_channels.proofs.Values.{readable_value}
use Rattle.ooo_channels.proofs.bank.Bank.value.Goals as goal

pub value-requires-clause-within : goal.value-requires-clause-within
value-requires-clause-within c =
    let may = c.requires in
    let i = c.self.inside in
    let h = subst (λ (b : BankState). IsBankAfter b may.0) (sym c.self.view_is) may.1 in
    let lt = channel_there i.channels.items i.kinds.items i.events.items i.below may.0 c.args.id kind.Fifo h may.2 in
    (c.args.id, i.below, cycle_of may.0 c.args.id, channel_calls may.0, channel_kept i.channels.items i.kinds.items i.events.items i.below may.0 c.args.id _ h lt c.index.ensures, may.3)

pub returns-clause-left : goal.returns-clause-left
returns-clause-left c = λ ops was has.
    let i = c.self.inside in
    let h = subst (λ (b : BankState). IsBankAfter b ops) (sym c.self.view_is) was in
    let lt = channel_there i.channels.items i.kinds.items i.events.items i.below ops c.args.id kind.Fifo h has in
    c.value.ensures c.args.id i.below (cycle_of ops c.args.id) (channel_calls ops)
    (channel_kept i.channels.items i.kinds.items i.events.items i.below ops c.args.id _ h lt c.index.ensures)

pub returns-clause-readable : goal.returns-clause-readable
returns-clause-readable c = λ ops at was has within. readable_value at (cycle_of ops c.args.id) c.args.n c.value.result (returns-clause-left c ops was has) within
