use Rattle.std.proofs.Common.{sym, subst}
use Rattle.ooo_time.specs.Stamps.{IsBefore}
use Rattle.ooo_value.specs.declared.bound.ChannelKind.TheVariants as kind
use Rattle.ooo_channels.specs.Cycles.{cycle_of, channel_before}
use Rattle.ooo_channels.specs.Calls.{channel_calls}
use Rattle.ooo_channels.specs.Bank.{BankState, IsBankAfter}
use Rattle.ooo_channels.proofs.Banked.{channel_kept, channel_shown, channel_there}
use Rattle.ooo_channels.proofs.bank.Bank.signal.Goals as goal

pub returns-clause-before : goal.returns-clause-before
returns-clause-before c = λ ops was has later.
    let i = c.self.inside in
    let h = subst (λ (b : BankState). IsBankAfter b ops) (sym c.self.view_is) was in
    let lt = channel_there i.channels.items i.kinds.items i.events.items i.below ops c.args.id kind.Signal h has in
    c.seen.ensures.since i.below (channel_before ops c.args.id)
    (channel_shown i.channels.items i.kinds.items i.events.items i.below ops c.args.id _ h lt c.index.ensures)
    (subst (λ b. ¬ IsBefore c.args.at b) (sym h.below) later)

pub returns-clause-now : goal.returns-clause-now
returns-clause-now c = λ ops was has order.
    let i = c.self.inside in
    let h = subst (λ (b : BankState). IsBankAfter b ops) (sym c.self.view_is) was in
    let lt = channel_there i.channels.items i.kinds.items i.events.items i.below ops c.args.id kind.Signal h has in
    c.seen.ensures.newest c.args.id i.below (cycle_of ops c.args.id) (channel_calls ops)
    (channel_kept i.channels.items i.kinds.items i.events.items i.below ops c.args.id _ h lt c.index.ensures) order
