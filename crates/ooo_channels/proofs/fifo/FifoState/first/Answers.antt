use Rattle.std.proofs.Common.{sym, subst}
use Rattle.ooo_events.specs.Firings.{Fires, IsFirstAfter}
use Rattle.ooo_channels.specs.Calls.{channel_of}
use Rattle.ooo_channels.specs.Kept.{IsFifoAfter}
use Rattle.ooo_channels.proofs.fifo.FifoState.first.Goals as goal

pub returns-in-Written : goal.returns-in-Written
returns-in-Written c = λ below x calls h later.
    subst (λ k. IsFifoAfter (channel_of k) below x calls c.args.self.now → IsFirstAfter (Fires (calls k)) c.args.since c.first_after.result) (sym c.in-Written.is)
    (λ g. c.first_after.ensures below _ g.puts.kept later) h

pub returns-in-Taken : goal.returns-in-Taken
returns-in-Taken c = λ below x calls h later.
    subst (λ k. IsFifoAfter (channel_of k) below x calls c.args.self.now → IsFirstAfter (Fires (calls k)) c.args.since c.first_after-in-Taken.result) (sym c.in-Taken.is)
    (λ g. c.first_after-in-Taken.ensures below _ g.takes.kept later) h
