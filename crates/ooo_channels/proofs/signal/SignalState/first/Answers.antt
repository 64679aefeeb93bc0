use Rattle.std.proofs.Common.{sym, subst}
use Rattle.ooo_events.specs.Firings.{Fires, IsFirstAfter}
use Rattle.ooo_channels.specs.Calls.{channel_of}
use Rattle.ooo_channels.specs.Kept.{IsSignalAfter}
use Rattle.ooo_channels.proofs.signal.SignalState.first.Goals as goal

pub returns-in-Changed : goal.returns-in-Changed
returns-in-Changed c = λ below x calls h later.
    subst (λ k. IsSignalAfter (channel_of k) below x calls c.args.self.now → IsFirstAfter (Fires (calls k)) c.args.since c.first_after.result) (sym c.in-Changed.is)
    (λ g. c.first_after.ensures below _ g.changes.kept later) h

pub returns-in-Rise : goal.returns-in-Rise
returns-in-Rise c = λ below x calls h later.
    subst (λ k. IsSignalAfter (channel_of k) below x calls c.args.self.now → IsFirstAfter (Fires (calls k)) c.args.since c.first_after-in-Rise.result) (sym c.in-Rise.is)
    (λ g. c.first_after-in-Rise.ensures below _ g.rises.kept later) h

pub returns-in-Fall : goal.returns-in-Fall
returns-in-Fall c = λ below x calls h later.
    subst (λ k. IsSignalAfter (channel_of k) below x calls c.args.self.now → IsFirstAfter (Fires (calls k)) c.args.since c.first_after-in-Fall.result) (sym c.in-Fall.is)
    (λ g. c.first_after-in-Fall.ensures below _ g.falls.kept later) h
