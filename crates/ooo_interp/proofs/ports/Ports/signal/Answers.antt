-- What its port shows of the channel.
use Rattle.std.proofs.Common.{ap, sym, ◌∙◌}
use Rattle.ooo_code.specs.Expressions.{SignalSeen}
use Rattle.ooo_interp.proofs.Ported.{signal_of}
use Rattle.ooo_interp.proofs.ports.Ports.signal.Goals as goal

pub returns-in-Some-clause-value : goal.returns-in-Some-clause-value
returns-in-Some-clause-value c = λ values. c.signal.ensures.value ∙ ap {A = SignalSeen} (λ s. s.value) (sym (signal_of values c.args.channel _ _ (c.in-Some.ensures values)))

pub returns-in-Some-clause-changed : goal.returns-in-Some-clause-changed
returns-in-Some-clause-changed c = λ values. c.signal.ensures.changed ∙ ap {A = SignalSeen} (λ s. s.changed) (sym (signal_of values c.args.channel _ _ (c.in-Some.ensures values)))

pub returns-in-None-clause-value : goal.returns-in-None-clause-value
returns-in-None-clause-value c = λ values. ap {A = SignalSeen} (λ s. s.value) (sym (c.in-None.ensures values).signal)

pub returns-in-None-clause-changed : goal.returns-in-None-clause-changed
returns-in-None-clause-changed c = λ values. ap {A = SignalSeen} (λ s. s.changed) (sym (c.in-None.ensures values).signal)
