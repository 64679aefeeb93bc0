use Rattle.ooo_channels_checks.specs.Trials.{IsTrial}
use Rattle.ooo_channels_checks.proofs.channels.fifo_wraps.Given as goal

abbrev pub invariant-loop-round : goal.invariant-loop-round
invariant-loop-round g l = IsTrial l.trial.kind l.trial.bank l.trial.last
