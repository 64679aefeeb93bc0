use Rattle.ooo_channels_checks.specs.Trials.{IsTrial}
use Rattle.ooo_channels_checks.proofs.channels.Trial.first_wrong.Given as goal

abbrev pub invariant-loop-n : goal.invariant-loop-n
invariant-loop-n l = IsTrial l.self.kind l.self.bank l.self.last
