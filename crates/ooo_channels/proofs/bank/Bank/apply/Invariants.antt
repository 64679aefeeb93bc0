use Rattle.ooo_channels.proofs.Applying.{HasApplied}
use Rattle.ooo_channels.proofs.bank.Bank.apply.Given as goal

abbrev pub invariant-loop-effect : goal.invariant-loop-effect
invariant-loop-effect l = HasApplied l.initial.self l.self l.at l.effects l.effect-index
