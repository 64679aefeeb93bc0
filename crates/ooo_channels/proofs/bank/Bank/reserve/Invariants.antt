use Rattle.ooo_channels.proofs.Reserving.{HasReserved}
use Rattle.ooo_channels.proofs.bank.Bank.reserve.Given as goal

abbrev pub invariant-loop-effect : goal.invariant-loop-effect
invariant-loop-effect l = HasReserved l.initial.self l.self l.effects l.effect-index
