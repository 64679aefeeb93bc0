use Rattle.ooo_channels.specs.Bank.{AreNew}
use Rattle.ooo_channels.proofs.bank.first_events.Given as goal

abbrev pub invariant-events : goal.invariant-events
invariant-events l = AreNew l._event l.made.items
