use Rattle.std.proofs.Common.{arith, subst}
use Rattle.ooo_channels.specs.Bank.{AreNew}
use Rattle.ooo_channels.proofs.Making.{new_none, new_more}
use Rattle.ooo_channels.proofs.bank.first_events.Goals as goal

pub events-init : goal.events-init
events-init c = new_none _ c.new-made.ensures.items

pub events-preserved : goal.events-preserved
events-preserved c = new_more c.events._event c.events.made.items _ _ c.events.invariant c.in_ok-push.ensures.items c.new.ensures.exact c.new.ensures.first

pub returns : goal.returns
returns c = subst (λ n. AreNew n c.events.made.items) (omega arith) c.events.invariant
