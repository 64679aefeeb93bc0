use Rattle.std.proofs.Common.{ap, refl}
use Rattle.ooo_checked.specs.declared.stat.CheckedSimple.TheVariants as simple
use Rattle.ooo_bodies.proofs.simple_stats.simple_stat.Goals as goal

pub returns-in-Assign-clause-tree : goal.returns-in-Assign-clause-tree
returns-in-Assign-clause-tree c = rw c.in-Assign.is c.assign.ensures.tree

pub returns-in-Assign-clause-notes : goal.returns-in-Assign-clause-notes
returns-in-Assign-clause-notes c = rw c.in-Assign.is c.assign.ensures.notes

pub returns-in-Call-clause-tree : goal.returns-in-Call-clause-tree
returns-in-Call-clause-tree c = rw c.in-Call.is c.call.ensures.tree

pub returns-in-Call-clause-notes : goal.returns-in-Call-clause-notes
returns-in-Call-clause-notes c = rw c.in-Call.is c.call.ensures.notes

pub returns-in-Member-clause-tree : goal.returns-in-Member-clause-tree
returns-in-Member-clause-tree c = rw c.in-Member.is c.member.ensures.tree

pub returns-in-Member-clause-notes : goal.returns-in-Member-clause-notes
returns-in-Member-clause-notes c = rw c.in-Member.is c.member.ensures.notes

pub returns-in-Notify-clause-tree : goal.returns-in-Notify-clause-tree
returns-in-Notify-clause-tree c = rw c.in-Notify.is c.notify.ensures.tree

pub returns-in-Notify-clause-notes : goal.returns-in-Notify-clause-notes
returns-in-Notify-clause-notes c = rw c.in-Notify.is c.notify.ensures.notes

pub returns-in-Cancel-clause-tree : goal.returns-in-Cancel-clause-tree
returns-in-Cancel-clause-tree c = rw c.in-Cancel.is c.cancel.ensures.tree

pub returns-in-Cancel-clause-notes : goal.returns-in-Cancel-clause-notes
returns-in-Cancel-clause-notes c = rw c.in-Cancel.is c.cancel.ensures.notes

pub returns-in-Wait-clause-tree : goal.returns-in-Wait-clause-tree
returns-in-Wait-clause-tree c = rw c.in-Wait.is c.wait.ensures.tree

pub returns-in-Wait-clause-notes : goal.returns-in-Wait-clause-notes
returns-in-Wait-clause-notes c = rw c.in-Wait.is c.wait.ensures.notes

pub returns-in-NextTrigger-clause-tree : goal.returns-in-NextTrigger-clause-tree
returns-in-NextTrigger-clause-tree c = rw c.in-NextTrigger.is c.next_trigger.ensures.tree

pub returns-in-NextTrigger-clause-notes : goal.returns-in-NextTrigger-clause-notes
returns-in-NextTrigger-clause-notes c = rw c.in-NextTrigger.is c.next_trigger.ensures.notes

pub returns-in-Ok-clause-tree : goal.returns-in-Ok-clause-tree
returns-in-Ok-clause-tree c = rw c.in-StepAfter.is (ap (λ t. simple.StepAfter t c.in-StepAfter.op) c.in-Ok.ensures.tree)

pub returns-in-Ok-clause-notes : goal.returns-in-Ok-clause-notes
returns-in-Ok-clause-notes c = rw c.in-StepAfter.is c.in-Ok.ensures.notes

pub returns-in-Ok-target-clause-tree : goal.returns-in-Ok-target-clause-tree
returns-in-Ok-target-clause-tree c = rw c.in-StepBefore.is (ap (λ t. simple.StepBefore c.in-StepBefore.at c.in-StepBefore.op t) c.in-Ok-target.ensures.tree)

pub returns-in-Ok-target-clause-notes : goal.returns-in-Ok-target-clause-notes
returns-in-Ok-target-clause-notes c = rw c.in-StepBefore.is c.in-Ok-target.ensures.notes

pub returns-in-Stop-clause-tree : goal.returns-in-Stop-clause-tree
returns-in-Stop-clause-tree c = rw c.in-Stop.is refl

pub returns-in-Stop-clause-notes : goal.returns-in-Stop-clause-notes
returns-in-Stop-clause-notes c = rw c.in-Stop.is refl

pub returns-in-Ok-items-clause-tree : goal.returns-in-Ok-items-clause-tree
returns-in-Ok-items-clause-tree c = rw c.in-Print.is (ap (λ xs. simple.Print c.in-Print.at xs) c.in-Ok-items.ensures.trees)

pub returns-in-Ok-items-clause-notes : goal.returns-in-Ok-items-clause-notes
returns-in-Ok-items-clause-notes c = rw c.in-Print.is c.in-Ok-items.ensures.notes
