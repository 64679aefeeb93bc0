use Rattle.ooo_plain.proofs.Filling.{alike_more}
use Rattle.ooo_plain.proofs.schedule.empty_lists.Goals as goal

pub loop-event-preserved : goal.loop-event-preserved
loop-event-preserved c = alike_more (λ v. v.items) c.loop-event.lists.items _ _ _ _ c.loop-event.invariant c.new.ensures.items c.in_ok-push.ensures.items
