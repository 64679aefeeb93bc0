use Rattle.ooo_plain.proofs.Filling.{alike_more}
use Rattle.ooo_plain.proofs.starting.no_events.Goals as goal

pub loop-channel-preserved : goal.loop-channel-preserved
loop-channel-preserved c = alike_more (λ v. v.items) c.loop-channel.lists.items _ _ _ _ c.loop-channel.invariant c.new.ensures.items c.in_ok-push.ensures.items
