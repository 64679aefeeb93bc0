use Rattle.std.proofs.Common.{sym, subst}
use Rattle.ooo_plain.specs.Engine.{AreShownChannels}
use Rattle.ooo_plain.specs.Schedule.{lists_of}
use Rattle.ooo_plain.proofs.Telling.{shown_none, shown_push}
use Rattle.ooo_plain.proofs.touching.all_shown_channels.Goals as goal

pub loop-p-init : goal.loop-p-init
loop-p-init c = subst (λ xs. AreShownChannels c.args.design.now 0 (lists_of xs)) (sym c.new-lists.ensures.items) (shown_none c.args.design.now)

pub loop-p-preserved : goal.loop-p-preserved
loop-p-preserved c =
    shown_push c.args.design.now c.loop-p.p c.index-processes-p.result c.as_slice-processes.result.now c.as_slice-processes.ensures c.loop-p-test.true c.index-processes-p.is c.loop-p.lists.items c.push.new.self.items c.in-Ok.found
    c.in_ok-push.ensures.items c.loop-p.invariant c.in-Ok.ensures
