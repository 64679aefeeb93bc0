-- Notification by notification.
use Rattle.std.proofs.Common.{sym, subst}
use Rattle.std.proofs.lemmas.List.{take_more}
use Rattle.ooo_conflicts.proofs.SetLemmas.{HasEvents, events_more}
use Rattle.ooo_conflicts.proofs.called.add_notified.Goals as goal

pub loop-notice-preserved : goal.loop-notice-preserved
loop-notice-preserved c =
    subst (λ xs. HasEvents c.args.set.now c.add.new.self xs) (sym (take_more c.args.notified.now c.loop-notice.notice-index _ c.loop-notice-test.true)) (events_more _ _ _ _ _ c.loop-notice.invariant c.in_ok-add.ensures)
