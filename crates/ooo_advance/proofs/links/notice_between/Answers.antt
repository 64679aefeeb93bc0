-- Notification by notification.
use Rattle.std.proofs.Common.{◌∙◌, Some, sym, subst, take}
use Rattle.std.specs.Prelude.{slice_index_or}
use Rattle.std.proofs.lemmas.Bool.{false≢true}
use Rattle.std.proofs.lemmas.List.{take_more, take_all}
use Rattle.ooo_advance.specs.Orders.{IsLeastOf}
use Rattle.ooo_advance.specs.Walks.{Notifies}
use Rattle.ooo_advance.proofs.LinkLemmas.{no_notice, notices_more, notices_other, notifying}
use Rattle.ooo_advance.proofs.links.notice_between.Goals as goal
use Rattle.ooo_advance.proofs.links.notice_between.Goals.{then-has_number, else-has_number}

pub loop-notice-preserved : goal.loop-notice-preserved
loop-notice-preserved c =
    let from = c.args.from.now in
    let to = c.args.to.now in
    let all = c.as_slice-notice-items.result.now in
    let ns = take c.loop-notice.notice-index all in
    let x = slice_index_or all c.loop-notice.notice-index no_notice in
    let more = take_more all c.loop-notice.notice-index no_notice c.loop-notice-test.true in
    let waits = rw c.as_slice.ensures at c.has_number.ensures in
    elim c.if-has_number.branch [
      | then-has_number w ↦
          rw w.least-is
          (subst (λ ms. IsLeastOf (Notifies (notifying from ms) to) (Some w.lesser.result)) (sym more)
          (notices_more from to ns x _ _ _ c.loop-notice.invariant (waits.0 w.if-has_number.true) w.delay_after.ensures w.lesser.ensures))
      | else-has_number w ↦
          rw w.least-is
          (subst (λ ms. IsLeastOf (Notifies (notifying from ms) to) c.loop-notice.least) (sym more)
          (notices_other from to ns x _ c.loop-notice.invariant (λ h. false≢true (sym w.if-has_number.false ∙ waits.1 h))))
    ]

pub returns : goal.returns
returns c =
    let all = take_all c.loop-notice.notice-index c.as_slice-notice-items.result.now c.loop-notice-test.false ∙ c.as_slice-notice-items.ensures in
    subst (λ ns. IsLeastOf (Notifies (notifying c.args.from.now ns) c.args.to.now) c.loop-notice.least) all c.loop-notice.invariant
