-- Segment by segment.
use Rattle.std.proofs.Common.{◌++◌, ◌∷◌, [], sym, subst, take}
use Rattle.std.proofs.lemmas.List.{take_more, take_all}
use Rattle.ooo_lemmas.proofs.Placed.{read_all}
use Rattle.ooo_access.specs.Access.{IsInOrder}
use Rattle.ooo_advance.specs.Links.{AreNotices}
use Rattle.ooo_advance.proofs.LinkLemmas.{row_none, row_more}
use Rattle.ooo_advance.proofs.links.notices_of.Goals as goal

pub loop-to-init : goal.loop-to-init
loop-to-init c = rw c.new-row.ensures (row_none _)

pub notice_between-requires : goal.notice_between-requires
notice_between-requires c = (read_all IsInOrder c.args.access.now c.loop-to.to-index c.to-item.result c.loop-to-test.true c.to-item.is c.requires).waited

pub loop-to-preserved : goal.loop-to-preserved
loop-to-preserved c =
    let from = c.args.from.now in
    let before = take c.loop-to.to-index c.args.access.now in
    let more = take_more c.args.access.now c.loop-to.to-index c.to-item.result c.loop-to-test.true in
    let made = row_more _ _ _ c.to-item.result _ c.loop-to.invariant c.notice_between.ensures in
    rw c.in_ok-push.ensures.ok
    (subst (λ xs. AreNotices from xs (c.loop-to.row ++ c.notice_between.result ∷ [])) (sym more)
    (subst (λ x. AreNotices from (before ++ x ∷ []) (c.loop-to.row ++ c.notice_between.result ∷ [])) c.to-item.is made))

pub returns : goal.returns
returns c = subst (λ xs. AreNotices c.args.from.now xs c.loop-to.row) (take_all c.loop-to.to-index c.args.access.now c.loop-to-test.false) c.loop-to.invariant
