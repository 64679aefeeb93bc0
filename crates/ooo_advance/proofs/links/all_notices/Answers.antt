-- Row by row.
use Rattle.std.proofs.Common.{◌++◌, ◌∷◌, [], sym, subst, take}
use Rattle.std.proofs.lemmas.List.{take_more, take_all}
use Rattle.ooo_advance.specs.Links.{AreNoticeRows}
use Rattle.ooo_advance.proofs.LinkLemmas.{rows_none, rows_more}
use Rattle.ooo_advance.proofs.links.all_notices.Goals as goal

pub loop-from-init : goal.loop-from-init
loop-from-init c = rw c.new-links.ensures.items (rows_none _)

pub loop-from-preserved : goal.loop-from-preserved
loop-from-preserved c =
    let access = c.args.access.now in
    let before = take c.loop-from.from-index access in
    let row = c.in_ok-notices_of.field-0 in
    let more = take_more access c.loop-from.from-index c.from-item.result c.loop-from-test.true in
    let made = rows_more _ _ _ c.from-item.result row c.loop-from.invariant c.in_ok-notices_of.ensures in
    rw c.in_ok-push.ensures.items
    (subst (λ xs. AreNoticeRows xs access (c.loop-from.links.items ++ row ∷ [])) (sym more)
    (subst (λ x. AreNoticeRows (before ++ x ∷ []) access (c.loop-from.links.items ++ row ∷ [])) c.from-item.is made))

pub returns : goal.returns
returns c = subst (λ xs. AreNoticeRows xs c.args.access.now c.loop-from.links.items) (take_all c.loop-from.from-index c.args.access.now c.loop-from-test.false) c.loop-from.invariant
