-- Access by access.
use Rattle.std.proofs.Common.{arith, ◌∙◌, sym, ap, Some}
use Rattle.std.proofs.lemmas.Option.{slice_get-get_or}
use Rattle.ooo_conflicts.proofs.CalledLemmas.{so_far_none, so_far_more}
use Rattle.ooo_conflicts.proofs.called.all_called.Goals as goal

pub loop-one-init : goal.loop-one-init
loop-one-init c = rw c.new-called.ensures.items (so_far_none _ _)

pub loop-one-preserved : goal.loop-one-preserved
loop-one-preserved c =
    let is = slice_get-get_or c.args.access.now c.loop-one.one-index _ c.loop-one-test.true ∙ ap Some (sym c.one-item.is) in
    rw c.in_ok-push.ensures.items (so_far_more _ _ _ _ c.one-item.result c.in_ok-called_by.field-0 c.loop-one.invariant is c.in_ok-called_by.ensures.exact c.in_ok-called_by.ensures.listed)

pub returns : goal.returns
returns c =
    let h = c.loop-one.invariant in
    let end = c.loop-one-test.false in
    let auto = c.loop-one.auto.one-index-end in
    record { count = let n = h.count in omega arith; each = h.each; listed = h.listed }
