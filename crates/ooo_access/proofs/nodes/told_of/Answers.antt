-- Node by node.
use Rattle.std.proofs.Common.{refl, sym, ap, ◌∙◌, ◌++◌, get_or}
use Rattle.std.specs.Prelude.{slice_get}
use Rattle.ooo_access.specs.Told.{all_meant, touched_of, touched_at}
use Rattle.ooo_access.proofs.Tellings.{touched_more}
use Rattle.ooo_access.proofs.nodes.told_of.Goals as goal

pub loop-n-init : goal.loop-n-init
unfolding all_meant touched_of
loop-n-init c = rw c.new-told.ensures.items refl

pub loop-n-preserved : goal.loop-n-preserved
loop-n-preserved c =
    let e = touched_more c.args.design.now c.args.nodes.now c.loop-n.n-index _ c.loop-n-test.true refl in
    c.in_ok-tell_at.ensures c.args.design.now.events ∙ (ap (λ xs. xs ++ touched_at c.args.design.now.events (slice_get c.args.design.now.nodes (get_or c.args.nodes.now c.loop-n.n-index 0))) c.loop-n.invariant ∙ sym e)
