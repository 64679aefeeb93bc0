-- List by list.
use Rattle.ooo_conflicts.proofs.ClashingLemmas.{lists_more}
use Rattle.ooo_conflicts.proofs.clashing.all_clashing.Goals as goal

pub loop-g-preserved : goal.loop-g-preserved
loop-g-preserved c = rw c.in_ok-push.ensures.items (lists_more _ _ _ _ c.loop-g.invariant c.in_ok-clashing_with.ensures)
