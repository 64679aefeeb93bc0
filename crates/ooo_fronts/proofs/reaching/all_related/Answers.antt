-- List by list.
use Rattle.ooo_fronts.specs.Reaching.{RelatesTo}
use Rattle.ooo_fronts.proofs.Listing.{lists_more}
use Rattle.ooo_fronts.proofs.reaching.all_related.Goals as goal

pub loop-a-preserved : goal.loop-a-preserved
loop-a-preserved c = rw c.in_ok-push.ensures.items (lists_more (RelatesTo c.args.tables.now c.args.relation) c.loop-a.a c.loop-a.lists.items c.in_ok-related_to.field-0 c.loop-a.invariant c.in_ok-related_to.ensures)
