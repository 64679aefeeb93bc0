-- List by list.
use Rattle.ooo_fronts.specs.Reaching.{MeetsProcess}
use Rattle.ooo_fronts.proofs.Listing.{lists_more}
use Rattle.ooo_fronts.proofs.reaching.all_met.Goals as goal

pub loop-b-preserved : goal.loop-b-preserved
loop-b-preserved c = rw c.in_ok-push.ensures.items (lists_more (MeetsProcess c.args.tables.now) c.loop-b.b c.loop-b.lists.items c.in_ok-met_by.field-0 c.loop-b.invariant c.in_ok-met_by.ensures)
