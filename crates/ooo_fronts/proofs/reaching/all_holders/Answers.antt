-- List by list.
use Rattle.ooo_fronts.specs.Reaching.{CanBeHeldBy}
use Rattle.ooo_fronts.proofs.Listing.{lists_more}
use Rattle.ooo_fronts.proofs.reaching.all_holders.Goals as goal

pub loop-p-preserved : goal.loop-p-preserved
loop-p-preserved c = rw c.in_ok-push.ensures.items (lists_more (CanBeHeldBy c.args.tables.now) c.loop-p.p c.loop-p.lists.items c.in_ok-holders_of.field-0 c.loop-p.invariant c.in_ok-holders_of.ensures)
