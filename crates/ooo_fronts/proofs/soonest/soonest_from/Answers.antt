-- Segment by segment.
use Rattle.ooo_fronts.proofs.Meeting.{row_more}
use Rattle.ooo_fronts.proofs.soonest.soonest_from.Goals as goal

pub loop-c-preserved : goal.loop-c-preserved
loop-c-preserved c = rw c.in_ok-push.ensures.ok (row_more c.args.tables.now c.args.a c.loop-c.c c.loop-c.row c.soonest.result c.loop-c.invariant c.soonest.ensures)
