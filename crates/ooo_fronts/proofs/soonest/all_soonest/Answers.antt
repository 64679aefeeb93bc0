-- Row by row.
use Rattle.ooo_fronts.proofs.Meeting.{rows_more}
use Rattle.ooo_fronts.proofs.soonest.all_soonest.Goals as goal

pub loop-a-preserved : goal.loop-a-preserved
loop-a-preserved c = rw c.in_ok-push.ensures.items (rows_more c.args.tables.now c.loop-a.a c.loop-a.rows.items c.in_ok-soonest_from.field-0 c.loop-a.invariant c.in_ok-soonest_from.ensures)
