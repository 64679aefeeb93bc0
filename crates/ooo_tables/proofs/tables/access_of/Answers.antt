-- Segment by segment.
use Rattle.ooo_lemmas.proofs.Placed.{read_is}
use Rattle.ooo_tables.proofs.AccessLemmas.{accesses_more}
use Rattle.ooo_tables.proofs.tables.access_of.Goals as goal

pub loop-segment-preserved : goal.loop-segment-preserved
loop-segment-preserved c =
    let is = read_is c.args.segments.now c.loop-segment.segment-index c.segment-item.result c.loop-segment-test.true c.segment-item.is in
    rw c.in_ok-push.ensures.ok (accesses_more _ _ _ _ c.segment-item.result c.in_ok-sets.field-0 c.loop-segment.invariant is c.in_ok-sets.ensures.exact c.in_ok-sets.ensures.in_order)
