-- Segment by segment.
use Rattle.std.proofs.Common.{arith}
use Rattle.ooo_fronts.proofs.Listing.{below_more}
use Rattle.ooo_fronts.proofs.reaching.process_count.Goals as goal

pub loop-a-preserved : goal.loop-a-preserved
loop-a-preserved c =
    let t = c.args.tables.now in
    let next = c.max-count.ensures in
    let own = c.process_of.ensures in
    let known = c.loop-a.invariant.1 in (
      below_more t c.loop-a.a c.loop-a.count c.max-count.result c.loop-a.invariant.0 (omega (arith, next)) (omega (arith, next, own)),
      omega (arith, next, own, known),
    )
