-- Segment by segment.
use Rattle.std.proofs.Common.{◌≡◌, length, arith}
use Rattle.ooo_advance.proofs.SearchLemmas.{near_more, near_end}
use Rattle.ooo_advance.proofs.search.nearest.Goals as goal

pub loop-n-preserved : goal.loop-n-preserved
loop-n-preserved c = near_more _ _ _ _ _ c.loop-n.invariant c.nearer-best.ensures

pub returns : goal.returns
returns c =
    let end : c.loop-n.n ≡ length c.args.least.now = let a = c.loop-n-test.false in let b = c.loop-n.auto.n-end in omega arith in
    near_end _ _ _ _ end c.loop-n.invariant
