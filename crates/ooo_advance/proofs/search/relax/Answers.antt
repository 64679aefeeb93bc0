-- Segment by segment.
use Rattle.std.proofs.Common.{◌≡◌, ◌<◌, length, arith}
use Rattle.ooo_advance.proofs.SearchLemmas.{low_more, low_other, low_end, near_done, near_lowered, near_end}
use Rattle.ooo_advance.proofs.search.relax.Goals as goal
use Rattle.ooo_advance.proofs.search.relax.Goals.{then-not-done-n, else-not-done-n}

pub loop-n-preserved : goal.loop-n-preserved
loop-n-preserved c =
    let within : c.loop-n.n < length c.loop-n.least = let t = c.loop-n-test.true in let a = c.loop-n.auto.least in omega arith in
    elim c.if-not-done-n.branch [
      | then-not-done-n w ↦ rw (w.least-is, w.best-is) (record {
        lowered = low_more _ _ _ _ _ _ _ within c.loop-n.invariant.lowered w.if-not-done-n.true w.lowered-low.ensures;
        nearest = near_lowered _ _ _ _ _ _ within c.loop-n.invariant.nearest w.if-not-done-n.true w.nearer-best.ensures;
      })
      | else-not-done-n w ↦ rw (w.least-is, w.best-is) (record {
        lowered = low_other _ _ _ _ _ _ c.loop-n.invariant.lowered w.if-not-done-n.false;
        nearest = near_done _ _ _ _ c.loop-n.invariant.nearest w.if-not-done-n.false;
      })
    ]

pub returns-clause-lowered : goal.returns-clause-lowered
returns-clause-lowered c =
    let end : c.loop-n.n ≡ length c.args.least.now = let a = c.loop-n-test.false in let b = c.loop-n.auto.n-end in omega arith in
    let links : length c.args.links.now ≡ c.loop-n.n = let n = c.requires.links in omega arith in
    let row : length c.args.least.now ≡ c.loop-n.n = omega arith in
    low_end _ _ _ _ _ _ links row c.loop-n.invariant.lowered

pub returns-clause-nearest : goal.returns-clause-nearest
returns-clause-nearest c =
    let end : c.loop-n.n ≡ length c.loop-n.least =
    let a = c.loop-n-test.false in let b = c.loop-n.auto.n-end in let l = c.loop-n.auto.least in omega arith in
    near_end _ _ _ _ end c.loop-n.invariant.nearest
