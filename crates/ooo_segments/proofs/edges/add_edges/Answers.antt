-- Each pair of segments, by whether it has an edge.
use Rattle.std.proofs.Common.{refl}
use Rattle.ooo_segments.proofs.Lists.{read_is}
use Rattle.ooo_segments.proofs.EdgeLemmas.{edge_more, edge_none}
use Rattle.ooo_segments.proofs.edges.add_edges.Goals as goal
use Rattle.ooo_segments.proofs.edges.add_edges.Goals.{in-Some+in_ok-push, in_default}

pub loop-to-preserved : goal.loop-to-preserved
loop-to-preserved c =
    let is = read_is c.args.segments.now _ _ _ refl c.loop-to-test.true c.index-segments-to.is in
    elim c.match-delay_between.branch [
      | in-Some+in_ok-push w ↦
          rw (w.edges-is, w.in_ok-push.ensures.items) (edge_more _ _ _ _ _ _ _ _ _ c.requires.before is c.delay_between.ensures w.in-Some.is c.loop-to.invariant)
      | in_default w ↦
          rw w.edges-is (edge_none _ _ _ _ _ _ _ _ c.requires.before is c.delay_between.ensures w.in_default.is c.loop-to.invariant)
    ]
