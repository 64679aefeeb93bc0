-- The first break and the first stop with an activation more.
use Rattle.std.proofs.Common.{ap, ◌∙◌}
use Rattle.ooo_meaning.specs.World.{broken_by}
use Rattle.ooo_fronts.proofs.cut.Cut.note.Goals as goal

pub returns : goal.returns
returns c = λ r j log k at how stops. record {
  stop = k.stop;
  deltas = k.deltas;
  broken = c.first_break-self.ensures r j log k.broken at (c.ending.ensures ∙ ap (broken_by c.args.at) how);
  stopped = c.first_stop-self.ensures r j log k.stopped (ap (λ x. x.stamp) at) stops;
}
