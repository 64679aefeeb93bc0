use Rattle.std.proofs.Common.{arith}
use Rattle.ooo_lower.proofs.simples.Site.call_places.Goals as goal

pub returns : goal.returns
returns c =
    record {
      free_is = c.in-Ok.ensures;
      first_is = c.in-Ok-after.ensures;
      leave_is = omega (arith, c.in-Ok-past.ensures, c.in-Ok-sum.ensures, c.in-Ok-less.ensures, c.in-Ok-nodes_within.ensures.0, c.given.ensures, c.requires.extent_is c.args.self.scene.sensitive.now c.args.self.spot.depth c.in-Ok-nodes_within.ensures.1);
    }
