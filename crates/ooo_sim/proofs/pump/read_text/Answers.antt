use Rattle.std.proofs.Common.{arith, rules}
use Rattle.std.proofs.KnownBytes.{Consumes-trans}
use Rattle.std.proofs.lemmas.Grind.{common_steps}
use Rattle.ooo_sim.proofs.pump.read_text.Goals as goal

pub reading-preserved : goal.reading-preserved
reading-preserved g c =
    let more = Consumes-trans _ _ _ _ _ c.reading.invariant.bytes c.in-Ok.ensures.bytes.0 in
    record {
      chunk = first_of (search rules, grind (arith, common_steps));
      within = first_of (search rules, grind (arith, common_steps));
      bytes = first_of (search rules, grind (arith, common_steps));
      later = omega (arith, c.reading.invariant.later, c.in-Ok.ensures.cause.later);
    }
