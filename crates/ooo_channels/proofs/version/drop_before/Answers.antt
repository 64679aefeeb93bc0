use Rattle.std.proofs.Common.{arith, sym, ◌∙◌}
use Rattle.ooo_channels.proofs.Versions.{found_at, second_starts, one_less}
use Rattle.ooo_channels.proofs.version.drop_before.Goals as goal

pub loop-second-preserved : goal.loop-second-preserved
loop-second-preserved c =
    let vs = c.loop-second.versions.items in
    let rest = c.pop_front-first.ensures.rest in
    let found = found_at vs 1 c.get.result c.in-Some.second c.get.ensures.item (sym c.copied.ensures ∙ c.in-Some.is) in
    record {
      start = λ h. second_starts c.args.below vs _ c.in-Some.second rest found.0 found.1 (λ k. absurd (cc (c.if-is_before.ensures.1 k)));
      left = λ was more h. one_less was vs _ more rest (c.loop-second.invariant.left was more h);
      fewer = omega (arith, c.loop-second.invariant.fewer, c.pop_front-first.ensures.len);
      capacity = c.pop_front-first.ensures.capacity ∙ c.loop-second.invariant.capacity;
    }
