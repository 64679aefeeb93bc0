use Rattle.std.proofs.Common.{arith}
use Rattle.std.proofs.lemmas.List.{length_push}
use Rattle.std.proofs.lemmas.List.Elements.{All-push}
use Rattle.ooo_access.specs.Access.{IsInOrder}
use Rattle.ooo_tables_checks.proofs.tables.access_of.Goals as goal

pub loop-segment-preserved : goal.loop-segment-preserved
loop-segment-preserved c =
    let access = c.in_ok-sets.field-0 in
    rw c.in_ok-push.ensures.items (record {
      count = let n = c.loop-segment.invariant.count in let m = length_push c.loop-segment.access.items access in omega arith;
      in_order = All-push IsInOrder c.loop-segment.access.items access c.loop-segment.invariant.in_order c.in_ok-sets.ensures.in_order;
    })
