use Rattle.std.proofs.Common.{arith}
use Rattle.std.proofs.lemmas.List.{length_push}
use Rattle.std.proofs.lemmas.List.Elements.{All-push}
use Rattle.ooo_access.specs.Access.{IsInOrder}
use Rattle.ooo_tables_checks.proofs.advance.four.Goals as goal

pub loop-k-preserved : goal.loop-k-preserved
loop-k-preserved c =
    let segment = c.in_ok-segment.field-0 in
    rw c.in_ok-push.ensures.items (record {
      count = let n = c.loop-k.invariant.count in let m = length_push c.loop-k.access.items segment in omega arith;
      in_order = All-push IsInOrder c.loop-k.access.items segment c.loop-k.invariant.in_order c.in_ok-segment.ensures;
    })
