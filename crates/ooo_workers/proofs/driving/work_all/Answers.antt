use Rattle.std.proofs.Common.{rules, get_or, []}
use Rattle.ooo_workers.proofs.Joins.{each_works, works_at}
use mir.Syntax.{static}
use denote.Param.Send.{sendable, shr_sync}
use Rattle.ooo_workers.proofs.Crossing.{pass_send, three_sync, yard_sync}
use Rattle.ooo_workers.proofs.driving.work_all.Goals as goal

pub for_each_mut-requires-send-T : goal.for_each_mut-requires-send-T
for_each_mut-requires-send-T g c κs within = search (sendable, pass_send) depth 40

pub for_each_mut-requires-sync-F : goal.for_each_mut-requires-sync-F
for_each_mut-requires-sync-F g c κs within = record { shared = (three_sync [] _ _ _ (shr_sync static _ _ yard_sync) (shr_sync static _ _ c.type_bounds.sync-R) (shr_sync static _ _ c.type_bounds.sync-G)).shared }

pub returns : goal.returns
returns g c =
    each_works c.args.passes.now c.for_each_mut.new.s (search rules)
    (λ i d lt. let t = (c.for_each_mut.ensures i d lt).1 in works_at (get_or c.args.passes.now i d) t.argument.now t.after_call.now (get_or c.for_each_mut.new.s i d) t.argument_is t.left t.call)
