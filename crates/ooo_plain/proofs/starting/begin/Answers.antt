use Rattle.std.proofs.Common.{length, subst, ap}
use Rattle.ooo_plain.specs.Schedule.{IsNew}
use Rattle.ooo_plain.proofs.Beginning.{begun_none}
use Rattle.ooo_plain.proofs.starting.begin.Goals as goal

pub loop-p-init : goal.loop-p-init
loop-p-init c =
    let s = c.in_ok-schedule.schedule in
    begun_none c.args.design.now s
    (subst (λ n. IsNew n (length c.args.design.now.events) s) (ap length c.as_slice-processes.ensures)
    (subst (λ n. IsNew (length c.as_slice-processes.result.now) n s) c.len.ensures c.in_ok-schedule.ensures))
