use Rattle.std.proofs.Common.{ℕ, List, None, ap}
use Rattle.ooo_plain.specs.declared.schedule.Awaited.{Awaited}
use Rattle.ooo_plain.proofs.Filling.{filled_more}
use Rattle.ooo_plain.proofs.schedule.idle_processes.Goals as goal

pub loop-process-preserved : goal.loop-process-preserved
loop-process-preserved c =
    filled_more c.loop-process.awaited.items _ _ _ _ c.loop-process.invariant (ap (λ (es : List ℕ). let a : Awaited = record { events = es; timeout = None } in a) c.new.ensures) c.in_ok-push.ensures.items
