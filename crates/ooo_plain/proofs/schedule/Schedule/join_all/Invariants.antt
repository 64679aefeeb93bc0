use Rattle.std.specs.Prelude.{take}
use Rattle.ooo_plain.specs.Schedule.{Joined}
use Rattle.ooo_plain.proofs.schedule.Schedule.join_all.Given as goal

abbrev pub invariant-loop-e : goal.invariant-loop-e
invariant-loop-e l = Joined l.p (take l.e-index l.events) l.fn.self l.self
