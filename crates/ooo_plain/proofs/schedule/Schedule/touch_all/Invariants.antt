use Rattle.std.specs.Prelude.{take}
use Rattle.ooo_plain.specs.Schedule.{Touched}
use Rattle.ooo_plain.proofs.schedule.Schedule.touch_all.Given as goal

abbrev pub invariant-loop-e : goal.invariant-loop-e
invariant-loop-e l = Touched (take l.e-index l.events) l.bank l.now l.fn.self l.self
