use Rattle.std.specs.Prelude.{take}
use Rattle.ooo_plain.specs.Engine.{Refreshed}
use Rattle.ooo_plain.proofs.engine.Engine.refresh.Given as goal

abbrev pub invariant-loop-effect : goal.invariant-loop-effect
invariant-loop-effect l = Refreshed l.design (take l.effect-index l.effects) l.fn.self l.self
