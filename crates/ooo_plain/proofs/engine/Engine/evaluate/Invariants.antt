use Rattle.std.specs.Prelude.{◌-◌, length}
use Rattle.ooo_plain.specs.Cycles.{HaveTurns}
use Rattle.ooo_plain.proofs.engine.Engine.evaluate.Given as goal

abbrev pub invariant-turns : goal.invariant-turns
invariant-turns l = HaveTurns l.design l.statements l.next l.fn.self l.self

abbrev pub decreases-turns : goal.decreases-turns
decreases-turns l = length l.design.processes - l.next
