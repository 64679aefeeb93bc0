use Rattle.ooo_plain.specs.Running.{Reaches}
use Rattle.ooo_plain.specs.Cycles.{cycles_after}
use Rattle.ooo_plain.proofs.run.run_on.Given as goal

abbrev pub invariant-cycles : goal.invariant-cycles
invariant-cycles l = Reaches l.design l.limits l.engine

abbrev pub decreases-cycles : goal.decreases-cycles
decreases-cycles l = cycles_after l.limits l.engine.stamp
