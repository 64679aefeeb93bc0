-- The set has the events so far.
use Rattle.std.proofs.Common.{take}
use Rattle.ooo_conflicts.proofs.SetLemmas.{Has}
use Rattle.ooo_conflicts.proofs.called.add_all.Given as goal

abbrev pub invariant-loop-e : goal.invariant-loop-e
invariant-loop-e l = Has l.fn.set l.set (take l.e-index l.events)
