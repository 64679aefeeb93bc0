-- The set has the triggers of the nodes so far.
use Rattle.std.proofs.Common.{take}
use Rattle.ooo_access.specs.Told.{triggers_of}
use Rattle.ooo_access.proofs.NumberLemmas.{Has}
use Rattle.ooo_access.proofs.waiting.add_triggers.Given as goal

abbrev pub invariant-loop-n : goal.invariant-loop-n
invariant-loop-n l = Has l.fn.waited l.waited (triggers_of l.design (take l.n-index l.nodes))
