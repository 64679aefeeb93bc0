-- The set has the numbers so far.
use Rattle.std.proofs.Common.{take}
use Rattle.ooo_access.proofs.NumberLemmas.{Has}
use Rattle.ooo_access.proofs.parts.add_all.Given as goal

abbrev pub invariant-loop-n : goal.invariant-loop-n
invariant-loop-n l = Has l.fn.set l.set (take l.n-index l.numbers)
