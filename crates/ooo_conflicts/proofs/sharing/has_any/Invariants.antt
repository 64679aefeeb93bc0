-- None of the numbers so far is there.
use Rattle.std.proofs.Common.{take}
use Rattle.ooo_conflicts.specs.Clashes.{Share}
use Rattle.ooo_conflicts.proofs.sharing.has_any.Given as goal

abbrev pub invariant-loop-n : goal.invariant-loop-n
invariant-loop-n l = Share (take l.n-index l.numbers) l.ascending → ⊥
