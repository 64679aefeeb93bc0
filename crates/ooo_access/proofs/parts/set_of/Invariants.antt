-- The set has the numbers told so far.
use Rattle.std.proofs.Common.{take}
use Rattle.ooo_access.proofs.NumberLemmas.{HasTold}
use Rattle.ooo_access.proofs.parts.set_of.Given as goal

abbrev pub invariant-loop-one : goal.invariant-loop-one
invariant-loop-one l = HasTold l.part (take l.one-index l.told) l.numbers
