-- Nobody so far.
use Rattle.std.proofs.Common.{◌<◌}
use Rattle.ooo_fronts.specs.declared.front.Hold.{Hold}
use Rattle.ooo_fronts.specs.Holds.{IsHold}
use Rattle.ooo_fronts.proofs.fronts.first_hold.Given as goal

abbrev pub invariant-loop-q : goal.invariant-loop-q
invariant-loop-q l = (h : Hold) → h.front < l.q → IsHold l.tables l.fronts l.p h → ⊥
