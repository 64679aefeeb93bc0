use Rattle.std.proofs.Common.{◌≡◌, drop}
use Rattle.ooo_elaborate.specs.Ends.{lined_hold}
use Rattle.ooo_elaborate.proofs.ends.hold_lined.Given as goal

abbrev pub invariant-parts : goal.invariant-parts
invariant-parts l = lined_hold l.process (drop l.part-index l.parts) l.all ≡ lined_hold l.process l.parts l.initial.all
