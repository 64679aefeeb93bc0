use Rattle.ooo_plain.specs.Starting.{AreBegun}
use Rattle.ooo_plain.proofs.starting.begin.Given as goal

abbrev pub invariant-loop-p : goal.invariant-loop-p
invariant-loop-p l = AreBegun l.design l.p l.schedule
