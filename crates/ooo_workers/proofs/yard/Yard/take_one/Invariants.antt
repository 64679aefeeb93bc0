use Rattle.ooo_workers.specs.Passes.{Rested}
use Rattle.ooo_workers.proofs.yard.Yard.take_one.Given as goal

abbrev pub invariant-loop : goal.invariant-loop
invariant-loop g l = Rested l.initial.pass l.pass
