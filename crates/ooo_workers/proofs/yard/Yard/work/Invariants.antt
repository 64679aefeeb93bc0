use Rattle.ooo_workers.specs.Passes.{Goes, Has}
use Rattle.ooo_workers.proofs.yard.Yard.work.Given as goal

abbrev pub invariant-loop : goal.invariant-loop
invariant-loop g l = Goes l.initial.pass l.pass × Has l.pass l.had
