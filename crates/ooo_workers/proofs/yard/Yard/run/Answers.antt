use Rattle.ooo_workers.proofs.Turns.{refused_then}
use Rattle.ooo_workers.proofs.yard.Yard.run.Goals as goal

pub returns-clause-refused : goal.returns-clause-refused
returns-clause-refused g c = refused_then c.args.pass.now c.give_and_take_one.new.pass c.abandon-in-Err.new.pass c.args.job.process c.requires.has.0 c.in-Err.ensures.refused.0 c.abandon-in-Err.ensures
