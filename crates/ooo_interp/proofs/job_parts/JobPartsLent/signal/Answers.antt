-- What the ports show of a signal they show with whatever values of fifos.
use Rattle.ooo_interp.specs.Ports.{values_in}
use Rattle.ooo_interp.proofs.job_parts.JobPartsLent.signal.Goals as goal

pub returns-clause-value : goal.returns-clause-value
returns-clause-value c = c.signal.ensures.value (values_in c.args.self.now.fifos.seen.items)

pub returns-clause-changed : goal.returns-clause-changed
returns-clause-changed c = c.signal.ensures.changed (values_in c.args.self.now.fifos.seen.items)
