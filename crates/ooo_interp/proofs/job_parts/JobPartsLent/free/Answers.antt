-- What its port shows, with the values that the job sees.
use Rattle.std.proofs.Common.{refl, rules}
use Rattle.ooo_interp.specs.Ports.{values_in}
use Rattle.ooo_interp.proofs.job_parts.JobPartsLent.free.Goals as goal

pub returns-in-Some : goal.returns-in-Some
returns-in-Some c = rw (c.in-Some.ensures (values_in c.args.self.now.fifos.seen.items)) (search rules)

pub returns-in-None : goal.returns-in-None
returns-in-None c = rw (c.in-None.ensures (values_in c.args.self.now.fifos.seen.items)) refl
