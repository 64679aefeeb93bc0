use Rattle.ooo_schedules.specs.Tables.{program}
use Rattle.ooo_schedules.proofs.Sequence.{goes_on}
use Rattle.ooo_schedules.proofs.law.every_step.Goals as goal

pub returns : goal.returns
returns g c = λ t s starts. goes_on (program t) s starts
