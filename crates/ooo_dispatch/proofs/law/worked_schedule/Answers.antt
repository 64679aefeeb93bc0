use Rattle.ooo_dispatch.proofs.Worked.{worked}
use Rattle.ooo_dispatch.proofs.law.worked_schedule.Goals as goal

pub returns : goal.returns
returns c = worked
