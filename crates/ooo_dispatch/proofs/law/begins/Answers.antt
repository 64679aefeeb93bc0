use Rattle.ooo_schedules.specs.Model.{empty}
use Rattle.ooo_dispatch.proofs.law.begins.Goals as goal

pub returns : goal.returns
returns c = λ r. empty
