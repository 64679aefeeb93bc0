use Rattle.ooo_schedules.specs.Tables.{program}
use Rattle.ooo_schedules.proofs.Finals.{comes_to_end}
use Rattle.ooo_schedules.proofs.law.every_ending.Goals as goal

pub returns : goal.returns
returns g c = λ t s. comes_to_end (program t) s
