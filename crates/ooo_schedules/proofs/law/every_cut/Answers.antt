use Rattle.ooo_schedules.specs.Tables.{program, board}
use Rattle.ooo_schedules.proofs.Cuts.{cut_stays_commit, cut_stays_dispatch}
use Rattle.ooo_schedules.proofs.Programs.{program_laws}
use Rattle.ooo_schedules.proofs.law.every_cut.Goals as goal

pub returns : goal.returns
returns g c = λ t s. record {
  dispatches = λ st h p f a u q i. cut_stays_dispatch (board t) (program_laws (program t) s) st h p f a u q i;
  commits = λ st h j o u q i. cut_stays_commit (board t) (program_laws (program t) s) st h j o u q i;
}
