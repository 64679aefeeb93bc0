use Rattle.ooo_schedules.specs.Model.{Laws}
use Rattle.ooo_schedules.specs.Tables.{Tables, board, program}
use Rattle.ooo_schedules.specs.Program.{Sound}
use Rattle.ooo_schedules.specs.Sequence.{Starts}
use Rattle.ooo_schedules.specs.Reports.{ReportOf}
use Rattle.ooo_schedules.proofs.Over.{board_report}
use Rattle.ooo_schedules.proofs.Programs.{program_laws}
use Rattle.ooo_schedules.proofs.Sequence.{sequential_run}
use Rattle.ooo_schedules.proofs.Endings.{board_ends}
use Rattle.ooo_schedules.proofs.Reports.{is_run, runs_next}
use Rattle.ooo_schedules.proofs.law.every_report.Goals as goal

report : {R : Type 0} (t : Tables R) → Sound (program t) → Starts (program t) → ReportOf t
report t s starts =
    let l : Laws (board t) = program_laws (program t) s in
    record {
      reported = λ zs r st h over. let q = sequential_run (program t) s starts zs r in is_run (program t) s st h over zs q.run (board_report (board t) l zs q.run q.kept q.over st h over);
      next = λ zs r st h over e x. let q = sequential_run (program t) s starts zs r in runs_next (program t) s st h over e (board_ends (program t) s zs q.run q.kept q.over st h over e x);
    }

pub returns : goal.returns
returns g c = λ t. report t
