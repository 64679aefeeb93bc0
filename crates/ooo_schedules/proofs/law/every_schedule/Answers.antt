use Rattle.std.proofs.Common.{◌≡◌, ◌⊎◌, inl, inr, Some}
use Rattle.ooo_schedules.specs.Model.{Laws, Front, front_of, NotAfter}
use Rattle.ooo_time.specs.declared.stamp.Stamp.{Stamp}
use Rattle.ooo_schedules.specs.Tables.{Tables, program, board, EveryScheduleOf, CommitWalks}
use Rattle.ooo_schedules.specs.Program.{Sound}
use Rattle.ooo_schedules.proofs.Walks.{good, no_conflict, walks, Walked, was, reached}
use Rattle.ooo_schedules.proofs.Agree.{job_reads}
use Rattle.ooo_schedules.proofs.Over.{board_report}
use Rattle.ooo_schedules.proofs.Steps.{apart, jobs_apart, stays_commit, same_reads, no_dead_end}
use Rattle.ooo_schedules.proofs.Programs.{program_laws}
use Rattle.ooo_schedules.proofs.Sequence.{sequential_run}
use Rattle.ooo_schedules.proofs.Endings.{board_ends}
use Rattle.ooo_schedules.specs.Sequence.{Starts}
use Rattle.ooo_schedules.proofs.law.every_schedule.Goals as goal

walks_of : {R : Type 0} (t : Tables R) → Laws (board t) → CommitWalks t
walks_of t l st h j i r g e = at (walks (board t) l st (good (board t) l st h) j i r g e)
  where
    at : Walked (board t) l st j r g → ((f : Front Stamp) × (front_of (board t) st r ≡ Some f) × (f.segment ≡ g.segment) × NotAfter (board t) f.stamp g.stamp) ⊎ (board t).LeadsTo j.segment j.stamp g.segment g.stamp
    at (was f k s n) = inl (f, k, s, n)
    at (reached w) = inr w

every : {R : Type 0} (t : Tables R) → Sound (program t) → Starts (program t) → EveryScheduleOf t
every t s starts =
    let l : Laws (board t) = program_laws (program t) s in
    record {
      job_reads = λ zs r st h. job_reads (board t) l zs (sequential_run (program t) s starts zs r).run st h;
      board_report = λ zs r st h over. let q = sequential_run (program t) s starts zs r in board_report (board t) l zs q.run q.kept q.over st h over;
      same_ending = λ zs r st h over e x. let q = sequential_run (program t) s starts zs r in board_ends (program t) s zs q.run q.kept q.over st h over e x;
      no_conflict = λ st h x y i d n e. no_conflict (board t) l st (good (board t) l st h) x i y d n e;
      walks = walks_of t l;
      stays_allowed = λ st h j i p f a. (stays_commit (board t) l st (good (board t) l st h) j i p f a, same_reads (board t) l st (good (board t) l st h) j i p f a);
      moves = λ st h p f a j i. apart (board t) l st (good (board t) l st h) p f a j i;
      jobs_apart = λ st h j k i i' n c. jobs_apart (board t) l st (good (board t) l st h) j k i i' n c;
      own_before = λ st h j y i k e. ((good (board t) l st h).follows j i).later y k e;
      no_dead_end = λ st h e p f k least w n. no_dead_end (board t) l st (good (board t) l st h) p f e k least w n;
    }

pub returns : goal.returns
returns g c = λ t. every t
