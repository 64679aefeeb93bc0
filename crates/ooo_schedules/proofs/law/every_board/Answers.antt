use Rattle.std.proofs.Common.{inl, inr, ⊎_elim}
use Rattle.ooo_schedules.specs.Tables.{Tables, program}
use Rattle.ooo_schedules.specs.Program.{Sound}
use Rattle.ooo_schedules.specs.Sequence.{Starts}
use Rattle.ooo_schedules.specs.Boards.{BoardsOf}
use Rattle.ooo_schedules.proofs.Boards.{never_stuck, not_for_ever, over_or_open, run_lawful}
use Rattle.ooo_schedules.proofs.Sequence.{sequential_run}
use Rattle.ooo_schedules.proofs.law.every_board.Goals as goal

boards : {R : Type 0} (t : Tables R) → Sound (program t) → Starts (program t) → BoardsOf t
boards t s starts = record {
  never_stuck = λ st l quiet. never_stuck (program t) s starts st l quiet;
  over_or_open = λ st l quiet. ⊎_elim (λ o. inl o) (λ o. inr (record { process = o.process; front = o.front; is = o.is; least = o.least; uncut = o.uncut; below = o.below; numbered = o.numbered })) (over_or_open (program t) s starts st l quiet);
  not_for_ever = λ st l q. not_for_ever (program t) s starts st l q;
  run = λ zs r. let q = sequential_run (program t) s starts zs r in (run_lawful (program t) s starts zs q.run q.kept, q.over);
}

pub returns : goal.returns
returns g c = λ t. boards t
