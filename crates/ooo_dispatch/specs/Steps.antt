-- A schedule: a list of steps, what board it leads to, and when it is lawful.
use Rattle.std.specs.Prelude.{◌≡◌, ℕ, ⊤, List, [], ◌∷◌, Option, Some, None, IsSome, if◌then◌else◌}
use Rattle.ooo_time.specs.declared.stamp.Stamp.{Stamp}
use Rattle.ooo_schedules.specs.Model.{Act, Front, committed, dispatched, front_of, last}
use Rattle.ooo_dispatch.specs.declared.reads.Reads.{Reads}
use Rattle.ooo_dispatch.specs.declared.step.Step.{Step}
use Rattle.ooo_dispatch.specs.declared.step.Step.TheVariants.{Dispatch, Commit, Abandon}
use Rattle.ooo_dispatch.specs.Boards.{Board, model}
use Rattle.ooo_dispatch.specs.Least.{Advance, MayRun}
use Rattle.ooo_dispatch.specs.Rules.{Rules, has}

-- the board after some steps, and the processes whose jobs were abandoned: those stay out
pub record Replay (r : Rules) : Type 0 where
  pub board : Board r
  pub abandoned : List ℕ

-- nothing was done
abbrev pub nothing_done : (r : Rules) → Replay r
nothing_done r = record { board = record { log = []; out = [] }; abandoned = [] }

-- some job was abandoned
abbrev pub IsLost : {r : Rules} → Replay r → Type 0
IsLost s = s.abandoned ≡ [] → ⊥

-- the job of a process that runs
abbrev pub job_of : (r : Rules) → Replay r → (p : ℕ) → Option (Act Stamp Reads)
job_of r s p = if has s.abandoned p then None else last p s.board.out

-- ---- what a step does

-- process p is dispatched at its front, if it has one
abbrev pub dispatched_at : (r : Rules) → Board r → (p : ℕ) → Option (Front Stamp) → Board r
dispatched_at r b p None = b
dispatched_at r b p (Some f) = dispatched (model r) b p f

-- a job is committed, if there is one
abbrev pub committed_as : (r : Rules) → Board r → Option (Act Stamp Reads) → Board r
committed_as r b None = b
committed_as r b (Some j) = committed (model r) b j

abbrev pub after_step : (r : Rules) → Replay r → Step → Replay r
after_step r s (Dispatch p) = record { board = dispatched_at r s.board p (front_of (model r) s.board p); abandoned = s.abandoned }
after_step r s (Commit p) = record { board = committed_as r s.board (job_of r s p); abandoned = s.abandoned }
after_step r s (Abandon p) = record { board = s.board; abandoned = p ∷ s.abandoned }

-- what a list of steps leads to
abbrev pub replayed : (r : Rules) → Replay r → List Step → Replay r
replayed r s [] = s
replayed r s (step ∷ steps) = replayed r (after_step r s step) steps

-- ---- when it is lawful

-- a process that is allowed may be dispatched where nothing was abandoned; a job of a process that runs may be committed or abandoned
abbrev pub IsLawfulStep : (r : Rules) → Advance → Replay r → Step → Type 0
IsLawfulStep r least s (Dispatch p) = (s.abandoned ≡ []) × (f : Front Stamp) × MayRun r least s.board p f
IsLawfulStep r least s (Commit p) = IsSome (job_of r s p)
IsLawfulStep r least s (Abandon p) = IsSome (job_of r s p)

-- each step is lawful after those before it
abbrev pub AreLawful : (r : Rules) → Advance → Replay r → List Step → Type 0
AreLawful r least s [] = ⊤
AreLawful r least s (step ∷ steps) = IsLawfulStep r least s step × AreLawful r least (after_step r s step) steps
