-- A board as its callers see it, and what its calls do.
use Rattle.std.specs.Prelude.{◌≡◌, ◌≢◌, ◌⊎◌, ℕ, ◌<◌, List, [], ◌∷◌, ◌++◌, Bool, true, false, Option, None, Some, length, filter}
use Rattle.ooo_time.specs.declared.stamp.Stamp.{Stamp}
use Rattle.ooo_code.specs.Outcomes.{View}
use Rattle.ooo_code.specs.declared.design.Design.{Design}
use Rattle.ooo_code.specs.declared.limits.Limits.{Limits}
use Rattle.ooo_interp.specs.Jobs.{Fits, IsOf, IsPartOf, done_on, job_on}
use Rattle.ooo_interp.specs.declared.job.Done.{Done}
use Rattle.ooo_interp.specs.declared.job.Job.{Job}
use Rattle.ooo_tables.specs.declared.tables.Tables.{Tables}
use Rattle.ooo_meaning.specs.Runs.{IsSequentialRun}
use Rattle.ooo_meaning.specs.Sequence.{Result}
use Rattle.ooo_schedules.specs.Model.{Front, job, last}
use Rattle.ooo_dispatch.specs.declared.step.Step.{Step}
use Rattle.ooo_dispatch.specs.declared.step.Step.TheVariants.{Dispatch}
use Rattle.ooo_dispatch.specs.Boards.{IsFront, IsOverBoard, model}
use Rattle.ooo_dispatch.specs.Least.{HoldsUp, IsBelowCut, rules_of}
use Rattle.ooo_dispatch.specs.Rules.{Rules}
use Rattle.ooo_dispatch.specs.Scheduler.{JobsRead}
use Rattle.ooo_dispatch.specs.Steps.{IsLawfulStep, IsLost, Replay}
use Rattle.ooo_time.specs.Delays.{advanced}
use Rattle.ooo_fronts.specs.declared.front.Hold.{Hold}
use Rattle.ooo_fronts.specs.declared.choice.State.{State}
use Rattle.ooo_fronts.specs.declared.choice.State.TheVariants.{Waiting, Running, Abandoned}
use Rattle.ooo_board.specs.Cores.{after}
use Rattle.ooo_board.specs.Jobs.{Gives, IsJobOf}

-- a board is seen as its design with the limits and tables, and the steps that were made
pub record Shown : Type 0 where
  pub design : Design
  pub limits : Limits
  pub tables : Tables
  pub schedule : List Step

-- its rules
abbrev pub rules : Shown → Rules
rules b = rules_of b.design b.limits b.tables

-- what its steps lead to
abbrev pub state : (b : Shown) → Replay (rules b)
state b = after b.design b.limits b.tables b.schedule

-- the same board after a further step
abbrev pub with_step : Shown → Step → Shown
with_step b step = record b { schedule = b.schedule ++ step ∷ [] }

-- process p may be dispatched
abbrev pub MayBeDispatched : Shown → (p : ℕ) → Type 0
MayBeDispatched b p = IsLawfulStep (rules b) b.tables.advance (state b) (Dispatch p)

-- ---- jobs

-- the job of the next activation of process p, at its front
pub record HandsOut (b : Shown) (p : ℕ) (out : Job) : Type 0 where
  pub front : Front Stamp
  pub is : IsFront (rules b) (state b).board p front
  pub is_job : IsJobOf (rules b) (job (model (rules b)) (state b).board p front) out
  pub fits : Fits out

-- what is done for a job is what it gives on each view of all variables that it is part of
pub record IsDoneFor (job : Job) (done : Done) : Type 0 where
  pub of : IsOf job done
  pub does : (v : View) → IsPartOf job v → job_on job v ≡ done_on done v

-- each job and each committed activation reads what that of the sequential run reads
abbrev pub ReadsAsInRun : Shown → Type 0
ReadsAsInRun b = (result : Result) → IsSequentialRun b.design b.limits result → JobsRead (rules b) (state b).board result

-- what can be committed at the old board for another process than p can be at the new one
abbrev pub LeavesOthers : (old new : Shown) → (p : ℕ) → Type 0
LeavesOthers old new p = (done : Done) → done.process ≢ p → Gives (rules old) (state old) done → Gives (rules new) (state new) done

-- ---- how many run

abbrev pub is_running : State → Bool
is_running Running = true
is_running Waiting = false
is_running Abandoned = false

abbrev pub running_in : List State → ℕ
running_in states = length (filter is_running states)

-- some job was abandoned
abbrev pub some_of : List ℕ → Bool
some_of [] = false
some_of (p ∷ ps) = true

-- ---- who is held up, and when all is over

-- process p waits, with a front below the cut and the limit of deltas
pub record CouldRunAt (b : Shown) (p : ℕ) (f : Front Stamp) : Type 0 where
  pub idle : last p (state b).board.out ≡ None
  pub front : IsFront (rules b) (state b).board p f
  pub below_cut : IsBelowCut (rules b) (state b).board f.stamp p
  pub below_limit : f.stamp.delta < b.limits.deltas

abbrev pub CouldRun : Shown → (p : ℕ) → Type 0
CouldRun b p = (f : Front Stamp) × CouldRunAt b p f

-- a clash holds process p up by the rule, and none before it: of a lower process, or of the same one by a lower segment
pub record IsFirstHolder (b : Shown) (p : ℕ) (h : Hold) : Type 0 where
  pub could : CouldRun b p
  pub holding : Front Stamp
  pub is : IsFront (rules b) (state b).board h.front holding
  pub other : h.front ≢ p
  pub holds : HoldsUp (rules b) b.tables.advance holding p could.0
  pub segment : holds.segment ≡ h.segment
  pub at : advanced holding.stamp holds.delay ≡ h.at
  pub first :
      (q : ℕ) (g : Front Stamp) → q ≢ p → IsFront (rules b) (state b).board q g → (held : HoldsUp (rules b) b.tables.advance g p could.0) →
      (q < h.front) ⊎ (q ≡ h.front) × (held.segment < h.segment) → ⊥

-- it is held up by such a clash; or it isn't one that could run but for clashes, or it may be dispatched
abbrev pub IsHolder : Shown → (p : ℕ) → Option Hold → Type 0
IsHolder b p None = ¬ IsLost (state b) → CouldRun b p → MayBeDispatched b p
IsHolder b p (Some h) = (¬ IsLost (state b)) × IsFirstHolder b p h

-- no job was abandoned, no process runs, and no front is below the cut
abbrev pub IsOver : Shown → Type 0
IsOver b = (¬ IsLost (state b)) × IsOverBoard (rules b) (state b).board
