-- What contracts see of a pass, and what the calls do to it.
use Rattle.std.specs.Prelude.{◌≡◌, ◌⊎◌, ⊤, false, ℕ, zero, suc, slice_get, List, [], ◌∷◌, ◌++◌, Option, Some, None, Result, Ok, Err}
use Rattle.std.specs.declared.alloc.AllocError.{AllocError}
use Rattle.atomic_table.specs.Seated.{TableId}
use Rattle.ooo_interp.specs.Jobs.{Fits}
use Rattle.ooo_interp.specs.declared.job.Done.{Done}
use Rattle.ooo_interp.specs.declared.job.Job.{Job}
use Rattle.ooo_dispatch.specs.declared.step.Step.{Step}
use Rattle.ooo_dispatch.specs.declared.step.Step.TheVariants.{Abandon, Commit, Dispatch}
use Rattle.ooo_dispatch.specs.Steps.{IsLost}
use Rattle.ooo_fronts.specs.Choices.{IsPick}
use Rattle.ooo_board.specs.Boards.{HandsOut, IsDoneFor, IsOver, ReadsAsInRun, Shown, rules, state, with_step}
use Rattle.ooo_workers.specs.declared.view.View.{View}
use Rattle.ooo_workers.specs.declared.turn.Turn.{Turn}
use Rattle.ooo_workers.specs.declared.turn.Turn.TheVariants as turn
use Rattle.ooo_workers.specs.declared.turn.Worked.{Worked}
use Rattle.ooo_workers.specs.declared.turn.Worked.TheVariants as worked
use Rattle.ooo_workers.specs.Boards.{Begins, HasEnded, HasLawful, IsGivenOn, IsQuiet, NoneGivenUp}
use Rattle.ooo_workers.specs.Rule.{stepped, total}

-- what is seen of a pass: its yard's table, its number, the board as it was seen last, the steps that it made, and the process
-- whose job is out with it
pub record PassIs : Type 0 where
  pub yard : TableId
  pub number : ℕ
  pub known : Shown
  pub made : List Step
  pub out : Option ℕ

abbrev pub pass_of : TableId → View → PassIs
pass_of id v = record { yard = id; number = v.number; known = v.known; made = v.made; out = v.out }

-- ---- one call

-- no step was made; more of the schedule may have been seen
pub record Rested (p q : PassIs) : Type 0 where
  pub yard : q.yard ≡ p.yard
  pub number : q.number ≡ p.number
  pub begins : Begins p.known q.known
  pub made : q.made ≡ p.made
  pub out : q.out ≡ p.out
  -- what a job that is out gives is still taken
  pub job : (done : Done) → p.out ≡ Some done.process → IsGivenOn p.known done → IsGivenOn q.known done

-- one step was made, on the board as it was then
pub record Stepped (x : Step) (out : Option ℕ) (p q : PassIs) : Type 0 where
  pub yard : q.yard ≡ p.yard
  pub number : q.number ≡ p.number
  pub before : Shown
  pub begins : Begins p.known before
  -- what is seen begins with what was seen
  pub goes_on : Begins p.known q.known
  pub known : q.known ≡ with_step before x
  pub made : q.made ≡ p.made ++ x ∷ []
  pub out_is : q.out ≡ out

-- the job is that of the process which `pick` gives on the board. It reads what the activation of that process and number sees in
-- the sequential run, if that has it, and what is done for it can be committed.
pub record IsJobOn (b : Shown) (job : Job) : Type 0 where
  pub pick : IsPick (rules b) b.tables.advance (state b).board (Some job.process)
  pub hands : HandsOut b job.process job
  pub reads : ReadsAsInRun (with_step b (Dispatch job.process))
  pub gives : (done : Done) → IsDoneFor job done → IsGivenOn (with_step b (Dispatch job.process)) done

-- a job was had
pub record Dispatched (p q : PassIs) (job : Job) : Type 0 where
  pub step : Stepped (Dispatch job.process) (Some job.process) p q
  pub is : IsJobOn step.before job

-- what a call had: a job; or none, since the board is over, or a job was abandoned
abbrev pub TurnIs : PassIs → PassIs → Turn → Type 0
TurnIs p q (turn.Job job) = Dispatched p q job
TurnIs p q turn.Over = Rested p q × HasEnded q.known
TurnIs p q turn.Lost = Rested p q × IsLost (state q.known)

-- a turn was had, or none, with no step made
abbrev pub MayHaveTurned : PassIs → PassIs → Option Turn → Type 0
MayHaveTurned p q None = Rested p q
MayHaveTurned p q (Some t) = TurnIs p q t

-- the job of process n was committed, and then a turn was had, or none
pub record GaveAndTook (n : ℕ) (had : Option Turn) (p q : PassIs) : Type 0 where
  pub between : PassIs
  pub gave : Stepped (Commit n) None p between
  pub took : MayHaveTurned between q had

-- ---- the same for a view that holds the turn, and the view after

abbrev pub Acted : View → View → Turn → Type 0
Acted v w (turn.Job job) = (w ≡ stepped v (Dispatch job.process)) × IsJobOn v.known job × Begins v.known (with_step v.known (Dispatch job.process))
Acted v w turn.Over = (w ≡ record v { turn = false }) × HasEnded v.known
Acted v w turn.Lost = (w ≡ record v { turn = false }) × IsLost (state v.known)

-- why no job may be had
abbrev pub EndIs : Shown → Turn → Type 0
EndIs b (turn.Job job) = ⊥
EndIs b turn.Over = IsOver b
EndIs b turn.Lost = IsLost (state b)

-- whose job is out after one look at the board
abbrev pub out_from : Result (Option Turn) AllocError → Option ℕ
out_from (Ok (Some (turn.Job job))) = Some job.process
out_from _ = None

-- ---- making and closing

-- the passes of a yard, each at the place of its number, before any of them did anything
abbrev pub made_by : List Step → (n : ℕ) → List Step
made_by steps zero = steps
made_by steps (suc n) = []

abbrev pub fresh : TableId → Shown → (n : ℕ) → PassIs
fresh id b n = record { yard = id; number = n; known = b; made = made_by b.schedule n; out = None }

-- m passes from number n on
abbrev pub fresh_from : TableId → Shown → (n m : ℕ) → List PassIs
fresh_from id b n zero = []
fresh_from id b n (suc m) = fresh id b n ∷ fresh_from id b (suc n) m

-- passes in the order of their numbers from n on, each of this yard and with no job out
abbrev pub Ranged : TableId → (n : ℕ) → List PassIs → Type 0
Ranged id n [] = ⊤
Ranged id n (p ∷ ps) = (p.yard ≡ id) × (p.number ≡ n) × (p.out ≡ None) × Ranged id (suc n) ps

-- the board that the yard leaves behind
pub record Closes (passes : List PassIs) (b : Shown) : Type 0 where
  -- lawful steps lead to it from what each pass had seen
  pub begins : (k : ℕ) (p : PassIs) → slice_get passes k ≡ Some p → Begins p.known b
  -- each step stands in it as often as in the passes' lists
  pub counts : (f : Step → ℕ) → total (λ p. total f p.made) passes ≡ total f b.schedule
  pub quiet : IsQuiet b
  -- where a pass had seen the board's end, it is over
  pub over : (k : ℕ) (p : PassIs) → slice_get passes k ≡ Some p → HasEnded p.known → IsOver b
  -- where the steps that a pass had seen are lawful, all are
  pub lawful : (k : ℕ) (p : PassIs) → slice_get passes k ≡ Some p → HasLawful p.known → HasLawful b

-- ---- work

-- steps were made, and none of them gave a job up
pub record Goes (p q : PassIs) : Type 0 where
  pub yard : q.yard ≡ p.yard
  pub number : q.number ≡ p.number
  pub begins : Begins p.known q.known
  pub more : List Step
  pub made : q.made ≡ p.made ++ more
  pub clean : NoneGivenUp more

-- the same, and then one gave a job up
pub record GoesAndAbandons (p q : PassIs) : Type 0 where
  pub yard : q.yard ≡ p.yard
  pub number : q.number ≡ p.number
  pub begins : Begins p.known q.known
  pub more : List Step
  pub process : ℕ
  pub made : q.made ≡ p.made ++ (more ++ Abandon process ∷ [])
  pub clean : NoneGivenUp more

-- why work ended, with no job out
abbrev pub EndedBy : PassIs → PassIs → Worked → Type 0
EndedBy p q worked.Over = Goes p q × HasEnded q.known
EndedBy p q worked.Lost = Goes p q × IsLost (state q.known)
EndedBy p q worked.NoMemory = Goes p q ⊎ GoesAndAbandons p q

pub record WorkedIs (p q : PassIs) (w : Worked) : Type 0 where
  pub idle : q.out ≡ None
  pub ended : EndedBy p q w

-- the job, if there is one, is out with the pass, and what is done for it can be committed
abbrev pub Has : PassIs → Option Job → Type 0
Has p None = p.out ≡ None
Has p (Some job) = (p.out ≡ Some job.process) × Fits job × ((done : Done) → IsDoneFor job done → IsGivenOn p.known done)

-- the job that was had, or why work ends
abbrev pub job_or_end : Turn → Result (Option Job) Worked
job_or_end (turn.Job job) = Ok (Some job)
job_or_end turn.Over = Err worked.Over
job_or_end turn.Lost = Err worked.Lost

-- a round of work: it goes on, with a job or none, or it ends
abbrev pub RoundIs : PassIs → PassIs → Result (Option Job) Worked → Type 0
RoundIs p q (Ok had) = Goes p q × Has q had
RoundIs p q (Err w) = WorkedIs p q w

-- ---- many workers

abbrev pub IsIdle : TableId → PassIs → Type 0
IsIdle id p = (p.yard ≡ id) × (p.out ≡ None)

abbrev pub WorksTo : PassIs → PassIs → Type 0
WorksTo p q = (w : Worked) × WorkedIs p q w

-- each pass of a list worked
abbrev pub EachWorks : List PassIs → List PassIs → Type 0
EachWorks [] [] = ⊤
EachWorks [] (y ∷ ys) = ⊥
EachWorks (x ∷ xs) [] = ⊥
EachWorks (x ∷ xs) (y ∷ ys) = WorksTo x y × EachWorks xs ys
