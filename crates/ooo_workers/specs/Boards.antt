-- Boards that several callers share: what a board was once, whose jobs are out on it, and when it goes on no more.
use Rattle.std.specs.Prelude.{◌≡◌, ⊤, ℕ, List, [], ◌∷◌, ◌++◌, Option, None, Some}
use Rattle.ooo_interp.specs.declared.job.Done.{Done}
use Rattle.ooo_dispatch.specs.declared.step.Step.{Step}
use Rattle.ooo_dispatch.specs.declared.step.Step.TheVariants.{Abandon, Commit, Dispatch}
use Rattle.ooo_dispatch.specs.Steps.{AreLawful, IsLawfulStep, job_of, nothing_done}
use Rattle.ooo_fronts.specs.Choices.{IsPick}
use Rattle.ooo_board.specs.Boards.{IsOver, Shown, rules, state}
use Rattle.ooo_board.specs.Jobs.{Gives}

-- ---- steps

-- the board after further steps
abbrev pub with_steps : Shown → List Step → Shown
with_steps b steps = record b { schedule = b.schedule ++ steps }

-- the step is lawful on the board
abbrev pub IsLawfulOn : Shown → Step → Type 0
IsLawfulOn b x = IsLawfulStep (rules b) b.tables.advance (state b) x

-- each of the steps is, on the board after those before it
abbrev pub AreLawfulOn : Shown → List Step → Type 0
AreLawfulOn b steps = AreLawful (rules b) b.tables.advance (state b) steps

-- all steps of the board are lawful
abbrev pub HasLawful : Shown → Type 0
HasLawful b = AreLawful (rules b) b.tables.advance (nothing_done (rules b)) b.schedule

-- the process that a step is of
abbrev pub process_of : Step → ℕ
process_of (Dispatch p) = p
process_of (Commit p) = p
process_of (Abandon p) = p

-- none of the steps gives a job up
abbrev pub NoneGivenUp : List Step → Type 0
NoneGivenUp [] = ⊤
NoneGivenUp (Dispatch p ∷ steps) = NoneGivenUp steps
NoneGivenUp (Commit p ∷ steps) = NoneGivenUp steps
NoneGivenUp (Abandon p ∷ steps) = ⊥

-- ---- what a board was

-- the board was k once: lawful steps led from k to it
pub record Begins (k b : Shown) : Type 0 where
  pub more : List Step
  pub lawful : AreLawfulOn k more
  pub is : b ≡ with_steps k more

-- ---- jobs

-- how many jobs of process p are out: one, or none
abbrev pub flag : {A : Type 0} → Option A → ℕ
flag None = 0
flag (Some x) = 1

abbrev pub jobs_out : Shown → (p : ℕ) → ℕ
jobs_out b p = flag (job_of (rules b) (state b) p)

-- no job is out
abbrev pub IsQuiet : Shown → Type 0
IsQuiet b = (p : ℕ) → job_of (rules b) (state b) p ≡ None

-- it is what the job out of its process gives
abbrev pub IsGivenOn : Shown → Done → Type 0
IsGivenOn b done = Gives (rules b) (state b) done

-- ---- the end

-- the board is over, and no process may be dispatched
pub record HasEnded (b : Shown) : Type 0 where
  pub over : IsOver b
  pub none : IsPick (rules b) b.tables.advance (state b).board None
