-- The rule of the table, and what its steps tell.
use Rattle.std.specs.Prelude.{◌≡◌, ◌≢◌, ⊤, ℕ, zero, suc, ◌+◌, ◌-◌, ◌%◌, ◌<◌, ◌==◌, true, false, List, [], ◌∷◌, ◌++◌, length, slice_index, Option, Some, None, IsSome, if◌then◌else◌}
use mathlib.Core.Option.{some}
use lib.ListN.{get_elem?}
use Rattle.atomic_table.specs.Table.{State, Me}
use Rattle.atomic_table.specs.Table as table
use Rattle.ooo_interp.specs.declared.job.Done.{Done}
use Rattle.ooo_dispatch.specs.declared.step.Step.{Step}
use Rattle.ooo_dispatch.specs.declared.step.Step.TheVariants.{Dispatch, Commit, Abandon}
use Rattle.ooo_dispatch.specs.Steps.{job_of}
use Rattle.ooo_board.specs.Boards.{LeavesOthers, Shown, rules, state, with_step}
use Rattle.ooo_workers.specs.declared.view.View.{View}
use Rattle.ooo_workers.specs.declared.view.Origin.{Origin}
use Rattle.ooo_workers.specs.Boards.{Begins, IsGivenOn, IsLawfulOn, jobs_out, process_of}

-- ---- sums over views

abbrev pub total : {A : Type 0} → (A → ℕ) → List A → ℕ
total f [] = 0
total f (x ∷ xs) = f x + total f xs

-- 1 where x is one of the m numbers from n on, else 0
abbrev pub spans : (x n m : ℕ) → ℕ
spans x n zero = 0
spans x n (suc m) = (if n == x then 1 else 0) + spans x (suc n) m

-- 1 where x is a number of the view
abbrev pub owns : (x : ℕ) → View → ℕ
owns x v = spans x v.number v.parts

-- 1 where the view holds the turn
abbrev pub turn_of : View → ℕ
turn_of v = if v.turn then 1 else 0

-- 1 where the job of process p is out with the view
abbrev pub is_out : (p : ℕ) → Option ℕ → ℕ
is_out p None = 0
is_out p (Some q) = if q == p then 1 else 0

abbrev pub out_of : (p : ℕ) → View → ℕ
out_of p v = is_out p v.out

-- ---- what ties views to the board

-- the board was each of these once
abbrev pub AllBegin : List Shown → Shown → Type 0
AllBegin [] b = ⊤
AllBegin (k ∷ ks) b = Begins k b × AllBegin ks b

-- what the view's job gives by what the view has seen, it gives on the board
abbrev pub KeepsJob : View → Shown → Type 0
KeepsJob v b = (done : Done) → v.out ≡ Some done.process → IsGivenOn v.known done → IsGivenOn b done

-- a view that was joined to another one
abbrev pub spent_view : View
spent_view = record {
  number = 0;
  parts = 0;
  known = record {
    design = record { nodes = []; processes = []; variables = []; channels = []; events = [] };
    limits = record { stop = record { 0 = 0 }; deltas = 0; statements = 0 };
    tables = record { graph = record { segments = []; edges = [] }; access = []; clash = []; advance = [] };
    schedule = [];
  };
  made = [];
  out = None;
  turn = false;
  heard = [];
}

-- what ties one view to the board, which is the one in the slot, or the one that was taken from it
pub record Fits (b : Shown) (v : View) : Type 0 where
  pub known : 0 < v.parts → Begins v.known b
  pub heard : AllBegin v.heard b
  pub turn : v.turn ≡ true → v.known ≡ b
  pub job : KeepsJob v b
  pub spent : v.parts ≡ 0 → v ≡ spent_view

-- the rule, for so many passes: an even word says that the turn is free, and then the slot has the board; one view holds the turn
-- or none does; the job out of each process is out with one view; each step of the board was made by one view; and the numbers of
-- the views differ
pub record Ruled (passes : ℕ) (s : State (Option Shown) View) : Type 0 where
  pub board : Shown
  pub wide : length s.words ≡ 1
  pub home : slice_index s.words 0 % 2 ≡ 0 → get_elem? s.homes 0 ≡ some (some (Some board))
  pub turns : total turn_of s.views ≡ slice_index s.words 0 % 2
  pub each : (id : ℕ) (v : View) → get_elem? s.views id ≡ some v → Fits board v
  pub outs : (p : ℕ) → total (out_of p) s.views ≡ jobs_out board p
  pub made : (f : Step → ℕ) → total (λ v. total f v.made) s.views ≡ total f board.schedule
  pub owned : (x : ℕ) → total (owns x) s.views ≡ spans x 0 passes

-- ---- views before and after steps

-- the first view, which has all numbers and made all steps so far
abbrev pub first_view : Origin → View
first_view key = record {
  number = 0;
  parts = key.passes;
  known = key.board.value;
  made = key.board.value.schedule;
  out = None;
  turn = false;
  heard = [];
}

-- a view is cut: one number stays, and the rest goes
abbrev pub pass_left : View → View
pass_left v = record v { parts = 1 }

abbrev pub pass_rest : View → View
pass_rest v = record v { number = v.number + 1; parts = v.parts - 1; made = []; out = None; turn = false; heard = [] }

-- w, whose number comes just before v's, is joined to v
abbrev pub both_of : (v w : View) → View
both_of v w = record v { number = w.number; parts = v.parts + 1; made = w.made ++ v.made; heard = w.known ∷ v.heard }

-- a view with the slots that its seat has in hand
abbrev pub Sat : Type 0
Sat = Me (Option Shown) View

abbrev pub At : Type 0
At = table.Step (Option Shown)

-- who has the turn has seen the whole schedule
abbrev pub seized : View → Shown → View
seized v b = record v { known = b; turn = true }

-- the turn was free, and now it and the board are with this seat
pub record Seizes (m m' : Sat) : Type 0 where
  pub board : Shown
  pub now : m' ≡ (seized m.0 board, (0, Some board) ∷ [])
  pub begins : Begins m.0.known board
  pub job : KeepsJob m.0 board
  pub out : (p : ℕ) → m.0.out ≡ Some p → IsSome (job_of (rules board) (state board) p)

-- the turn is tried: it was free where the word that was wanted was found
abbrev pub tried : At → Sat → ℕ → Sat → Type 0
tried st m n m' = (n ≡ st.first → Seizes m m') × (n ≢ st.first → m' ≡ m)

-- the turn is let go, with the board as it was
abbrev pub freed : At → Sat → ℕ → Sat → Type 0
freed st m n m' = m' ≡ (record m.0 { turn = false }, [])

-- whose job is out after a step
abbrev pub out_after : Step → Option ℕ
out_after (Dispatch q) = Some q
out_after (Commit q) = None
out_after (Abandon q) = None

-- a step is made, and the turn kept
abbrev pub noted : View → Step → View
noted v x = record v { known = with_step v.known x; made = v.made ++ x ∷ []; out = out_after x }

-- a step is made, and the turn let go
abbrev pub stepped : View → Step → View
stepped v x = record v { known = with_step v.known x; made = v.made ++ x ∷ []; out = out_after x; turn = false }

-- the board in hand tells which step it was
abbrev pub noted_on : At → Sat → ℕ → Sat → Type 0
noted_on st m n m' = (x : Step) → m.1 ≡ (0, Some (with_step m.0.known x)) ∷ [] → m' ≡ (noted m.0 x, m.1)

abbrev pub stepped_on : At → Sat → ℕ → Sat → Type 0
stepped_on st m n m' = (x : Step) → m.1 ≡ (0, Some (with_step m.0.known x)) ∷ [] → m' ≡ (stepped m.0 x, [])

-- ---- which steps a view may make

-- a job is dispatched where none is out with the view, and committed or abandoned where it is
abbrev pub IsOwn : View → Step → Type 0
IsOwn v (Dispatch q) = v.out ≡ None
IsOwn v (Commit q) = v.out ≡ Some q
IsOwn v (Abandon q) = v.out ≡ Some q

-- the step is lawful, and leaves the jobs of other processes out
pub record May (v : View) (x : Step) : Type 0 where
  pub lawful : IsLawfulOn v.known x
  pub own : IsOwn v x
  pub others : LeavesOthers v.known (with_step v.known x) (process_of x)
