-- What holds of every lawful list of steps: each is said of the board to which it leads.
use Rattle.std.specs.Prelude.{◌≡◌, ◌≢◌, ℕ, ◌<◌, ◌≤◌, ◌⊎◌, List, [], Some, true, if◌then◌else◌, slice_index_or}
use Rattle.ooo_time.specs.declared.stamp.Stamp.{Stamp}
use Rattle.ooo_time.specs.declared.delay.Delay.{Delay}
use Rattle.ooo_time.specs.Scales.{greatest_time}
use Rattle.ooo_time.specs.Delays.{advanced}
use Rattle.ooo_advance.specs.Rows.{entry_at}
use Rattle.ooo_code.specs.declared.design.Design.{Design}
use Rattle.ooo_code.specs.declared.limits.Limits.{Limits}
use Rattle.ooo_code.specs.Sound.{IsSound}
use Rattle.ooo_value.specs.declared.values.Value.{Value}
use Rattle.ooo_schedules.specs.Delays.{NotAfter}
use Rattle.ooo_schedules.specs.Design.{sort}
use Rattle.ooo_schedules.specs.Model.{Act, Dispatched, Front, In, IsEarlier, IsLeast, front_at, job}
use Rattle.ooo_schedules.specs.Program.{design}
use Rattle.ooo_schedules.specs.Tables.{program}
use Rattle.ooo_tables.specs.declared.tables.Tables.{Tables}
use Rattle.ooo_tables.specs.Tables.{AreTables}
use Rattle.ooo_dispatch.specs.declared.reads.Reads.{Reads}
use Rattle.ooo_dispatch.specs.declared.step.Step.{Step}
use Rattle.ooo_dispatch.specs.declared.step.Step.TheVariants.{Dispatch, Commit}
use Rattle.ooo_dispatch.specs.Boards.{Board, IsFront, model}
use Rattle.ooo_dispatch.specs.Least.{Advance, ClashesAt, IsBelowCut, MayRun, rules_of}
use Rattle.ooo_dispatch.specs.Rules.{Rules, access_of, cells_after, has, outcome_of, tables, uses}
use Rattle.ooo_dispatch.specs.Steps.{AreLawful, IsLawfulStep, Replay, after_step, job_of, nothing_done, replayed}

-- a sound design with its tables, and limits in range
pub record IsReady (design : Design) (limits : Limits) (t : Tables) : Type 0 where
  pub sound : IsSound design
  pub tables : AreTables design t
  pub deltas : 0 < limits.deltas
  pub stop : limits.stop.0 ≤ greatest_time

-- a fact of the board to which each lawful list of steps leads
abbrev pub Always : Design → Limits → Tables → ((r : Rules) → Advance → Replay r → Type 0) → Type 0
Always design limits t P =
    (steps : List Step) → AreLawful (rules_of design limits t) t.advance (nothing_done (rules_of design limits t)) steps →
    P (rules_of design limits t) t.advance (replayed (rules_of design limits t) (nothing_done (rules_of design limits t)) steps)

-- ---- walks

-- the process had a front of the same segment that isn't later
pub record HadFront (r : Rules) (b : Board r) (q : ℕ) (g : Front Stamp) : Type 0 where
  pub front : Front Stamp
  pub is : IsFront r b q front
  pub segment : front.segment ≡ g.segment
  pub not_later : NotAfter front.stamp g.stamp

-- by the table a front leads to another one, which isn't earlier
pub record Leads (least : Advance) (f g : Front Stamp) : Type 0 where
  pub delay : Delay
  pub leads : entry_at least f.segment g.segment ≡ Some delay
  pub not_later : NotAfter (advanced f.stamp delay) g.stamp

-- a front after a commit was there, not later, or the job that is committed leads to it
abbrev pub CommitsWalk : (r : Rules) → Advance → Replay r → Type 0
CommitsWalk r least s =
    (p : ℕ) (j : Act Stamp Reads) → job_of r s p ≡ Some j → (q : ℕ) (g : Front Stamp) →
    IsFront r (after_step r s (Commit p)).board q g → HadFront r s.board q g ⊎ Leads least (front_at j) g

-- ---- the cut

-- a place that is below the cut after a step was so before it
abbrev pub CutStays : (r : Rules) → Advance → Replay r → Type 0
CutStays r least s =
    (step : Step) → IsLawfulStep r least s step → (u : Stamp) (p : ℕ) →
    IsBelowCut r (after_step r s step).board u p → IsBelowCut r s.board u p

-- ---- no conflict out of order

-- nothing that was dispatched at a later place than a job clashes with it
abbrev pub NoneOvertakes : (r : Rules) → Advance → Replay r → Type 0
NoneOvertakes r least s =
    (p : ℕ) (j : Act Stamp Reads) → job_of r s p ≡ Some j → (y : Act Stamp Reads) → Dispatched (model r) y s.board →
    j.process ≢ y.process → IsEarlier (model r) j y → ClashesAt r j.segment j.stamp y.process (front_at y) → ⊥

-- ---- moves

-- segment g writes variable x, so its job owns the variable while it is out
abbrev pub owns : Rules → (g x : ℕ) → Type 0
owns r g x = has (access_of r g).written x ≡ true

-- no job out owns a variable that the segment of an allowed process reads or writes, or that the segment of another job does
pub record NothingAway (r : Rules) (least : Advance) (s : Replay r) : Type 0 where
  pub allowed :
      (p : ℕ) (f : Front Stamp) → MayRun r least s.board p f → (j : Act Stamp Reads) → In j s.board.out → (x : ℕ) →
      owns r j.segment x → uses r f.segment x ≡ true → ⊥
  pub out :
      (j k : Act Stamp Reads) → In j s.board.out → In k s.board.out → j.process ≢ k.process → (x : ℕ) →
      owns r j.segment x → uses r k.segment x ≡ true → ⊥

-- the cells of variable x on a board: as the activations of its log leave them, in order of place
abbrev pub cells_on : (r : Rules) → Board r → (x : ℕ) → List Value
cells_on r b x = cells_after r x (sort (design (program (tables r))) b.log)

-- the cells of variable x as an activation leaves them
abbrev pub cells_left : Rules → Act Stamp Reads → (x : ℕ) → List Value
cells_left r j x = slice_index_or (outcome_of r j).deed.variables x []

-- a commit puts each variable that the job owns back as its activation leaves it, and all others stay
abbrev pub CommitsPutBack : (r : Rules) → Advance → Replay r → Type 0
CommitsPutBack r least s =
    (p : ℕ) (j : Act Stamp Reads) → job_of r s p ≡ Some j → (x : ℕ) →
    cells_on r (after_step r s (Commit p)).board x
    ≡ (if has (access_of r j.segment).written x then cells_left r j x else cells_on r s.board x)

-- ---- what is allowed stays so

-- after a step a process may be dispatched at its front as before, and its job is the same
pub record StaysSo (r : Rules) (least : Advance) (before after : Board r) (q : ℕ) (g : Front Stamp) : Type 0 where
  pub allowed : MayRun r least after q g
  pub same_job : job (model r) after q g ≡ job (model r) before q g

-- after a dispatch of another process; and after a commit of another, if the place is below the cut then
pub record StayAllowed (r : Rules) (least : Advance) (s : Replay r) : Type 0 where
  pub dispatches :
      (p : ℕ) (f : Front Stamp) → MayRun r least s.board p f → (q : ℕ) (g : Front Stamp) → q ≢ p → MayRun r least s.board q g →
      StaysSo r least s.board (after_step r s (Dispatch p)).board q g
  pub commits :
      (p : ℕ) (j : Act Stamp Reads) → job_of r s p ≡ Some j → (q : ℕ) (g : Front Stamp) → MayRun r least s.board q g →
      IsBelowCut r (after_step r s (Commit p)).board g.stamp q → StaysSo r least s.board (after_step r s (Commit p)).board q g

-- ---- no dead end

-- where no process runs, that of least place may be dispatched, if its front is below the cut and below the delta limit
abbrev pub NoDeadEnd : (r : Rules) → Advance → Replay r → Type 0
NoDeadEnd r least s =
    s.board.out ≡ [] → (p : ℕ) (f : Front Stamp) → IsFront r s.board p f → IsLeast (model r) s.board p f →
    IsBelowCut r s.board f.stamp p → f.stamp.delta < r.limits.deltas → MayRun r least s.board p f
