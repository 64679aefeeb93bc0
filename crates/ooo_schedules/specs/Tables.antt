-- A program given by tables, and the theorem over its schedules in the form of a clause.
use Rattle.std.specs.Prelude.{◌≡◌, ◌≢◌, ℕ, ◌⊎◌, Bool, true, false, List, [], ◌∷◌, Option, Some}
use Rattle.ooo_schedules.specs.Model.{Act, Front, In, Model, ActOf, Log, State, Allowed, Lawful, Dispatched, IsOver, front_of, IsLeast, Reports, IsEarlier, Conflict, NotAfter, committed}
use Rattle.ooo_time.specs.declared.stamp.Stamp.{Stamp}
use Rattle.ooo_time.specs.declared.delay.Delay.{Delay}
use Rattle.ooo_time.specs.declared.time.Time.{Time}
use Rattle.ooo_value.specs.declared.bound.BoundEvent.{BoundEvent}
use Rattle.ooo_value.specs.declared.values.Value.{Value}
use Rattle.ooo_schedules.specs.Delays.{Edges, TakesTime}
use Rattle.ooo_schedules.specs.Design.{Wait, model}
use Rattle.ooo_schedules.specs.Sequence.{RunsTo, begin, Starts}
use Rattle.ooo_schedules.specs.Endings.{Ending, RunEnds, BoardEnds}
use Rattle.ooo_schedules.specs.Program.{Deed, Program, Sound, design}

pub record EdgeRow : Type 0 where
  pub from : ℕ
  pub delay : Delay
  pub to : ℕ

pub record Tables (R : Type 0) : Type 0 where
  pub edges : List EdgeRow
  pub origin : ℕ → BoundEvent
  pub first_value : ℕ → Value
  pub process_of : ℕ → ℕ
  pub clash : ℕ → ℕ → Bool → Bool
  pub notifies : ℕ → ℕ → Bool
  pub waits_on : ℕ → ℕ → Bool
  pub act : Act Stamp R → Deed
  pub start : ℕ → Option (Wait Stamp)
  pub look : ℕ → ℕ → Stamp → Option (Act Stamp R) → List (Act Stamp R) → R
  pub processes : ℕ
  pub stop : Time
  pub limit : ℕ
  pub breaks : Act Stamp R → Bool
  pub stops : Act Stamp R → Bool

abbrev pub edges_of : {R : Type 0} → Tables R → Edges
edges_of t = record {
  Edge = λ a k b. In (record { from = a; delay = k; to = b }) t.edges × TakesTime k;
  takes_time = λ a k b e. e.1;
}

abbrev pub program : {R : Type 0} → Tables R → Program
program {R} t = record {
  Reads = R;
  edges = edges_of t;
  origin = t.origin;
  first_value = t.first_value;
  process_of = t.process_of;
  clash = t.clash;
  notifies = λ a e. t.notifies a e ≡ true;
  waits_on = λ a e. t.waits_on a e ≡ true;
  act = t.act;
  start = t.start;
  look = t.look;
  processes = t.processes;
  stop = t.stop;
  limit = t.limit;
  breaks = t.breaks;
  stops = t.stops;
}

abbrev pub board : {R : Type 0} → Tables R → Model
board t = model (design (program t))

-- what the sequential run makes, each lawful schedule makes alike
abbrev pub JobReads : {R : Type 0} → Tables R → Type 0
JobReads t =
    (zs : Log (board t)) → RunsTo (program t) (begin (program t)) [] zs → (st : State (board t)) → Lawful (board t) st → (y x : ActOf (board t)) →
    Dispatched (board t) y st → In x zs → x.process ≡ y.process → x.number ≡ y.number → y ≡ x

-- a board that is over reports just the activations of the sequential run
abbrev pub BoardReport : {R : Type 0} → Tables R → Type 0
BoardReport t =
    (zs : Log (board t)) → RunsTo (program t) (begin (program t)) [] zs → (st : State (board t)) → Lawful (board t) st → IsOver (board t) st →
    Reports (board t) zs st

-- it ends as the sequential run does
abbrev pub SameEnding : {R : Type 0} → Tables R → Type 0
SameEnding t =
    (zs : Log (board t)) → RunsTo (program t) (begin (program t)) [] zs → (st : State (board t)) → Lawful (board t) st → IsOver (board t) st →
    (e : Ending (program t)) → RunEnds (program t) zs e → BoardEnds (program t) st e

-- a job conflicts with nothing later that was dispatched before it is committed
abbrev pub NoConflict : {R : Type 0} → Tables R → Type 0
NoConflict t =
    (st : State (board t)) → Lawful (board t) st → (x y : ActOf (board t)) → In x st.out → Dispatched (board t) y st → x.process ≢ y.process → IsEarlier (board t) x y →
    Conflict (board t) x.stamp x.segment y.stamp y.segment → ⊥

-- a front after a commit was there with a stamp that isn't later, or an edge leads to it from the job that was committed
abbrev pub CommitWalks : {R : Type 0} → Tables R → Type 0
CommitWalks t =
    (st : State (board t)) → Lawful (board t) st → (j : ActOf (board t)) → In j st.out → (r : ℕ) (g : Front Stamp) → front_of (board t) (committed (board t) st j) r ≡ Some g →
    ((f : Front Stamp) × (front_of (board t) st r ≡ Some f) × (f.segment ≡ g.segment) × NotAfter (board t) f.stamp g.stamp) ⊎ (board t).LeadsTo j.segment j.stamp g.segment g.stamp

-- what is allowed is so after a commit, and its job is the same
abbrev pub StaysAllowed : {R : Type 0} → Tables R → Type 0
StaysAllowed t =
    (st : State (board t)) → Lawful (board t) st → (j : ActOf (board t)) → In j st.out → (p : ℕ) (f : Front Stamp) → Allowed (board t) st p f →
    Allowed (board t) (committed (board t) st j) p f × ((board t).reads (j ∷ st.log) p f.segment f.stamp ≡ (board t).reads st.log p f.segment f.stamp)

-- an allowed segment has no plain clash with a job that is out
abbrev pub Moves : {R : Type 0} → Tables R → Type 0
Moves t = (st : State (board t)) → Lawful (board t) st → (p : ℕ) (f : Front Stamp) → Allowed (board t) st p f → (j : ActOf (board t)) → In j st.out → (board t).Clash j.segment f.segment false → ⊥

-- no two jobs that are out have a plain clash
abbrev pub JobsApart : {R : Type 0} → Tables R → Type 0
JobsApart t = (st : State (board t)) → Lawful (board t) st → (j k : ActOf (board t)) → In j st.out → In k st.out → j.process ≢ k.process → (board t).Clash j.segment k.segment false → ⊥

-- what a process did comes before its job
abbrev pub OwnBefore : {R : Type 0} → Tables R → Type 0
OwnBefore t =
    (st : State (board t)) → Lawful (board t) st → (j y : ActOf (board t)) → In j st.out → In y st.log → y.process ≡ j.process → (board t).before y.stamp j.stamp

-- where nothing runs, the front of least place is allowed, if its delta index is below the limit
abbrev pub NoDeadEnd : {R : Type 0} → Tables R → Type 0
NoDeadEnd t =
    (st : State (board t)) → Lawful (board t) st → st.out ≡ [] → (p : ℕ) (f : Front Stamp) → front_of (board t) st p ≡ Some f → IsLeast (board t) st p f → (board t).Within f.stamp → ((board t).AtLimit f.stamp → ⊥) →
    Allowed (board t) st p f

pub record EveryScheduleOf {R : Type 0} (t : Tables R) : Type 0 where
  pub job_reads : JobReads t
  pub board_report : BoardReport t
  pub same_ending : SameEnding t
  pub no_conflict : NoConflict t
  pub walks : CommitWalks t
  pub stays_allowed : StaysAllowed t
  pub moves : Moves t
  pub jobs_apart : JobsApart t
  pub own_before : OwnBefore t
  pub no_dead_end : NoDeadEnd t

-- the law, for programs whose activations read an R
abbrev pub EverySchedule : Type 0 → Type 0
EverySchedule R = (t : Tables R) → Sound (program t) → Starts (program t) → EveryScheduleOf t
