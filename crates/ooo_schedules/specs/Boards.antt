-- A board goes on until it is over, but not for ever; and one that makes the sequential run is over.
use Rattle.std.specs.Prelude.{◌≡◌, ℕ, ◌+◌, ◌*◌, ◌<◌, ◌≤◌, ◌⊎◌, [], Some}
use Rattle.ooo_time.specs.declared.stamp.Stamp.{Stamp}
use Rattle.ooo_schedules.specs.Model.{Front, State, Log, Allowed, Lawful, IsLeast, IsOver, Open, count, front_of}
use Rattle.ooo_schedules.specs.Program.{Sound}
use Rattle.ooo_schedules.specs.Sequence.{RunsTo, Starts, begin}
use Rattle.ooo_schedules.specs.Tables.{Tables, board, program}

-- where no job is out, the board is over, or some process is allowed
abbrev pub NeverStuck : {R : Type 0} → Tables R → Type 0
NeverStuck t = (st : State (board t)) → Lawful (board t) st → st.out ≡ [] → IsOver (board t) st ⊎ ((q : ℕ) × (f : Front Stamp) × Allowed (board t) st q f)

-- the front of least place, where that is below the cut and the limit of deltas
pub record OpenFront {R : Type 0} (t : Tables R) (st : State (board t)) : Type 0 where
  pub process : ℕ
  pub front : Front Stamp
  pub is : front_of (board t) st process ≡ Some front
  pub least : IsLeast (board t) st process front
  pub uncut : Open (board t) st.log front.stamp process
  pub below : front.stamp.delta < t.limit
  pub numbered : process < t.processes

-- where no job is out, the board is over, or its front of least place is below the cut
abbrev pub OverOrOpen : {R : Type 0} → Tables R → Type 0
OverOrOpen t = (st : State (board t)) → Lawful (board t) st → st.out ≡ [] → IsOver (board t) st ⊎ OpenFront t st

-- a process is committed as often at most as there are delta cycles, below the limit at each time, up to the stop time
abbrev pub NotForEver : {R : Type 0} → Tables R → Type 0
NotForEver t = (st : State (board t)) → Lawful (board t) st → (q : ℕ) → count q st.log ≤ (t.stop.0 + 1) * t.limit

-- the steps of the sequential run, each job committed at once, are lawful, and after them the board is over
abbrev pub RunIsLawful : {R : Type 0} → Tables R → Type 0
RunIsLawful t =
    (zs : Log (board t)) → RunsTo (program t) (begin (program t)) [] zs → Lawful (board t) (record { log = zs; out = [] }) × IsOver (board t) (record { log = zs; out = [] })

pub record BoardsOf {R : Type 0} (t : Tables R) : Type 0 where
  pub never_stuck : NeverStuck t
  pub over_or_open : OverOrOpen t
  pub not_for_ever : NotForEver t
  pub run : RunIsLawful t

-- the law, for programs whose activations read an R
abbrev pub EveryBoard : Type 0 → Type 0
EveryBoard R = (t : Tables R) → Sound (program t) → Starts (program t) → BoardsOf t
