-- What a board that is over reports, read off its log and its fronts.
use Rattle.std.specs.Prelude.{◌≡◌, ⊤, ℕ, ◌<◌, ◌≤◌, Bool, true, not, ◌&&◌, ◌||◌, ◌==◌, List, [], map, Option, Some, None}
use Rattle.std.specs.List.{list_any}
use Rattle.ooo_time.specs.declared.stamp.Stamp.{Stamp}
use Rattle.ooo_time.specs.Stamps.{is_before}
use Rattle.ooo_meaning.specs.Runs.{numbers_from}
use Rattle.ooo_schedules.specs.Model.{Front, State, Log, Lawful, IsOver, front_of}
use Rattle.ooo_schedules.specs.Design.{is_earlier, model, only, soonest, sort}
use Rattle.ooo_schedules.specs.Program.{Program, ActIn, Sound, design}
use Rattle.ooo_schedules.specs.Sequence.{RunsTo, Starts, begin}
use Rattle.ooo_schedules.specs.Endings.{Ending, Deltas, Time, Idle, RunEnds, StateOf}
use Rattle.ooo_schedules.specs.Tables.{Tables, board, program}

-- z ended the run before the place of y, or called sc_stop in a cycle before that of y
abbrev pub cuts_off : (p : Program) → (z y : ActIn p) → Bool
cuts_off p z y = (p.breaks z && is_earlier (design p) z y) || (p.stops z && is_before z.stamp y.stamp)

-- the stamp of a front
abbrev pub stamp_of : Option (Front Stamp) → Option Stamp
stamp_of None = None
stamp_of (Some f) = Some f.stamp

-- the earliest stamp at which a process has a front
abbrev pub next_stamp : (p : Program) → StateOf p → Option Stamp
next_stamp p st = soonest (design p) (map (λ q. stamp_of (front_of (model (design p)) st q)) (numbers_from 0 p.processes))

-- a stamp is before the next one, if that is at the limit of deltas
abbrev pub is_below_limit : (limit : ℕ) → (next : Option Stamp) → Stamp → Bool
is_below_limit limit None s = true
is_below_limit limit (Some next) s = not (next.delta == limit) || is_before s next

-- no activation of the log cuts y off, and y stands below the limit of deltas
abbrev pub is_reported : (p : Program) → StateOf p → ActIn p → Bool
is_reported p st y = not (list_any (λ z. cuts_off p z y) st.log) && is_below_limit p.limit (next_stamp p st) y.stamp

-- the activations that the board reports, the last in order of place first
abbrev pub reported : (p : Program) → StateOf p → List (ActIn p)
reported p st = only (is_reported p st) (sort (design p) st.log)

-- when the processes run next where a run ends so
abbrev pub RunsNext : (p : Program) → Ending p → Option Stamp → Type 0
RunsNext p (Deltas s) next = (next ≡ Some s) × (s.time.0 ≤ p.stop.0)
RunsNext p Time next = (s : Stamp) × (next ≡ Some s) × (p.stop.0 < s.time.0)
RunsNext p Idle next = next ≡ None
RunsNext p _ next = ⊤

-- the activations that a board reports which is over are those of the sequential run, in their order; and it has the next
-- stamp after which the run ends
pub record ReportOf {R : Type 0} (t : Tables R) : Type 0 where
  pub reported : (zs : Log (board t)) → RunsTo (program t) (begin (program t)) [] zs → (st : State (board t)) → Lawful (board t) st → IsOver (board t) st → reported (program t) st ≡ zs
  pub next :
      (zs : Log (board t)) → RunsTo (program t) (begin (program t)) [] zs → (st : State (board t)) → Lawful (board t) st → IsOver (board t) st → (e : Ending (program t)) → RunEnds (program t) zs e →
      RunsNext (program t) e (next_stamp (program t) st)

-- the law, for programs whose activations read an R
abbrev pub EveryReport : Type 0 → Type 0
EveryReport R = (t : Tables R) → Sound (program t) → Starts (program t) → ReportOf t
