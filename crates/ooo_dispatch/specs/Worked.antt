-- A worked schedule, computed from the definitions: a thread that notifies and cancels an event runs ahead of one that prints the
-- time whenever the event comes.
use Rattle.std.specs.Prelude.{◌≡◌, ℕ, ◌++◌, List, [], ◌∷◌, Option, Some, None, codes}
use Rattle.ooo_time.specs.declared.time.Time.{Time}
use Rattle.ooo_time.specs.declared.delay.Delay.{Delay}
use Rattle.ooo_time.specs.declared.stamp.Stamp.{Stamp}
use Rattle.ooo_code.specs.declared.segment.Segment.{Segment}
use Rattle.ooo_code.specs.declared.segment.SegmentEntry.{SegmentEntry}
use Rattle.ooo_code.specs.declared.segment.SegmentEntry.TheVariants.{Start, After}
use Rattle.ooo_meaning.specs.Rows.{event_overrides, limits, ns}
use Rattle.ooo_segments.specs.declared.graphs.Edge.{Edge}
use Rattle.ooo_access.specs.declared.access.Access.{Access}
use Rattle.ooo_conflicts.specs.declared.kind.ClashKind.{ClashKind}
use Rattle.ooo_conflicts.specs.declared.kind.ClashKind.TheVariants.{Apart, Earlier, Same}
use Rattle.ooo_schedules.specs.Design.{sort}
use Rattle.ooo_schedules.specs.Model.{Act, front_of}
use Rattle.ooo_schedules.specs.Program.{design}
use Rattle.ooo_schedules.specs.Tables.{program}
use Rattle.ooo_dispatch.specs.declared.reads.Reads.{Reads}
use Rattle.ooo_dispatch.specs.declared.step.Step.{Step}
use Rattle.ooo_dispatch.specs.declared.step.Step.TheVariants.{Dispatch, Commit}
use Rattle.ooo_dispatch.specs.Boards.{IsOverBoard, model}
use Rattle.ooo_dispatch.specs.Least.{Advance}
use Rattle.ooo_dispatch.specs.Rules.{Rules, outcome_of, tables}
use Rattle.ooo_dispatch.specs.Steps.{AreLawful, Replay, nothing_done, replayed}

-- ---- the tables of the model `event_overrides`

abbrev segment : (process : ℕ) → SegmentEntry → (nodes : List ℕ) → Segment
segment p entry nodes = record { process = p; entry = entry; nodes = nodes }

abbrev no_delay : Delay
no_delay = record { time = record { 0 = 0 }; deltas = 0 }

abbrev one_delta : Delay
one_delta = record { time = record { 0 = 0 }; deltas = 1 }

-- a delay of n nanoseconds
abbrev delay : ℕ → Delay
delay n = record { time = ns n; deltas = 0 }

abbrev edge : (from : ℕ) → Delay → (to : ℕ) → Edge
edge from d to = record { from = from; to = to; delay = d }

-- of the one event
abbrev accesses : (notified : List (ℕ × Option Time)) → (cancelled waited : List ℕ) → Access
accesses notified cancelled waited =
    record { read = []; written = []; signals_read = []; signals_written = []; takes = []; puts = []; cancelled = cancelled; waited = waited; notified = notified }

-- a segment of the first thread clashes with its others, and strictly with the second thread's after its wait
abbrev ahead : List ClashKind
ahead = Same ∷ Same ∷ Same ∷ Apart ∷ Earlier ∷ []

abbrev apart : List ClashKind
apart = Apart ∷ Apart ∷ Apart ∷ Apart ∷ Apart ∷ []

abbrev pub rules : Rules
rules = record {
  design = event_overrides;
  limits = limits 100 10;
  segments =
      segment 0 Start (0 ∷ 1 ∷ 2 ∷ 3 ∷ []) ∷ segment 0 (After 3) (4 ∷ 5 ∷ 6 ∷ []) ∷ segment 0 (After 6) (7 ∷ 8 ∷ 9 ∷ [])
      ∷ segment 1 Start (10 ∷ 11 ∷ []) ∷ segment 1 (After 11) (10 ∷ 11 ∷ 12 ∷ 13 ∷ []) ∷ [];
  edges = edge 0 (delay 15) 1 ∷ edge 1 (delay 5) 2 ∷ edge 3 one_delta 4 ∷ edge 4 one_delta 4 ∷ [];
  access =
      accesses ((0, Some (ns 10)) ∷ (0, Some (ns 20)) ∷ (0, Some (ns 30)) ∷ []) [] []
      ∷ accesses ((0, None) ∷ (0, Some (ns 10)) ∷ []) [] [] ∷ accesses ((0, Some (ns 10)) ∷ []) (0 ∷ []) [] ∷ accesses [] [] []
      ∷ accesses [] [] (0 ∷ []) ∷ [];
  clashes = ahead ∷ ahead ∷ ahead ∷ apart ∷ apart ∷ [];
}

abbrev pub least : Advance
least =
    (Some no_delay ∷ Some (delay 15) ∷ Some (delay 20) ∷ None ∷ Some (delay 10) ∷ [])
    ∷ (None ∷ Some no_delay ∷ Some (delay 5) ∷ None ∷ Some one_delta ∷ []) ∷ (None ∷ None ∷ Some no_delay ∷ None ∷ Some (delay 10) ∷ [])
    ∷ (None ∷ None ∷ None ∷ Some no_delay ∷ Some one_delta ∷ []) ∷ (None ∷ None ∷ None ∷ None ∷ Some no_delay ∷ []) ∷ []

-- ---- the schedule

-- the next activation of a process, from its dispatch to its commit
abbrev pub runs : ℕ → List Step
runs p = Dispatch p ∷ Commit p ∷ []

-- both begin; the first thread goes on to its end, and then the second runs at 10 ns and at 15 ns
abbrev pub steps : List Step
steps = runs 0 ++ runs 1 ++ runs 0 ++ runs 0 ++ runs 1 ++ runs 1

abbrev pub reached : List Step → Replay rules
reached xs = replayed rules (nothing_done rules) xs

-- what was printed, of the last activation last
abbrev printed_by : List (Act Stamp Reads) → List ℕ
printed_by [] = []
printed_by (x ∷ xs) = printed_by xs ++ (outcome_of rules x).deed.output

-- what the activations of a log printed, in order of place
abbrev pub printed : List (Act Stamp Reads) → List ℕ
printed log = printed_by (sort (design (program (tables rules))) log)

pub record WorkedSchedule : Type 0 where
  pub lawful : AreLawful rules least (nothing_done rules) steps
  -- the first thread is over while the second has still to run at 10 ns
  pub ended : front_of (model rules) (reached (runs 0 ++ runs 1 ++ runs 0 ++ runs 0)).board 0 ≡ None
  pub waits :
      front_of (model rules) (reached (runs 0 ++ runs 1 ++ runs 0 ++ runs 0)).board 1
      ≡ Some (record { segment = 4; stamp = record { time = ns 10; delta = 0 } })
  pub over : IsOverBoard rules (reached steps).board
  pub prints : printed (reached steps).board.log ≡ codes "10 ns\n15 ns\n"
