-- The fronts that are kept of a board's processes.
use Rattle.std.specs.Prelude.{◌≡◌, ℕ, ◌<◌, ◌≤◌, List, Option, None, Some, length, slice_index_or, slice_get, All}
use Rattle.ooo_time.specs.declared.stamp.Stamp.{Stamp}
use Rattle.ooo_time.specs.Stamps.{IsBefore}
use Rattle.ooo_time.specs.Delays.{greatest_wait}
use Rattle.ooo_time.specs.Scales.{greatest_delta}
use Rattle.ooo_segments.specs.Beginnings.{greatest_segments}
use Rattle.ooo_advance.specs.Rows.{AreAddable}
use Rattle.ooo_schedules.specs.Model as board
use Rattle.ooo_tables.specs.declared.tables.Tables.{Tables}
use Rattle.ooo_dispatch.specs.Boards.{Board, model}
use Rattle.ooo_dispatch.specs.Rules.{Rules}
use Rattle.ooo_fronts.specs.declared.front.Front.{Front}

-- a front, as the rule has it
abbrev pub front_is : Front → board.Front Stamp
front_is f = record { segment = f.segment; stamp = f.stamp }

-- a front or none, as the rule has it
abbrev pub maybe_front : Option Front → Option (board.Front Stamp)
maybe_front None = None
maybe_front (Some f) = Some (front_is f)

-- the front that is kept of process p
abbrev pub kept_front : List (Option Front) → (p : ℕ) → Option (board.Front Stamp)
kept_front fronts p = maybe_front (slice_index_or fronts p None)

-- one is kept for each process, and each process of the board has that front
pub record AreFrontsOf (r : Rules) (b : Board r) (fronts : List (Option Front)) : Type 0 where
  pub count : length fronts ≡ length r.design.processes
  pub each : (p : ℕ) → board.front_of (model r) b p ≡ kept_front fronts p

-- the process of segment b, which there is
abbrev pub process_in : Tables → (b : ℕ) → ℕ
process_in t b = elim (slice_get t.graph.segments b) [ None ↦ 0 | Some s ↦ s.process ]

-- a front of a segment of process p that there is, at a stamp to which delays can be added
pub record IsFit (t : Tables) (p : ℕ) (f : Front) : Type 0 where
  pub segment : f.segment < length t.graph.segments
  pub process : process_in t f.segment ≡ p
  pub time : f.stamp.time.0 ≤ greatest_wait
  pub delta : f.stamp.delta ≤ greatest_delta

-- the front of each process that has one is such a front of that process
abbrev pub AreFit : Tables → List (Option Front) → Type 0
AreFit t fronts = (p : ℕ) (f : Front) → slice_get fronts p ≡ Some (Some f) → IsFit t p f

-- the front is one of the process of its segment
abbrev pub IsFitOfItself : Tables → Front → Type 0
IsFitOfItself t f = IsFit t (process_in t f.segment) f

-- clashes and delays are those of so many segments, and each delay can be added to a stamp; so it is in the tables of a design
pub record AreAligned (t : Tables) : Type 0 where
  pub few : length t.graph.segments ≤ greatest_segments
  pub clash : length t.clash ≡ length t.graph.segments
  pub advance : length t.advance ≡ length t.graph.segments
  pub addable : All AreAddable t.advance

-- the fronts of all processes, how many clashes hold each of them up, and a table with a row of each process: by how many segments its
-- front holds up that of each
pub record Kept : Type 0 where
  pub fronts : List (Option Front)
  pub counts : List ℕ
  pub holds : List ℕ

-- the earliest stamp of these fronts; none where there is no front
abbrev pub IsLeastOf : List (Option Front) → Option Stamp → Type 0
IsLeastOf fronts None = (p : ℕ) → slice_index_or fronts p None ≡ None
IsLeastOf fronts (Some s) =
    ((p : ℕ) × (f : Front) × (slice_index_or fronts p None ≡ Some f) × (f.stamp ≡ s))
    × ((p : ℕ) (f : Front) → slice_index_or fronts p None ≡ Some f → IsBefore f.stamp s → ⊥)
