-- Tables of delays.
use Rattle.std.specs.Prelude.{◌≡◌, ℕ, ◌<◌, ◌≤◌, List, [], Option, None, Some, length, slice_index_or}
use Rattle.ooo_time.specs.declared.delay.Delay.{Delay}
use Rattle.ooo_time.specs.Delays.{greatest_deltas}
use Rattle.ooo_time.specs.Scales.{greatest_time}
use Rattle.ooo_segments.specs.declared.graphs.Graph.{Graph}
use Rattle.ooo_access.specs.declared.access.Access.{Access}
use Rattle.ooo_advance.specs.Walks.{IsLeast}

-- what a row says of a segment
abbrev pub delay_at : List (Option Delay) → ℕ → Option Delay
delay_at row b = slice_index_or row b None

-- what a table says of two segments
abbrev pub entry_at : List (List (Option Delay)) → (a b : ℕ) → Option Delay
entry_at rows a b = delay_at (slice_index_or rows a []) b

-- a delay that can be added to a stamp
pub record IsAddable (d : Delay) : Type 0 where
  pub time : d.time.0 ≤ greatest_time
  pub deltas : d.deltas ≤ greatest_deltas

-- each delay of the row is such a one
abbrev pub AreAddable : List (Option Delay) → Type 0
AreAddable row = (b : ℕ) (d : Delay) → delay_at row b ≡ Some d → IsAddable d

-- of any two segments the table has the least delay
pub record IsTable (graph : Graph) (access : List Access) (rows : List (List (Option Delay))) : Type 0 where
  pub count : length rows ≡ length access
  pub least : (a b : ℕ) → a < length access → b < length access → IsLeast graph access a b (entry_at rows a b)
