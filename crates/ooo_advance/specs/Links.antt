-- A table of the least delays of the edges between segments.
use Rattle.std.specs.Prelude.{◌≡◌, ℕ, ◌<◌, ◌≤◌, List, [], Option, Some, All, length, slice_get, slice_index_or}
use Rattle.ooo_time.specs.declared.delay.Delay.{Delay}
use Rattle.ooo_segments.specs.declared.graphs.Edge.{Edge}
use Rattle.ooo_segments.specs.declared.graphs.Graph.{Graph}
use Rattle.ooo_access.specs.declared.access.Access.{Access}
use Rattle.ooo_advance.specs.Orders.{IsLesser, IsLeastOf}
use Rattle.ooo_advance.specs.Rows.{delay_at, entry_at}
use Rattle.ooo_advance.specs.Walks.{IsEdge, Notifies, edge_of}

-- the least delays by which a segment notifies an event on which each of these waits
pub record AreNotices (from : Access) (access : List Access) (row : List (Option Delay)) : Type 0 where
  pub count : length row ≡ length access
  pub least : (v : ℕ) (to : Access) → slice_get access v ≡ Some to → IsLeastOf (Notifies from to) (delay_at row v)

-- such a row for each of these segments
pub record AreNoticeRows (these access : List Access) (links : List (List (Option Delay))) : Type 0 where
  pub count : length links ≡ length these
  pub rows : (n : ℕ) (from : Access) → slice_get these n ≡ Some from → AreNotices from access (slice_index_or links n [])

-- each row is this long
abbrev pub HasRows : ℕ → List (List (Option Delay)) → Type 0
HasRows count links = All (λ row. length row ≡ count) links

-- of any two segments the least delay of the edges from the first to the second
pub record IsLinkTable (graph : Graph) (access : List Access) (links : List (List (Option Delay))) : Type 0 where
  pub count : length links ≡ length access
  pub rows : HasRows (length access) links
  pub least : (n v : ℕ) → n < length access → v < length access → IsLeastOf (λ k. IsEdge graph access (edge_of n v k)) (entry_at links n v)

-- an edge was added to a table: what that says of the edge's two segments is the lesser of both, and the rest stays
pub record IsAdded (links : List (List (Option Delay))) (edge : Edge) (links' : List (List (Option Delay))) : Type 0 where
  pub count : length links' ≡ length links
  pub rows : (count : ℕ) → HasRows count links → HasRows count links'
  pub now : Delay
  pub lesser : IsLesser (entry_at links edge.from edge.to) edge.delay now
  pub here : entry_at links' edge.from edge.to ≡ Some now
  pub others : (n v : ℕ) → ((n ≡ edge.from) × (v ≡ edge.to) → ⊥) → entry_at links' n v ≡ entry_at links n v

-- no delay of the table has more than one delta cycle
abbrev pub HasSteps : List (List (Option Delay)) → Type 0
HasSteps links = (n v : ℕ) (k : Delay) → entry_at links n v ≡ Some k → k.deltas ≤ 1
