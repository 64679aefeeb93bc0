-- When a row of delays has the least sums: nothing that it has can be lowered along an edge.
use Rattle.std.specs.Prelude.{◌≡◌, ℕ, ◌≤◌, List, Option, Some}
use Rattle.ooo_time.specs.declared.delay.Delay.{Delay}
use Rattle.ooo_time.specs.Delays.{joined}
use Rattle.ooo_time.specs.Scales.{greatest_time}
use Rattle.ooo_segments.specs.declared.graphs.Edge.{Edge}
use Rattle.ooo_segments.specs.declared.graphs.Graph.{Graph}
use Rattle.ooo_access.specs.declared.access.Access.{Access}
use Rattle.ooo_advance.specs.Orders.{HasAtMost}
use Rattle.ooo_advance.specs.Rows.{delay_at}
use Rattle.ooo_advance.specs.Walks.{IsEdge, HasWalk, no_delay}

-- each delay of the row is the sum of a walk from a, and what comes by an edge from a segment of the row isn't less
pub record IsSettled (graph : Graph) (access : List Access) (a : ℕ) (row : List (Option Delay)) : Type 0 where
  pub walks : (b : ℕ) (d : Delay) → delay_at row b ≡ Some d → HasWalk graph access a b d × (d.time.0 ≤ greatest_time)
  pub start : delay_at row a ≡ Some no_delay
  pub closed : (e : Edge) (d : Delay) → delay_at row e.from ≡ Some d → IsEdge graph access e → (joined d e.delay).time.0 ≤ greatest_time → HasAtMost (delay_at row e.to) (joined d e.delay)
