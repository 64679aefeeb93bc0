-- A search for the least sums from a segment, turn by turn: in each the nearest segment that isn't done yet is done, and the
-- edges from it lower what is known of the others.
use Rattle.std.specs.Prelude.{◌≡◌, ℕ, ◌<◌, ◌≤◌, ◌⊎◌, List, [], Bool, false, Option, Some, length, slice_index_or}
use Rattle.ooo_time.specs.declared.delay.Delay.{Delay}
use Rattle.ooo_time.specs.Delays.{joined}
use Rattle.ooo_time.specs.Scales.{greatest_time}
use Rattle.ooo_segments.specs.declared.graphs.Edge.{Edge}
use Rattle.ooo_segments.specs.declared.graphs.Graph.{Graph}
use Rattle.ooo_segments.specs.Numbers.{IsIn}
use Rattle.ooo_access.specs.declared.access.Access.{Access}
use Rattle.ooo_advance.specs.Orders.{AtMost, HasAtMost}
use Rattle.ooo_advance.specs.Rows.{delay_at}
use Rattle.ooo_advance.specs.Walks.{IsEdge, HasWalk, edge_of, no_delay}

-- a row of the least delays of the edges from a segment
pub record AreLinks (graph : Graph) (access : List Access) (n : ℕ) (links : List (Option Delay)) : Type 0 where
  pub edges : (v : ℕ) (k : Delay) → delay_at links v ≡ Some k → IsEdge graph access (edge_of n v k)
  pub least : (e : Edge) → e.from ≡ n → IsEdge graph access e → HasAtMost (delay_at links e.to) e.delay

-- a delay and an edge after it, within the greatest time
abbrev pub Fits : Delay → Delay → Type 0
Fits d k = (joined d k).time.0 ≤ greatest_time

-- the search under way
pub record IsUnderWay (graph : Graph) (access : List Access) (a : ℕ) (row : List (Option Delay)) (done : List Bool) : Type 0 where
  pub walks : (b : ℕ) (d : Delay) → delay_at row b ≡ Some d → HasWalk graph access a b d × (d.time.0 ≤ greatest_time)
  pub start : delay_at row a ≡ Some no_delay
  pub reached : (v : ℕ) → IsIn done v → (d : Delay) × (delay_at row v ≡ Some d)
  pub closed : (e : Edge) (d : Delay) → IsIn done e.from → delay_at row e.from ≡ Some d → IsEdge graph access e → Fits d e.delay → HasAtMost (delay_at row e.to) (joined d e.delay)
  pub order : (u v : ℕ) (d k : Delay) → IsIn done u → (IsIn done v → ⊥) → delay_at row u ≡ Some d → delay_at row v ≡ Some k → AtMost d k

-- segment n is the nearest of those that aren't done, by this delay
pub record IsNearest (row : List (Option Delay)) (done : List Bool) (n : ℕ) (x : Delay) : Type 0 where
  pub not_done : IsIn done n → ⊥
  pub is : delay_at row n ≡ Some x
  pub nearest : (v : ℕ) (k : Delay) → (IsIn done v → ⊥) → delay_at row v ≡ Some k → AtMost x k

-- what is known of those that aren't done was lowered along these edges, from a segment of this delay
pub record IsLowered (done : List Bool) (row row' links : List (Option Delay)) (x : Delay) : Type 0 where
  pub kept : (v : ℕ) → IsIn done v → delay_at row' v ≡ delay_at row v
  pub less : (v : ℕ) (d : Delay) → delay_at row v ≡ Some d → HasAtMost (delay_at row' v) d
  pub lowered : (v : ℕ) (k : Delay) → (IsIn done v → ⊥) → delay_at links v ≡ Some k → Fits x k → HasAtMost (delay_at row' v) (joined x k)
  pub from : (v : ℕ) (d : Delay) → delay_at row' v ≡ Some d → (delay_at row v ≡ Some d) ⊎ ((k : Delay) × (delay_at links v ≡ Some k) × Fits x k × (d ≡ joined x k))

-- a segment was found that is at most this far
pub record IsNearBy (found : Option (ℕ × Delay)) (delay : Delay) : Type 0 where
  pub has : ℕ × Delay
  pub is : found ≡ Some has
  pub at_most : AtMost has.1 delay

-- what was known of a segment was lowered to what comes by a link, after a segment of this delay
pub record IsLoweredTo (known link : Option Delay) (x : Delay) (lowered : Option Delay) : Type 0 where
  pub less : (d : Delay) → known ≡ Some d → HasAtMost lowered d
  pub by_link : (k : Delay) → link ≡ Some k → Fits x k → HasAtMost lowered (joined x k)
  pub from : (d : Delay) → lowered ≡ Some d → (known ≡ Some d) ⊎ ((k : Delay) × (link ≡ Some k) × Fits x k × (d ≡ joined x k))

-- the nearer of the best so far and segment n, which counts where it has a delay and isn't done
pub record IsNearer (best : Option (ℕ × Delay)) (n : ℕ) (delay : Option Delay) (is_done : Bool) (nearer : Option (ℕ × Delay)) : Type 0 where
  pub one_of : (x : ℕ × Delay) → nearer ≡ Some x → (best ≡ Some x) ⊎ ((is_done ≡ false) × (x.0 ≡ n) × (delay ≡ Some x.1))
  pub than_best : (x : ℕ × Delay) → best ≡ Some x → IsNearBy nearer x.1
  pub than_this : (d : Delay) → is_done ≡ false → delay ≡ Some d → IsNearBy nearer d

-- each link of the segments is one of their edges, and the least to its segment
abbrev pub AllLinks : Graph → List Access → List (List (Option Delay)) → Type 0
AllLinks graph access links = (n : ℕ) → n < length links → AreLinks graph access n (slice_index_or links n [])

-- none of the segments below n that aren't done has a delay
abbrev pub HasNone : List (Option Delay) → List Bool → ℕ → Type 0
HasNone row done n = (v : ℕ) (k : Delay) → v < n → (IsIn done v → ⊥) → delay_at row v ≡ Some k → ⊥
