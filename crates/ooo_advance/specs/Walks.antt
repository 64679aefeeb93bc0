-- Walks over segments, and the least delay by which one can come after another.
use Rattle.std.specs.Prelude.{◌≡◌, ℕ, ◌<◌, ◌⊎◌, List, [], ◌∷◌, Option, None, Some, Contains, slice_get}
use Rattle.ooo_time.specs.declared.time.Time.{Time}
use Rattle.ooo_time.specs.declared.delay.Delay.{Delay}
use Rattle.ooo_time.specs.Delays.{IsLess, joined}
use Rattle.ooo_time.specs.Scales.{greatest_time}
use Rattle.ooo_segments.specs.declared.graphs.Edge.{Edge}
use Rattle.ooo_segments.specs.declared.graphs.Graph.{Graph}
use Rattle.ooo_segments.specs.Edges.{delay_after}
use Rattle.ooo_access.specs.declared.access.Access.{Access}

-- ---- edges

-- one notifies an event, by this delay, on which the entry of the other waits
pub record Notifies (from to : Access) (delay : Delay) : Type 0 where
  pub event : ℕ
  pub time : Option Time
  pub notified : Contains from.notified (event, time)
  pub waited : Contains to.waited event
  pub is : delay ≡ delay_after time

-- an edge between segments of which one notifies an event on which the other waits
pub record IsNotice (access : List Access) (edge : Edge) : Type 0 where
  pub before : Access
  pub after : Access
  pub from : slice_get access edge.from ≡ Some before
  pub to : slice_get access edge.to ≡ Some after
  pub notifies : Notifies before after edge.delay

-- an edge by its parts
abbrev pub edge_of : (from to : ℕ) → Delay → Edge
edge_of from to delay = record { from = from; to = to; delay = delay }

-- an edge within a process, or one by a notification
abbrev pub IsEdge : Graph → List Access → Edge → Type 0
IsEdge graph access edge = Contains graph.edges edge ⊎ IsNotice access edge

-- ---- walks

-- these edges lead from segment a to segment b, one after the other
abbrev pub Walk : Graph → List Access → (a b : ℕ) → List Edge → Type 0
Walk graph access a b [] = a ≡ b
Walk graph access a b (e ∷ es) = (e.from ≡ a) × IsEdge graph access e × Walk graph access e.to b es

-- no delay
abbrev pub no_delay : Delay
no_delay = record { time = record { 0 = 0 }; deltas = 0 }

-- a delay and those of the edges after it, joined one after the other
abbrev pub sum_from : Delay → List Edge → Delay
sum_from d [] = d
sum_from d (e ∷ es) = sum_from (joined d e.delay) es

-- the sum of a walk
abbrev pub sum_of : List Edge → Delay
sum_of es = sum_from no_delay es

-- ---- the least sum

-- a walk has the sum
pub record HasWalk (graph : Graph) (access : List Access) (a b : ℕ) (d : Delay) : Type 0 where
  pub edges : List Edge
  pub walk : Walk graph access a b edges
  pub sum : sum_of edges ≡ d

-- no walk has a lesser sum
abbrev pub NoLess : Graph → List Access → (a b : ℕ) → Delay → Type 0
NoLess graph access a b d = (es : List Edge) → Walk graph access a b es → ¬ IsLess (sum_of es) d

-- each walk, if there is one, takes more than the greatest time
abbrev pub AllBeyond : Graph → List Access → (a b : ℕ) → Type 0
AllBeyond graph access a b = (es : List Edge) → Walk graph access a b es → greatest_time < (sum_of es).time.0

-- the least sum of the walks from a to b, or none where each takes more than the greatest time
abbrev pub IsLeast : Graph → List Access → (a b : ℕ) → Option Delay → Type 0
IsLeast graph access a b None = AllBeyond graph access a b
IsLeast graph access a b (Some d) = HasWalk graph access a b d × NoLess graph access a b d
