-- Edges within processes: which segment can follow which, and by what delay at the earliest.
use Rattle.std.specs.Prelude.{◌≡◌, ℕ, ◌<◌, ◌≤◌, ◌⊎◌, ◌↔◌, List, [], ◌∷◌, Option, Some, None, slice_get, Contains, IsSomeAnd, AllPairs}
use Rattle.ooo_time.specs.declared.time.Time.{Time}
use Rattle.ooo_time.specs.declared.delay.Delay.{Delay}
use Rattle.ooo_time.specs.Scales.{greatest_time}
use Rattle.ooo_value.specs.declared.bound.ProcessKind.{ProcessKind}
use Rattle.ooo_value.specs.declared.bound.ProcessKind.TheVariants.{Thread, Method}
use Rattle.ooo_code.specs.declared.design.Design.{Design}
use Rattle.ooo_code.specs.declared.node.NodeKind.{NodeKind}
use Rattle.ooo_code.specs.declared.node.NodeKind.TheVariants as kind
use Rattle.ooo_code.specs.declared.node.NodeTime.{NodeTime}
use Rattle.ooo_code.specs.declared.node.NodeWait.{NodeWait}
use Rattle.ooo_code.specs.declared.segment.Segment.{Segment}
use Rattle.ooo_code.specs.declared.segment.SegmentEntry.{SegmentEntry}
use Rattle.ooo_code.specs.declared.segment.SegmentEntry.TheVariants.{Start, After}
use Rattle.ooo_code.specs.Touches.{constant_delay}
use Rattle.ooo_segments.specs.declared.graphs.Edge.{Edge}

-- ---- delays

-- one delta cycle
abbrev pub one_delta : Delay
one_delta = record { time = record { 0 = 0 }; deltas = 1 }

-- the delay of a constant time above zero; where there is none, of one delta cycle
abbrev pub delay_after : Option Time → Delay
delay_after None = one_delta
delay_after (Some t) = record { time = t; deltas = 0 }

-- the constant time above zero that a wait's time is, if it has one
abbrev pub constant_wait : Option NodeTime → Option Time
constant_wait None = None
constant_wait (Some t) = constant_delay t

-- a wait for a constant time above zero alone takes that time, and every other wait one delta cycle
abbrev pub delay_by : Option NodeTime → (events : List ℕ) → Delay
delay_by t [] = delay_after (constant_wait t)
delay_by t (e ∷ es) = one_delta

-- the delay of a wait
abbrev pub delay_of : NodeWait → Delay
delay_of wait = delay_by wait.time wait.events

-- a delay that an edge may have: one delta cycle, or a time above zero
abbrev pub IsStep : Delay → Type 0
IsStep d = ((d.time.0 ≡ 0) × (d.deltas ≡ 1)) ⊎ ((0 < d.time.0) × (d.time.0 ≤ greatest_time) × (d.deltas ≡ 0))

-- ---- edges

-- the node is a wait that takes this delay
abbrev pub IsWaitBy : NodeKind → Delay → Type 0
IsWaitBy (kind.Wait w) d = d ≡ delay_of w
IsWaitBy _ d = ⊥

-- among these nodes is the wait after which the entry is
abbrev pub EndsBefore : Design → (nodes : List ℕ) → SegmentEntry → Delay → Type 0
EndsBefore design nodes Start d = ⊥
EndsBefore design nodes (After wait) d = Contains nodes wait × IsSomeAnd (slice_get design.nodes wait) (λ node. IsWaitBy node.kind d)

-- in a thread a segment is followed by each that begins after a wait of its nodes; that of a method follows itself
abbrev pub FollowsAs : Design → ProcessKind → (from to : ℕ) → Segment → Segment → Delay → Type 0
FollowsAs design Thread from to a b d = EndsBefore design a.nodes b.entry d
FollowsAs design Method from to a b d = (to ≡ from) × (d ≡ one_delta)

-- segment b, number `to`, can follow segment a, number `from`, in their process by this delay
abbrev pub Follows : Design → (from to : ℕ) → Segment → Segment → Delay → Type 0
Follows design from to a b d =
    (b.process ≡ a.process) × IsSomeAnd (slice_get design.processes a.process) (λ process. FollowsAs design process.kind from to a b d)

-- an edge between two of these segments
abbrev pub IsEdge : Design → List Segment → Edge → Type 0
IsEdge design segments edge =
    IsSomeAnd (slice_get segments edge.from) (λ a. IsSomeAnd (slice_get segments edge.to) (λ b. Follows design edge.from edge.to a b edge.delay))

-- an edge stands before the pair of these segments
abbrev pub IsBeforePair : Edge → (from to : ℕ) → Type 0
IsBeforePair edge from to = (edge.from < from) ⊎ ((edge.from ≡ from) × (edge.to < to))

-- edges in order: by the first segment, then by the second
abbrev pub AreInOrder : List Edge → Type 0
AreInOrder edges = AllPairs (λ e f. IsBeforePair e f.from f.to) edges

-- all edges before a pair of segments, in order
pub record AreEdgesBefore (design : Design) (segments : List Segment) (from to : ℕ) (edges : List Edge) : Type 0 where
  pub exact : (e : Edge) → Contains edges e ↔ (IsEdge design segments e × IsBeforePair e from to)
  pub in_order : AreInOrder edges

-- all edges between two of these segments, in order
pub record AreEdges (design : Design) (segments : List Segment) (edges : List Edge) : Type 0 where
  pub exact : (e : Edge) → Contains edges e ↔ IsEdge design segments e
  pub in_order : AreInOrder edges

-- an edge between two of so many segments, by a delay that an edge may have
pub record IsLink (count : ℕ) (edge : Edge) : Type 0 where
  pub from : edge.from < count
  pub to : edge.to < count
  pub delay : IsStep edge.delay
