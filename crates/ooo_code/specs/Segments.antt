-- Segments: the nodes that a process may run up to its next wait.
use Rattle.std.specs.Prelude.{◌≡◌, ℕ, ◌-◌, ◌<◌, ◌≤◌, ◌⊎◌, ◌↔◌, List, [], ◌∷◌, map, take, drop, Bool, true, false, Some, slice_get, if◌then◌else◌, Contains, IsSomeAnd, AllPairs}
use Rattle.ooo_value.specs.declared.bound.ProcessKind.{ProcessKind}
use Rattle.ooo_value.specs.declared.bound.ProcessKind.TheVariants.{Thread, Method}
use Rattle.ooo_code.specs.declared.design.Design.{Design}
use Rattle.ooo_code.specs.declared.design.Proc.{Proc}
use Rattle.ooo_code.specs.declared.node.Node.{Node}
use Rattle.ooo_code.specs.declared.node.NodeKind.{NodeKind}
use Rattle.ooo_code.specs.declared.node.NodeKind.TheVariants as kind
use Rattle.ooo_code.specs.declared.segment.Segment.{Segment}
use Rattle.ooo_code.specs.declared.segment.SegmentEntry.{SegmentEntry}
use Rattle.ooo_code.specs.declared.segment.SegmentEntry.TheVariants.{Start, After}
use Rattle.ooo_code.specs.Nodes.{entry_node}
use Rattle.ooo_code.specs.Touches.{Touch, touched_by, numbers_where}

-- ---- the way from node to node

-- the nodes to which one leads within a segment: both ways of a test, and none of a wait or an end
abbrev pub leads_to : NodeKind → (next : ℕ) → List ℕ
leads_to (kind.Test e no_to) next = next ∷ no_to ∷ []
leads_to (kind.TestAvailable c no_to) next = next ∷ no_to ∷ []
leads_to (kind.TestFree c no_to) next = next ∷ no_to ∷ []
leads_to (kind.Wait w) next = []
leads_to kind.End next = []
leads_to _ next = next ∷ []

-- the nodes to which a node leads within its segment
abbrev pub successors : Node → List ℕ
successors node = leads_to node.kind node.next

-- the node ends its segment by a wait
abbrev pub is_wait : Node → Bool
is_wait node = elim node.kind [ kind.Wait w ↦ true | _ ↦ false ]

-- the node that a wait leads to belongs to the next segment; every other way leads to a node of the same one
abbrev pub followers : Node → List ℕ
followers node = if is_wait node then node.next ∷ [] else successors node

-- node b is reachable from node a without passing a wait
pub data Reaches (nodes : List Node) : ℕ → ℕ → Type 0 where
  here : {a : ℕ} → Reaches nodes a a
  further : {a b c : ℕ} {node : Node} → Reaches nodes a b → slice_get nodes b ≡ Some node → Contains (successors node) c → Reaches nodes a c

-- ---- segments

-- node n is of the process
pub record IsNodeOf (process : Proc) (n : ℕ) : Type 0 where
  pub from : process.first ≤ n
  pub below : n < process.end

-- node n is in the segment of the process that begins at the entry
abbrev pub InSegment : Design → Proc → SegmentEntry → ℕ → Type 0
InSegment design process entry n = Reaches design.nodes (entry_node design process entry) n

-- the nodes of a process, in order
abbrev pub nodes_of : Design → Proc → List Node
nodes_of design process = take (process.end - process.first) (drop process.first design.nodes)

-- the entries of a process's segments: its start, and then its waits in order of number
abbrev pub entries_of : Design → Proc → List SegmentEntry
entries_of design process = Start ∷ map After (numbers_where is_wait process.first (nodes_of design process))

-- the nodes of a segment, ascending
pub record IsSegmentOf (design : Design) (process : Proc) (segment : Segment) : Type 0 where
  pub entry : Contains (entries_of design process) segment.entry
  pub nodes : (n : ℕ) → Contains segment.nodes n ↔ InSegment design process segment.entry n
  pub ascending : AllPairs (λ m n. m < n) segment.nodes

-- a segment of the design
abbrev pub IsSegment : Design → Segment → Type 0
IsSegment design segment = IsSomeAnd (slice_get design.processes segment.process) (λ process. IsSegmentOf design process segment)

-- ---- what a segment touches, and what its entry waits on

-- some node of the segment touches it
pub record Accesses (design : Design) (process : Proc) (entry : SegmentEntry) (touch : Touch) : Type 0 where
  pub number : ℕ
  pub node : Node
  pub within : InSegment design process entry number
  pub is : slice_get design.nodes number ≡ Some node
  pub touches : Contains (touched_by design.events node.kind) touch

-- the events that a trigger names
abbrev pub trigger_events : NodeKind → List ℕ
trigger_events (kind.Trigger w) = w.events
trigger_events _ = []

-- the events that a wait names
abbrev pub wait_events : NodeKind → List ℕ
wait_events (kind.Wait w) = w.events
wait_events _ = []

-- a next_trigger of the process's segment names the event
pub record IsTriggerOf (design : Design) (process : Proc) (e : ℕ) : Type 0 where
  pub number : ℕ
  pub node : Node
  pub within : InSegment design process Start number
  pub is : slice_get design.nodes number ≡ Some node
  pub names : Contains (trigger_events node.kind) e

-- the start of a process waits on its static events where it isn't initialized; that of a method always waits on these,
-- and on the events that a next_trigger of its body names
abbrev pub StartWaitsOn : Design → Proc → ProcessKind → ℕ → Type 0
StartWaitsOn design process Thread e = (process.initialize ≡ false) × Contains process.sensitive e
StartWaitsOn design process Method e = Contains process.sensitive e ⊎ IsTriggerOf design process e

-- the entry of a segment waits on an event: after a wait, on those that it names
abbrev pub EntryWaitsOn : Design → Proc → SegmentEntry → ℕ → Type 0
EntryWaitsOn design process Start e = StartWaitsOn design process process.kind e
EntryWaitsOn design process (After wait) e = IsSomeAnd (slice_get design.nodes wait) (λ node. Contains (wait_events node.kind) e)
