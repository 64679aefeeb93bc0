-- An activation does and ends as the nodes of its segment say.
use Rattle.std.specs.Prelude.{◌≡◌, ℕ, Option, Some, None, ⊤, slice_get}
use Rattle.std.specs.List.{AllByRecursion}
use Rattle.ooo_time.specs.declared.time.Time.{Time}
use Rattle.ooo_value.specs.declared.bound.ProcessKind.TheVariants.{Method}
use Rattle.ooo_code.specs.declared.activation.Effect.{Effect}
use Rattle.ooo_code.specs.declared.activation.Effect.TheVariants as effect
use Rattle.ooo_code.specs.declared.activation.Frame.{Frame}
use Rattle.ooo_code.specs.declared.activation.JobEnd.{JobEnd}
use Rattle.ooo_code.specs.declared.activation.JobEnd.TheVariants as job
use Rattle.ooo_code.specs.declared.activation.WaitOn.{WaitOn}
use Rattle.ooo_code.specs.declared.design.Design.{Design}
use Rattle.ooo_code.specs.declared.design.Proc.{Proc}
use Rattle.ooo_code.specs.declared.node.Node.{Node}
use Rattle.ooo_code.specs.declared.node.NodeKind.{NodeKind}
use Rattle.ooo_code.specs.declared.node.NodeKind.TheVariants as kind
use Rattle.ooo_code.specs.declared.node.NodeTime.{NodeTime}
use Rattle.ooo_code.specs.declared.node.NodeWait.{NodeWait}
use Rattle.ooo_code.specs.declared.segment.SegmentEntry.{SegmentEntry}
use Rattle.ooo_code.specs.declared.segment.SegmentEntry.TheVariants.{Start, After}
use Rattle.ooo_code.specs.Outcomes.{Outcome}
use Rattle.ooo_code.specs.Segments.{InSegment}
use Rattle.ooo_code.specs.Touches.{constant_delay}

-- ---- times

-- a time is the constant one above zero, where there is one
abbrev pub IsAsSaid : Time → Option Time → Type 0
IsAsSaid k None = ⊤
IsAsSaid k (Some t) = k ≡ t

-- the time-out of a wait: there is one where the node has a time
abbrev pub IsTimeOf : Option NodeTime → Option Time → Type 0
IsTimeOf None None = ⊤
IsTimeOf (Some t) (Some k) = IsAsSaid k (constant_delay t)
IsTimeOf _ _ = ⊥

-- ---- effects

-- a node of this kind has this effect: a notification has the node's constant time, where there is one
abbrev pub Makes : NodeKind → Effect → Type 0
Makes (kind.Write c x) (effect.Request d v) = c ≡ d
Makes (kind.Put c x) (effect.Put d v) = c ≡ d
Makes (kind.Take c n) (effect.Take d) = c ≡ d
Makes (kind.Notify e t) (effect.Notify f k) = (e ≡ f) × IsAsSaid k (constant_delay t)
Makes (kind.Cancel e) (effect.Cancel f) = e ≡ f
Makes kind.Stop effect.Stop = ⊤
Makes _ _ = ⊥

-- some node of the segment has this effect
pub record IsMade (design : Design) (process : Proc) (entry : SegmentEntry) (f : Effect) : Type 0 where
  pub number : ℕ
  pub node : Node
  pub within : InSegment design process entry number
  pub is : slice_get design.nodes number ≡ Some node
  pub makes : Makes node.kind f

-- ---- how it ends

-- node n of the segment is a wait, and this is what it waits on
pub record IsWaitAt (design : Design) (process : Proc) (entry : SegmentEntry) (n : ℕ) (on : WaitOn) : Type 0 where
  pub node : Node
  pub wait : NodeWait
  pub within : InSegment design process entry n
  pub is : slice_get design.nodes n ≡ Some node
  pub kind_is : node.kind ≡ kind.Wait wait
  pub time : IsTimeOf wait.time on.time
  pub events : on.events ≡ wait.events

-- some node of the segment is a next_trigger, and this is what it names
pub record IsTriggered (design : Design) (process : Proc) (entry : SegmentEntry) (on : WaitOn) : Type 0 where
  pub number : ℕ
  pub node : Node
  pub wait : NodeWait
  pub within : InSegment design process entry number
  pub is : slice_get design.nodes number ≡ Some node
  pub kind_is : node.kind ≡ kind.Trigger wait
  pub time : IsTimeOf wait.time on.time
  pub events : on.events ≡ wait.events

-- what a method waits on that named nothing
abbrev pub static_wait : Proc → WaitOn
static_wait process = record { time = None; events = process.sensitive }

-- it waits behind a wait of the segment; or it is that of a method, which waits on what was named last, else on its static events
pub data WaitsAs (design : Design) (process : Proc) (entry : SegmentEntry) : WaitOn → SegmentEntry → Type 0 where
  behind : (n : ℕ) (on : WaitOn) → IsWaitAt design process entry n on → WaitsAs design process entry on (After n)
  static : process.kind ≡ Method → WaitsAs design process entry (static_wait process) Start
  triggered : (on : WaitOn) → process.kind ≡ Method → IsTriggered design process entry on → WaitsAs design process entry on Start

abbrev pub EndsAs : Design → Proc → SegmentEntry → JobEnd → (next : SegmentEntry) → Type 0
EndsAs design process entry (job.Waits on) next = WaitsAs design process entry on next
EndsAs design process entry _ next = ⊤

-- its effects are those of nodes of its segment, and it ends as they say
pub record DoesAsSaid (design : Design) (process : Proc) (entry : SegmentEntry) (o : Outcome Frame) : Type 0 where
  pub effects : AllByRecursion (IsMade design process entry) o.deed.effects
  pub end : EndsAs design process entry o.deed.end o.next.entry
