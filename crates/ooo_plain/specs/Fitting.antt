-- What an activation of a sound design leaves: effects that may be applied, and a wait for what is there.
use Rattle.std.specs.Prelude.{◌≡◌, ℕ, ◌<◌, ◌≤◌, true, length, IfSome, All, Some, slice_get}
use Rattle.ooo_time.specs.declared.stamp.Stamp.{Stamp}
use Rattle.ooo_time.specs.Scales.{greatest_time}
use Rattle.ooo_code.specs.declared.activation.Frame.{Frame}
use Rattle.ooo_code.specs.declared.activation.JobEnd.{JobEnd}
use Rattle.ooo_code.specs.declared.activation.JobEnd.TheVariants as job
use Rattle.ooo_code.specs.declared.activation.WaitOn.{WaitOn}
use Rattle.ooo_code.specs.declared.design.Design.{Design}
use Rattle.ooo_code.specs.declared.design.Proc.{Proc}
use Rattle.ooo_code.specs.declared.node.Node.{Node}
use Rattle.ooo_code.specs.declared.segment.SegmentEntry.{SegmentEntry}
use Rattle.ooo_code.specs.declared.segment.SegmentEntry.TheVariants.{Start, After}
use Rattle.ooo_code.specs.Outcomes.{Outcome}
use Rattle.ooo_code.specs.Segments.{IsNodeOf, is_wait}
use Rattle.ooo_channels.specs.Operations.{Operations}
use Rattle.ooo_channels.specs.Conditions.{Names, MayApplyAll}

-- the node of this number is a wait of the process
pub record IsWaitOf (design : Design) (process : Proc) (n : ℕ) : Type 0 where
  pub node : Node
  pub is : slice_get design.nodes n ≡ Some node
  pub own : IsNodeOf process n
  pub wait : is_wait node ≡ true

-- a process may go on from it: its start, or a wait of its own
abbrev pub FitsEntry : Design → Proc → SegmentEntry → Type 0
FitsEntry design process Start = Unit {0}
FitsEntry design process (After n) = IsWaitOf design process n

-- the events that are waited on are there, and the time is one that a model may name
pub record FitsWaitOn (design : Design) (on : WaitOn) : Type 0 where
  pub events : All (λ e. e < length design.events) on.events
  pub time : IfSome on.time (λ k. k.0 ≤ greatest_time)

-- where an activation ends by a wait, it is one for what is there
abbrev pub FitsEnd : Design → JobEnd → Type 0
FitsEnd design (job.Waits on) = FitsWaitOn design on
FitsEnd design _ = Unit {0}

-- what an activation did may be done at a stamp, and its process may go on
pub record IsFitting (design : Design) (process : Proc) (ops : Operations) (at : Stamp) (o : Outcome Frame) : Type 0 where
  pub names : All (Names ops) o.deed.effects
  pub may : MayApplyAll ops at o.deed.effects
  pub entry : FitsEntry design process o.next.entry
  pub end : FitsEnd design o.deed.end
