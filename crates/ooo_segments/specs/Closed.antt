-- What a design must keep so that its segments can be told: that its processes are closed.
use Rattle.std.specs.Prelude.{◌≡◌, ℕ, ◌<◌, ◌≤◌, Some, length, slice_get, All, IfSome}
use Rattle.ooo_time.specs.Scales.{greatest_time}
use Rattle.ooo_code.specs.declared.design.Design.{Design}
use Rattle.ooo_code.specs.declared.design.Proc.{Proc}
use Rattle.ooo_code.specs.declared.node.Node.{Node}
use Rattle.ooo_code.specs.declared.node.NodeKind.{NodeKind}
use Rattle.ooo_code.specs.declared.node.NodeKind.TheVariants as kind
use Rattle.ooo_code.specs.declared.node.NodeTime.{NodeTime}
use Rattle.ooo_code.specs.declared.node.NodeTime.TheVariants as time
use Rattle.ooo_code.specs.Segments.{followers, IsNodeOf}

-- a constant time is at most the greatest one
abbrev pub IsBounded : NodeTime → Type 0
IsBounded (time.Fixed t) = t.0 ≤ greatest_time
IsBounded (time.Amount e scale) = Unit {0}

-- where the node is a wait, its time is bounded
abbrev pub WaitsBounded : NodeKind → Type 0
WaitsBounded (kind.Wait w) = IfSome w.time IsBounded
WaitsBounded _ = Unit {0}

-- a node leads to nodes of its process alone, and its wait is bounded
pub record StaysIn (process : Proc) (node : Node) : Type 0 where
  pub own : All (IsNodeOf process) (followers node)
  pub wait : WaitsBounded node.kind

-- a process has a node, its nodes are there, and each stays in it
pub record IsClosed (design : Design) (process : Proc) : Type 0 where
  pub some : process.first < process.end
  pub within : process.end ≤ length design.nodes
  pub nodes : (n : ℕ) (node : Node) → IsNodeOf process n → slice_get design.nodes n ≡ Some node → StaysIn process node

-- each process is closed
abbrev pub AreClosed : Design → Type 0
AreClosed design = All (IsClosed design) design.processes
