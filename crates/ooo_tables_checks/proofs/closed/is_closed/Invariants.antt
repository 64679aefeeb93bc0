-- The nodes so far stay in their process.
use Rattle.std.proofs.Common.{◌≡◌, ℕ, ◌<◌, ◌≤◌, Some}
use Rattle.std.specs.Prelude.{slice_get}
use Rattle.ooo_code.specs.declared.node.Node.{Node}
use Rattle.ooo_segments.specs.Closed.{StaysIn}
use Rattle.ooo_tables_checks.proofs.closed.is_closed.Given as goal

abbrev pub invariant-loop-n : goal.invariant-loop-n
invariant-loop-n l = (k : ℕ) (node : Node) → l.process.first ≤ k → k < l.n → slice_get l.design.nodes k ≡ Some node → StaysIn l.process node
