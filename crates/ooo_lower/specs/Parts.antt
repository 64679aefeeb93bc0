-- Parts of the nodes of a statement.
use Rattle.std.specs.Prelude.{ℕ, List}
use Rattle.ooo_value.specs.declared.kinds.Kind.{Kind}
use Rattle.ooo_value.specs.declared.operators.Op.{Op}
use Rattle.ooo_code.specs.declared.expression.NodeExpr.{NodeExpr}
use Rattle.ooo_code.specs.declared.expression.NodeExpr.TheVariants as node
use Rattle.ooo_code.specs.declared.node.Node.{Node}
use Rattle.ooo_code.specs.declared.node.NodeKind.{NodeKind}
use Rattle.ooo_code.specs.declared.node.NodeKind.TheVariants as kind
use Rattle.ooo_bound.specs.declared.expr.BoundExpr.{BoundExpr}
use Rattle.ooo_bound.specs.declared.stat.BoundSimple.{BoundSimple}
use Rattle.ooo_bound.specs.declared.stat.BoundSimple.TheVariants as simple
use Rattle.ooo_bound.specs.declared.stat.BoundTarget.{BoundTarget}
use Rattle.ooo_bound.specs.declared.stat.BoundTarget.TheVariants as target
use Rattle.ooo_activation.specs.Activations.{channel_kind}
use Rattle.ooo_shapes.specs.declared.around.Around.{Around}
use Rattle.ooo_shapes.specs.Expressions.{converted, lowered, lowered_time, slot_of}
use Rattle.ooo_shapes.specs.Simples.{Home, channel_slot, current_expr, lowered_wait, update_nodes}

-- the value that is written into a fifo goes to its slot
abbrev pub fifo_value : Home → Around → ℕ → BoundExpr → NodeKind
fifo_value h t c e = kind.Set (channel_slot h c) (converted (channel_kind h.model c) (lowered t e))

-- the operator between an element, whose index stands in a slot, and the value that stands in a slot
abbrev pub updated_element : Op → (variable index v : ℕ) → NodeExpr
updated_element o x index v = node.Binary o (node.Element x (node.Slot index)) (node.Slot v)

-- the nodes of `a op= b` where a is an element
abbrev pub element_update_nodes : Home → Around → (variable : ℕ) → (index : BoundExpr) → Op → BoundExpr → (line at next : ℕ) → List Node
element_update_nodes h t x i o e line at next = update_nodes h t (target.Element x i) o e line at next

-- the operator between what stands in a target without an index and a value
abbrev pub updated_expr : Around → BoundTarget → Op → BoundExpr → NodeExpr
updated_expr t into o e = node.Binary o (current_expr t into) (lowered t e)

-- an argument, for the parameter of a kind and a slot
abbrev pub argument_kind : (t u : Around) → Kind → (slot : ℕ) → BoundExpr → NodeKind
argument_kind t u k n e = kind.Set (slot_of u k n) (converted k (lowered t e))

-- a statement of one node
abbrev pub one_kind : Home → Around → BoundSimple → NodeKind
one_kind h t (simple.Notify e k) = kind.Notify e (lowered_time t k)
one_kind h t (simple.Cancel e) = kind.Cancel e
one_kind h t (simple.Wait w) = kind.Wait (lowered_wait h t w)
one_kind h t (simple.NextTrigger w) = kind.Trigger (lowered_wait h t w)
one_kind h t _ = kind.Stop
