-- The expressions of a bound model as expressions in nodes.
use Rattle.std.specs.Prelude.{ℕ, ◌+◌, List, [], ◌∷◌, pos, Option, Some, None}
use Rattle.ooo_value.specs.declared.kinds.Kind.{Kind}
use Rattle.ooo_value.specs.declared.kinds.Kind.TheVariants as kind
use Rattle.ooo_value.specs.declared.operators.Op.TheVariants as op
use Rattle.ooo_value.specs.declared.values.Value.TheVariants as value
use Rattle.ooo_value.specs.Values.{conversion_of}
use Rattle.ooo_code.specs.declared.expression.NodeExpr.{NodeExpr, NodeExpr-F, out-NodeExpr}
use Rattle.ooo_code.specs.declared.expression.NodeExpr.TheVariants as node
use Rattle.ooo_code.specs.declared.expression.NodeExpr.TheOpen as node_layer
use Rattle.ooo_code.specs.declared.node.NodeTime.{NodeTime}
use Rattle.ooo_code.specs.declared.node.NodeTime.TheVariants as node_time
use Rattle.ooo_bound.specs.declared.expr.BoundExpr.{BoundExpr, BoundExpr-F, fold-BoundExpr}
use Rattle.ooo_bound.specs.declared.expr.BoundExpr.TheOpen as layer
use Rattle.ooo_bound.specs.declared.expr.BoundTime.{BoundTime}
use Rattle.ooo_bound.specs.declared.expr.BoundTime.TheVariants as time
use Rattle.ooo_bound.specs.declared.model.Bound.{Bound}
use Rattle.ooo_activation.specs.Kinds.{expression_kind}
use Rattle.ooo_shapes.specs.declared.around.Around.{Around}
use Rattle.ooo_shapes.specs.Widths.{start_of}

-- ---- slots

-- the place of a kind among the five
abbrev pub kind_number : Kind → ℕ
kind_number kind.Bool = 0
kind_number kind.Int = 1
kind_number kind.Uint = 2
kind_number kind.Long = 3
kind_number kind.Ulong = 4

-- the first slots of a process hold a value of each kind, and an index of each kind, within a statement
abbrev pub value_slot : Kind → ℕ
value_slot k = kind_number k

abbrev pub index_slot : Kind → ℕ
index_slot k = 5 + kind_number k

-- the kinds of these slots
abbrev pub first_kinds : List Kind
first_kinds =
    kind.Bool ∷ kind.Int ∷ kind.Uint ∷ kind.Long ∷ kind.Ulong
    ∷ kind.Bool ∷ kind.Int ∷ kind.Uint ∷ kind.Long ∷ kind.Ulong ∷ []

-- how many these are: the locals of a process stand behind them
abbrev pub first_base : ℕ
first_base = 10

-- the slot of a local
abbrev pub slot_of : Around → Kind → ℕ → ℕ
slot_of t k n = t.base + (start_of t.widths k + n)

-- ---- expressions

-- `+e` is `e << 0`: its promoted value
abbrev pub kept : NodeExpr → NodeExpr
kept e = node.Binary op.ShiftLeft e (node.Constant (value.Int (pos 0)))

abbrev pub lowered_step : Around → BoundExpr-F NodeExpr → NodeExpr
lowered_step t (layer.Constant v) = node.Constant v
lowered_step t (layer.Local k n) = node.Slot (slot_of t k n)
lowered_step t (layer.Variable x) = node.Variable x
lowered_step t (layer.Element x i) = node.Element x i
lowered_step t (layer.Signal c) = node.Signal c
lowered_step t (layer.Changed c) = node.Event c
lowered_step t (layer.Edge c up) = node.Edge c up
lowered_step t (layer.Available c) = node.Available c
lowered_step t (layer.Free c) = node.Free c
lowered_step t (layer.Convert k e) = node.Convert k e
lowered_step t (layer.Promote e) = kept e
lowered_step t (layer.Negate e) = node.Negate e
lowered_step t (layer.Invert e) = node.Invert e
lowered_step t (layer.Not e) = node.Not e
lowered_step t (layer.Binary op a b) = node.Binary op a b
lowered_step t (layer.Both a b) = node.And a b
lowered_step t (layer.Either a b) = node.Or a b
lowered_step t (layer.Choose k c a b) = node.Choose c (node.Convert k a) (node.Convert k b)

-- an expression of a function whose locals stand there
unfoldable pub lowered : Around → BoundExpr → NodeExpr
lowered t e = fold-BoundExpr NodeExpr (lowered_step t) e

-- a constant is converted at once, and any other value as the node runs
abbrev pub converted_step : Kind → NodeExpr-F NodeExpr → NodeExpr → NodeExpr
converted_step k (node_layer.Constant v) e = node.Constant (conversion_of v k)
converted_step k _ e = node.Convert k e

abbrev pub converted : Kind → NodeExpr → NodeExpr
converted k e = converted_step k (out-NodeExpr e) e

-- the kind of an expression; int, where it has none
abbrev pub kind_or_int : Option Kind → Kind
kind_or_int None = kind.Int
kind_or_int (Some k) = k

abbrev pub kind_in : Bound → BoundExpr → Kind
kind_in b e = kind_or_int (expression_kind b e)

-- ---- times

abbrev pub lowered_time : Around → BoundTime → NodeTime
lowered_time t (time.Fixed k) = node_time.Fixed k
lowered_time t (time.Amount e scale) = node_time.Amount (lowered t e) scale

abbrev pub lowered_wait_time : Around → Option BoundTime → Option NodeTime
lowered_wait_time t None = None
lowered_wait_time t (Some k) = Some (lowered_time t k)
