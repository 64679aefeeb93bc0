-- The nodes of statements without statements in them, but for those of a call's body.
use Rattle.std.specs.Prelude.{ℕ, ◌+◌, ◌==◌, List, [], ◌∷◌, length, Bool, true, false, if◌then◌else◌, Some, None}
use Rattle.ooo_value.specs.declared.operators.Op.{Op}
use Rattle.ooo_value.specs.declared.values.Value.TheVariants as value
use Rattle.ooo_code.specs.declared.expression.NodeExpr.{NodeExpr}
use Rattle.ooo_code.specs.declared.expression.NodeExpr.TheVariants as node
use Rattle.ooo_code.specs.declared.node.Node.{Node}
use Rattle.ooo_code.specs.declared.node.NodeKind.{NodeKind}
use Rattle.ooo_code.specs.declared.node.NodeKind.TheVariants as kind
use Rattle.ooo_code.specs.declared.node.NodeWait.{NodeWait}
use Rattle.ooo_code.specs.Expressions.{no_value}
use Rattle.ooo_bound.specs.declared.expr.BoundExpr.{BoundExpr}
use Rattle.ooo_bound.specs.declared.expr.BoundWait.{BoundWait}
use Rattle.ooo_bound.specs.declared.model.Bound.{Bound}
use Rattle.ooo_bound.specs.declared.stat.BoundItem.{BoundItem}
use Rattle.ooo_bound.specs.declared.stat.BoundItem.TheVariants as item
use Rattle.ooo_bound.specs.declared.stat.BoundTarget.{BoundTarget}
use Rattle.ooo_bound.specs.declared.stat.BoundTarget.TheVariants as target
use Rattle.ooo_activation.specs.Activations.{variable_kind, channel_kind, data_written, data_read}
use Rattle.ooo_shapes.specs.declared.around.Around.{Around}
use Rattle.ooo_shapes.specs.Expressions.{value_slot, index_slot, slot_of, lowered, converted, kind_in, lowered_wait_time}

-- a model, and the static events of the process whose code is made
pub record Home : Type 0 where
  pub model : Bound
  pub sensitive : List ℕ

-- ---- single nodes

-- a node that counts, and one that doesn't
abbrev pub counted : NodeKind → (line next : ℕ) → Node
counted k line next = record { kind = k; line = line; counts = true; next = next }

abbrev pub uncounted : NodeKind → (line next : ℕ) → Node
uncounted k line next = record { kind = k; line = line; counts = false; next = next }

-- a value is put into a target, whose index is evaluated then; one that goes nowhere is only evaluated
abbrev pub put_kind : Home → Around → BoundTarget → NodeExpr → (next : ℕ) → NodeKind
put_kind h t target.Nothing v next = kind.Test v next
put_kind h t (target.Local k n) v next = kind.Set (slot_of t k n) (converted k v)
put_kind h t (target.Variable x) v next = kind.Store x None (converted (variable_kind h.model x) v)
put_kind h t (target.Element x i) v next = kind.Store x (Some (lowered t i)) (converted (variable_kind h.model x) v)
put_kind h t (target.Signal c) v next = kind.Write c (converted (channel_kind h.model c) v)

-- the same where the index was evaluated before, and stands in its slot
abbrev pub put_at_kind : Home → Around → BoundTarget → NodeExpr → (next : ℕ) → NodeKind
put_at_kind h t (target.Element x i) v next =
    kind.Store x (Some (node.Slot (index_slot (kind_in h.model i)))) (converted (variable_kind h.model x) v)
put_at_kind h t into v next = put_kind h t into v next

-- the index of a target is evaluated into its slot; a target without one needs nothing
abbrev pub aim_kind : Home → Around → BoundTarget → NodeKind
aim_kind h t (target.Element x i) = kind.Set (index_slot (kind_in h.model i)) (lowered t i)
aim_kind h t _ = kind.Goto

-- a wait for an event of a fifo
abbrev pub wait_kind : List ℕ → NodeKind
wait_kind events = kind.Wait (record { time = None; events = events; is_static = false })

-- what a wait or a trigger waits for
abbrev pub lowered_wait : Home → Around → BoundWait → NodeWait
lowered_wait h t w = record {
  time = lowered_wait_time t w.time;
  events = if w.is_static then h.sensitive else w.events;
  is_static = w.is_static;
}

-- a constant of bool
abbrev pub truth : Bool → NodeExpr
truth b = node.Constant (value.Bool b)

-- the slot for a value of a channel
abbrev pub channel_slot : Home → ℕ → ℕ
channel_slot h c = value_slot (channel_kind h.model c)

-- ---- statements of fifos (IEEE 1666-2011, 6.23)

-- a blocking read: test, wait, take, put
abbrev pub read_nodes : Home → Around → BoundTarget → (c line at next : ℕ) → List Node
read_nodes h t into c line at next =
    counted (kind.TestAvailable c (at + 1)) line (at + 2)
    ∷ uncounted (wait_kind (data_written h.model c)) line at
    ∷ uncounted (kind.Take c (channel_slot h c)) line (at + 3)
    ∷ uncounted (put_kind h t into (node.Slot (channel_slot h c)) next) line next
    ∷ []

-- a blocking write: its value, test, wait, put
abbrev pub write_nodes : Home → Around → (c : ℕ) → BoundExpr → (line at next : ℕ) → List Node
write_nodes h t c e line at next =
    uncounted (kind.Set (channel_slot h c) (converted (channel_kind h.model c) (lowered t e))) line (at + 1)
    ∷ counted (kind.TestFree c (at + 2)) line (at + 3)
    ∷ uncounted (wait_kind (data_read h.model c)) line (at + 1)
    ∷ uncounted (kind.Put c (node.Slot (channel_slot h c))) line next
    ∷ []

-- `nb_read`: the index of what is read into, test, take, put; and what the call gives, either way
abbrev pub nb_read_nodes : Home → Around → BoundTarget → (c : ℕ) → (into : BoundTarget) → (line at next : ℕ) → List Node
nb_read_nodes h t result c into line at next =
    counted (aim_kind h t into) line (at + 1)
    ∷ uncounted (kind.TestAvailable c (at + 5)) line (at + 2)
    ∷ uncounted (kind.Take c (channel_slot h c)) line (at + 3)
    ∷ uncounted (put_at_kind h t into (node.Slot (channel_slot h c)) (at + 4)) line (at + 4)
    ∷ uncounted (put_kind h t result (truth true) next) line next
    ∷ uncounted (put_kind h t result (truth false) next) line next
    ∷ []

-- `nb_write`: its value, test, put; and what the call gives, either way
abbrev pub nb_write_nodes : Home → Around → BoundTarget → (c : ℕ) → BoundExpr → (line at next : ℕ) → List Node
nb_write_nodes h t result c e line at next =
    counted (kind.Set (channel_slot h c) (converted (channel_kind h.model c) (lowered t e))) line (at + 1)
    ∷ uncounted (kind.TestFree c (at + 4)) line (at + 2)
    ∷ uncounted (kind.Put c (node.Slot (channel_slot h c))) line (at + 3)
    ∷ uncounted (put_kind h t result (truth true) next) line next
    ∷ uncounted (put_kind h t result (truth false) next) line next
    ∷ []

-- ---- `a op= b`

-- what stands in a target without an index
abbrev pub current_expr : Around → BoundTarget → NodeExpr
current_expr t (target.Local k n) = node.Slot (slot_of t k n)
current_expr t (target.Variable x) = node.Variable x
current_expr t (target.Signal c) = node.Signal c
current_expr t _ = node.Constant no_value

-- of an element the value of b and the index are evaluated first, each into its slot
abbrev pub update_nodes : Home → Around → BoundTarget → Op → BoundExpr → (line at next : ℕ) → List Node
update_nodes h t (target.Element x i) o e line at next =
    counted (kind.Set (value_slot (kind_in h.model e)) (lowered t e)) line (at + 1)
    ∷ uncounted (kind.Set (index_slot (kind_in h.model i)) (lowered t i)) line (at + 2)
    ∷ uncounted
    (kind.Store x (Some (node.Slot (index_slot (kind_in h.model i))))
    (converted (variable_kind h.model x)
    (node.Binary o (node.Element x (node.Slot (index_slot (kind_in h.model i)))) (node.Slot (value_slot (kind_in h.model e))))))
    line
    next
    ∷ []
update_nodes h t into o e line at next =
    counted (put_kind h t into (node.Binary o (current_expr t into) (lowered t e)) next) line next ∷ []

abbrev pub update_size : BoundTarget → ℕ
update_size (target.Element x i) = 3
update_size _ = 1

-- ---- printing

abbrev pub item_kind : Around → BoundItem → NodeKind
item_kind t (item.Value e) = kind.PrintValue (lowered t e)
item_kind t (item.Text text) = kind.PrintText text
item_kind t item.Time = kind.PrintTime

-- where that begins which has so many nodes from a place on: there, or behind it where it has none
abbrev pub begins : (size at next : ℕ) → ℕ
begins size at next = if size == 0 then next else at

-- the items one after the other
abbrev pub item_nodes : Around → List BoundItem → (line at next : ℕ) → List Node
item_nodes t [] line at next = []
item_nodes t (x ∷ xs) line at next =
    uncounted (item_kind t x) line (begins (length xs) (at + 1) next) ∷ item_nodes t xs line (at + 1) next
