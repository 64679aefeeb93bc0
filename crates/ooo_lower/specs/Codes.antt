-- What is added to code.
use Rattle.std.specs.Prelude.{◌≡◌, ℕ, ◌+◌, List, ◌++◌, length}
use Rattle.ooo_value.specs.declared.kinds.Kind.{Kind}
use Rattle.ooo_code.specs.declared.node.Node.{Node}
use Rattle.ooo_lower.specs.declared.code.Code.{Code}
use Rattle.ooo_shapes.specs.declared.around.Around.{Around}
use Rattle.ooo_shapes.specs.Shapes.{Shape}

-- these nodes are added, and no slot
pub record Puts (nodes : List Node) (old new : Code) : Type 0 where
  pub nodes_are : new.nodes ≡ old.nodes ++ nodes
  pub slots_are : new.slots ≡ old.slots

-- a shape is added: its nodes, where it leads to a place behind it, and its slots
pub record Emits (x : Shape) (t : Around) (next : ℕ) (old new : Code) : Type 0 where
  pub nodes_are : new.nodes ≡ old.nodes ++ x.nodes t (length old.slots) (length old.nodes) next
  pub slots_are : new.slots ≡ old.slots ++ x.slots
  pub count_is : length new.nodes ≡ length old.nodes + x.size

-- slots of these kinds are added, and no node
pub record PutsKinds (kinds : List Kind) (old new : Code) : Type 0 where
  pub nodes_are : new.nodes ≡ old.nodes
  pub slots_are : new.slots ≡ old.slots ++ kinds
