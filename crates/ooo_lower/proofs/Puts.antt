-- Nodes that are added one after the other.
use Rattle.std.proofs.Common.{◌∙◌, ap, List, ◌++◌, append_assoc}
use Rattle.ooo_value.specs.declared.kinds.Kind.{Kind}
use Rattle.ooo_code.specs.declared.node.Node.{Node}
use Rattle.ooo_lower.specs.declared.code.Code.{Code}
use Rattle.ooo_lower.specs.Codes.{Puts, PutsKinds}

pub puts_more : (a b : List Node) (x y z : Code) → Puts a x y → Puts b y z → Puts (a ++ b) x z
puts_more a b x y z h k = record {
  nodes_are = k.nodes_are ∙ ap (λ c. c ++ b) h.nodes_are ∙ append_assoc x.nodes a b;
  slots_are = k.slots_are ∙ h.slots_are;
}

pub kinds_more : (a b : List Kind) (x y z : Code) → PutsKinds a x y → PutsKinds b y z → PutsKinds (a ++ b) x z
kinds_more a b x y z h k = record {
  nodes_are = k.nodes_are ∙ h.nodes_are;
  slots_are = k.slots_are ∙ ap (λ c. c ++ b) h.slots_are ∙ append_assoc x.slots a b;
}
