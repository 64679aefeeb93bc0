-- A statement is added that holds no other.
use Rattle.std.proofs.Common.{◌≡◌, ◌∙◌, refl, ap, sym, subst, ℕ, suc, ◌+◌, List, [], ◌∷◌, ◌++◌, length, arith, append_assoc, append-nil, length-append}
use Rattle.ooo_code.specs.declared.node.NodeKind.TheVariants as kind
use Rattle.ooo_bound.specs.declared.expr.BoundExpr.{BoundExpr}
use Rattle.ooo_bound.specs.declared.stat.BoundItem.{BoundItem}
use Rattle.ooo_bound.specs.declared.stat.BoundTarget.{BoundTarget}
use Rattle.ooo_bound.specs.declared.stat.BoundTarget.TheVariants as target
use Rattle.ooo_code.specs.declared.node.Node.{Node}
use Rattle.ooo_value.specs.declared.operators.Op.{Op}
use Rattle.ooo_shapes.specs.declared.around.Around.{Around}
use Rattle.ooo_shapes.specs.Simples.{Home, begins, counted, item_nodes, update_nodes, update_size}
use Rattle.ooo_shapes.specs.Shapes.{Shape, plain, print_shape}
use Rattle.ooo_lower.specs.declared.code.Code.{Code}
use Rattle.ooo_lower.specs.Codes.{Puts, Emits}

length_items : (t : Around) (items : List BoundItem) (line at next : ℕ) → length (item_nodes t items line at next) ≡ length items
length_items t [] line at next = refl
length_items t (i ∷ is) line at next = ap suc (length_items t is line (at + 1) next)

pub emits_print : (t : Around) (line next to : ℕ) (items : List BoundItem) (x y z : Code) → to ≡ begins (length items) (length x.nodes + 1) next → Puts (counted kind.Goto line to ∷ []) x y → Puts (item_nodes t items line (length y.nodes) next) y z → Emits (print_shape line items) t next x z
emits_print t line next to items x y z e h k =
    let len : length y.nodes ≡ length x.nodes + 1 = omega (arith, ap length h.nodes_are, length-append x.nodes (counted kind.Goto line to ∷ [])) in
    let rest = λ (n : ℕ). item_nodes t items line n next in
    let all : z.nodes ≡ x.nodes ++ counted kind.Goto line (begins (length items) (length x.nodes + 1) next) ∷ rest (length x.nodes + 1) =
    k.nodes_are ∙ ap (λ c. c ++ rest (length y.nodes)) h.nodes_are ∙ append_assoc x.nodes (counted kind.Goto line to ∷ []) (rest (length y.nodes))
    ∙ ap (λ n. x.nodes ++ counted kind.Goto line to ∷ rest n) len ∙ ap (λ n. x.nodes ++ counted kind.Goto line n ∷ rest (length x.nodes + 1)) e in
    record {
      nodes_are = all;
      slots_are = k.slots_are ∙ h.slots_are ∙ sym (append-nil x.slots);
      count_is = omega (arith, ap length k.nodes_are, length-append y.nodes (rest (length y.nodes)), length_items t items line (length y.nodes) next, len);
    }

-- nodes that need no slot are added as a shape
pub emits_plain : (n : ℕ) (f : Around → (at next : ℕ) → List Node) (t : Around) (next : ℕ) (x y : Code) → length (f t (length x.nodes) next) ≡ n → Puts (f t (length x.nodes) next) x y → Emits (plain n f) t next x y
emits_plain n f t next x y len p = record {
  nodes_are = p.nodes_are;
  slots_are = p.slots_are ∙ sym (append-nil x.slots);
  count_is = ap length p.nodes_are ∙ (length-append x.nodes (f t (length x.nodes) next) ∙ ap (λ k. length x.nodes + k) len);
}

-- the same shape in other words
pub emits_as : (a b : Shape) (t : Around) (next : ℕ) (x y : Code) → b ≡ a → Emits a t next x y → Emits b t next x y
emits_as a b t next x y e p = subst (λ s. Emits s t next x y) (sym e) p

-- how many nodes `a op= b` has
pub length_update : (h : Home) (t : Around) (into : BoundTarget) (o : Op) (e : BoundExpr) (line at next : ℕ) → length (update_nodes h t into o e line at next) ≡ update_size into
length_update h t (target.Element x i) o e line at next = refl
length_update h t into o e line at next = refl
