-- What a node comes to that writes a value, over plain variables.
use Rattle.std.proofs.Common.{◌≡◌, ℕ, Option, Ok, None, Some, refl, sym, subst}
use Rattle.ooo_value.specs.declared.values.Value.{Value}
use Rattle.ooo_code.specs.declared.activation.Effect.TheVariants as effect
use Rattle.ooo_code.specs.declared.expression.NodeExpr.{NodeExpr}
use Rattle.ooo_code.specs.declared.node.NodeKind.{NodeKind}
use Rattle.ooo_code.specs.declared.node.NodeKind.TheVariants as kind
use Rattle.ooo_code.specs.Expressions.{Sight, reading_of}
use Rattle.ooo_code.specs.Nodes.{with_effect}
use Rattle.ooo_interp.specs.declared.doing.Emitted.{Emitted}
use Rattle.ooo_interp.specs.declared.doing.Pause.{Pause}
use Rattle.ooo_interp.specs.Acting.{Emits, doing_of}
use Rattle.ooo_interp.specs.Lending.{after_cell, after_slot}
use Rattle.ooo_interp.specs.Plainly.{written}

set_by : (n : ℕ) (f e : NodeExpr) (v : Value) (to : ℕ) (s t : Sight) (m l : Emitted) → Some f ≡ Some e → Ok v ≡ reading_of e s → t ≡ after_slot s n v → l ≡ m → Emits (kind.Set n f) to (Ok to) s m t l
set_by n f e v to s t m l w h changed same = λ p r number line next.
    let is : f ≡ e = cc in
    rw is (rw (sym h) (rw changed (rw same refl)))

-- a local gets what the node writes
pub sets : (k : NodeKind) (n : ℕ) (f e : NodeExpr) (v : Value) (to : ℕ) (s t : Sight) (m l : Emitted) → k ≡ kind.Set n f → written k ≡ Some e → Ok v ≡ reading_of e s → t ≡ after_slot s n v → l ≡ m → Emits k to (Ok to) s m t l
sets k n f e v to s t m l is w h changed same =
    subst (λ x. written x ≡ Some e → Emits x to (Ok to) s m t l) (sym is) (λ w. set_by n f e v to s t m l w h changed same) w

store_by : (x : ℕ) (i : Option NodeExpr) (f e : NodeExpr) (v : Value) (to : ℕ) (s t : Sight) (m l : Emitted) → written (kind.Store x i f) ≡ Some e → Ok v ≡ reading_of e s → t ≡ after_cell s x 0 v → l ≡ m → Emits (kind.Store x i f) to (Ok to) s m t l
store_by x None f e v to s t m l w h changed same = λ p r number line next.
    let is : f ≡ e = cc in
    rw is (rw (sym h) (rw changed (rw same refl)))
store_by x (Some i) f e v to s t m l w h changed same = absurd cc

-- a scalar variable gets what the node writes
pub stores : (k : NodeKind) (x : ℕ) (i : Option NodeExpr) (f e : NodeExpr) (v : Value) (to : ℕ) (s t : Sight) (m l : Emitted) → k ≡ kind.Store x i f → written k ≡ Some e → Ok v ≡ reading_of e s → t ≡ after_cell s x 0 v → l ≡ m → Emits k to (Ok to) s m t l
stores k x i f e v to s t m l is w h changed same =
    subst (λ y. written y ≡ Some e → Emits y to (Ok to) s m t l) (sym is) (λ w. store_by x i f e v to s t m l w h changed same) w

request_by : (c : ℕ) (f e : NodeExpr) (v : Value) (to : ℕ) (s t : Sight) (m l : Emitted) → Some f ≡ Some e → Ok v ≡ reading_of e s → t ≡ s → ((x : Sight) (q : Option Pause) → doing_of x l q ≡ with_effect (effect.Request c v) (doing_of x m q)) → Emits (kind.Write c f) to (Ok to) s m t l
request_by c f e v to s t m l w h same adds = λ p r number line next.
    let is : f ≡ e = cc in
    rw is (rw (sym h) (rw same (rw (adds s p) refl)))

-- a value of a signal is requested that the node writes
pub requests : (k : NodeKind) (c : ℕ) (f e : NodeExpr) (v : Value) (to : ℕ) (s t : Sight) (m l : Emitted) → k ≡ kind.Write c f → written k ≡ Some e → Ok v ≡ reading_of e s → t ≡ s → ((x : Sight) (q : Option Pause) → doing_of x l q ≡ with_effect (effect.Request c v) (doing_of x m q)) → Emits k to (Ok to) s m t l
requests k c f e v to s t m l is w h same adds =
    subst (λ x. written x ≡ Some e → Emits x to (Ok to) s m t l) (sym is) (λ w. request_by c f e v to s t m l w h same adds) w
