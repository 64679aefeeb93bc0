-- What a node's own steps come to, over plain variables.
use Rattle.std.proofs.Common.{◌≡◌, ℕ, List, [], ◌∷◌, Option, Result, Ok, Err, None, Some, IsErrAnd, slice_get, sym, ap, subst, ◌∙◌}
use Rattle.std.specs.Prelude.{IfSome}
use Rattle.ooo_value.specs.declared.operators.Fault.{Fault}
use Rattle.ooo_value.specs.declared.values.Value.{Value}
use Rattle.ooo_code.specs.declared.activation.Effect.{Effect}
use Rattle.ooo_code.specs.declared.activation.Effect.TheVariants as effect
use Rattle.ooo_code.specs.declared.activation.Frame.{Frame}
use Rattle.ooo_code.specs.declared.activation.JobEnd.TheVariants as job
use Rattle.ooo_code.specs.declared.expression.NodeExpr.{NodeExpr}
use Rattle.ooo_code.specs.declared.node.Node.{Node}
use Rattle.ooo_code.specs.declared.node.NodeKind.{NodeKind}
use Rattle.ooo_code.specs.declared.node.NodeKind.TheVariants as kind
use Rattle.ooo_code.specs.Expressions.{Sight, fifo_seen, reading_of}
use Rattle.ooo_code.specs.Nodes.{Doing, Next, Running, act, ends, with_effect, with_first, with_put, with_take}
use Rattle.ooo_code.specs.Outcomes.{Outcome}
use Rattle.ooo_interp.specs.declared.doing.Break.{Break}
use Rattle.ooo_interp.specs.declared.doing.Break.TheVariants as break
use Rattle.ooo_interp.specs.declared.doing.Emitted.{Emitted}
use Rattle.ooo_interp.specs.declared.doing.Pause.{Pause}
use Rattle.ooo_interp.specs.Acting.{Acts, ActsOn, GoesWith, IsBreak, Emits, Steps, doing_of}
use Rattle.ooo_interp.specs.Lending.{after_put, after_slot, after_take}

-- a fault breaks the activation off
pub fault_breaks : (r : Running) (line : ℕ) (result : Result ℕ Break) (f : Fault) (d : Doing) (from : Next → Outcome Frame) → IsErrAnd result (λ h. h ≡ break.Faults f) → ((next : Next) → from next ≡ ends r.entry (job.Faulted f line) d) → Steps r line result d from
fault_breaks r line (Ok n) f d from h k = absurd h
fault_breaks r line (Err x) f d from h k = λ next. subst (λ y. IsBreak r line y d (from next)) (sym h) (k next)

first_gives : (vs : List Value) (v : Value) (none : Outcome Frame) (go : Value → Outcome Frame) → Some v ≡ slice_get vs 0 → with_first vs none go ≡ go v
first_gives [] v none go h = absurd cc
first_gives (w ∷ ws) v none go h = let e : w ≡ v = cc in ap go e

-- an effect is added, and then it goes on
pub goes_with : (r : Running) (line to : ℕ) (f : Effect) (result : Result ℕ Break) (before after : Doing) (from : Next → Outcome Frame) → GoesWith f to result before after → ((next : Next) → from next ≡ next to (with_effect f before)) → Steps r line result after from
goes_with r line to f (Ok n) before after from h k = λ next. k next ∙ sym (ap (λ x. next x (with_effect f before)) h.0) ∙ sym (ap (next n) h.1)
goes_with r line to f (Err x) before after from h k = λ next. subst (λ y. IsBreak r line y after (from next)) (sym h) tt

-- a value is taken into a local
pub took : (r : Running) (number line to c n : ℕ) (v : Value) (s t u : Sight) (m l : Emitted) (p : Option Pause) (result : Result ℕ Break) → Some v ≡ slice_get (fifo_seen s.seen c).values 0 → t ≡ after_slot s n v → u ≡ after_take t c → ((x : Sight) (q : Option Pause) → GoesWith (effect.Take c) to result (doing_of x m q) (doing_of x l q)) → Steps r line result (doing_of u l p) (λ next. act r (kind.Take c n) number line to next (doing_of s m p))
took r number line to c n v s t u m l p result h k j adds =
    let e : u ≡ after_take (after_slot s n v) c = j ∙ ap (λ x. after_take x c) k in
    let f : with_effect (effect.Take c) (doing_of u m p) ≡ with_take c n v (doing_of s m p) = ap (λ x. with_effect (effect.Take c) (doing_of x m p)) e in
    goes_with r line to (effect.Take c) result (doing_of u m p) (doing_of u l p) (λ next. act r (kind.Take c n) number line to next (doing_of s m p)) (adds u p)
    (λ next. first_gives (fifo_seen s.seen c).values v (next to (doing_of s m p)) (λ w. next to (with_take c n w (doing_of s m p))) h ∙ ap (next to) (sym f))

-- a value is put
pub filled : (r : Running) (number line to c : ℕ) (e : NodeExpr) (v : Value) (s t : Sight) (m l : Emitted) (p : Option Pause) (result : Result ℕ Break) → Ok v ≡ reading_of e s → t ≡ after_put s c → ((x : Sight) (q : Option Pause) → GoesWith (effect.Put c v) to result (doing_of x m q) (doing_of x l q)) → Steps r line result (doing_of t l p) (λ next. act r (kind.Put c e) number line to next (doing_of s m p))
filled r number line to c e v s t m l p result h k adds =
    let f : with_effect (effect.Put c v) (doing_of t m p) ≡ with_put c v (doing_of s m p) = ap (λ x. with_effect (effect.Put c v) (doing_of x m p)) k in
    goes_with r line to (effect.Put c v) result (doing_of t m p) (doing_of t l p) (λ next. act r (kind.Put c e) number line to next (doing_of s m p)) (adds t p)
    (λ next. rw (sym h) (ap (next to) (sym f)))

-- a node does what its kind does
pub acts_by : (r : Running) (node : Node) (k : NodeKind) (number : ℕ) (result : Result ℕ Break) (before after : Doing) → node.kind ≡ k → Steps r node.line result after (λ next. act r k number node.line node.next next before) → Acts r node number result before after
acts_by r node k number result before after is does = subst (λ x. Steps r node.line result after (λ next. act r x number node.line node.next next before)) (sym is) does

-- a node that is done plainly emits nothing, and does what its kind does
pub plainly : (k is : NodeKind) (to : ℕ) (r : Option ℕ) (s t : Sight) (m : Emitted) → k ≡ is → IfSome r (λ n. ActsOn is to (Ok n) s t) → IfSome r (λ n. Emits k to (Ok n) s m t m)
plainly k is to None s t m e does = tt
plainly k is to (Some n) s t m e does = subst (λ x. Emits x to (Ok n) s m t m) (sym e) (does m)
