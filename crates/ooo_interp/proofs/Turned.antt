-- Turns of the loop over nodes.
use Rattle.std.proofs.Common.{◌≡◌, ℕ, zero, suc, ◌+◌, ◌*◌, ◌<◌, Bool, List, length, true, false, Some, Result, Ok, Err, slice_get, refl, sym, ap, subst, ◌∙◌, arith}
use Rattle.std.proofs.Math.Nat.{suc-mul}
use Rattle.std.specs.Prelude.{IfOk}
use Rattle.ooo_code.specs.declared.node.Node.{Node}
use Rattle.ooo_code.specs.Nodes.{Doing, Next, Running, act, between, pass, steps}
use Rattle.ooo_interp.specs.declared.counting.Left.{Left}
use Rattle.ooo_interp.specs.declared.running.Turn.{Turn}
use Rattle.ooo_interp.specs.declared.doing.Halt.TheVariants as halt
use Rattle.ooo_interp.specs.declared.running.Turn.TheVariants as turn
use Rattle.ooo_interp.specs.Acting.{ended_by}
use Rattle.ooo_interp.specs.Running.{Shortens, Turns, counted, from_node, room_of, turns_of}

-- so many statements are a pass up to the first of them
pub steps_pass : (nodes : List Node) (r : Running) (n : ℕ) → steps nodes r n ≡ pass nodes r (counted nodes r n) (between nodes)
unfolding steps
steps_pass nodes r zero = refl
steps_pass nodes r (suc n) = refl

-- a node that counts, where one may
pub counted_turns : (nodes : List Node) (r : Running) (t : Turn) (number s n room m more : ℕ) (node : Node) (before after : Doing) → room ≡ suc m → s ≡ suc n → slice_get nodes number ≡ Some node → node.counts ≡ true → more ≡ suc (suc (length nodes)) → ((next : Next) → Turns r t next after (act r node.kind number node.line node.next next before)) → Turns r t (pass nodes r (counted nodes r n) more) after (pass nodes r (counted nodes r s) room number before)
counted_turns nodes r t number s n room m more node before after room_is s_is is counts more_is does =
    let e : pass nodes r (counted nodes r s) room number before ≡ act r node.kind number node.line node.next (steps nodes r n) before = rw (room_is, s_is, is, counts) refl in
    let k : steps nodes r n ≡ pass nodes r (counted nodes r n) more = rw more_is (steps_pass nodes r n) in
    subst (λ x. Turns r t x after (pass nodes r (counted nodes r s) room number before)) k
    (subst (λ o. Turns r t (steps nodes r n) after o) (sym e) (does (steps nodes r n)))

-- a node that doesn't count
plain_turns : (nodes : List Node) (r : Running) (t : Turn) (number s more room m : ℕ) (node : Node) (before after : Doing) → room ≡ suc m → more ≡ s → slice_get nodes number ≡ Some node → node.counts ≡ false
    → ((next : Next) → Turns r t next after (act r node.kind number node.line node.next next before)) → Turns r t (pass nodes r (counted nodes r more) m) after (pass nodes r (counted nodes r s) room number before)
plain_turns nodes r t number s more room m node before after room_is same is counts does =
    let e : pass nodes r (counted nodes r s) room number before ≡ act r node.kind number node.line node.next (pass nodes r (counted nodes r s) m) before = rw (room_is, is, counts) refl in
    subst (λ k. Turns r t (pass nodes r (counted nodes r k) m) after (pass nodes r (counted nodes r s) room number before)) (sym same)
    (subst (λ o. Turns r t (pass nodes r (counted nodes r s) m) after o) (sym e) (does (pass nodes r (counted nodes r s) m)))

-- what is left after a node was passed and counted
module _ (nodes : List Node) (old passed new : Left) (node : Node) (room_is : room_of old ≡ suc (room_of passed)) (statements : passed.statements ≡ old.statements) (same : node.counts ≡ false → new ≡ passed)
    (one_less : node.counts ≡ true → passed.statements ≡ suc new.statements) (more : node.counts ≡ true → room_of new ≡ suc (suc (length nodes))) where
  pub turns_on : (r : Running) (t : Turn) (number : ℕ) (before after : Doing) → slice_get nodes number ≡ Some node → ((next : Next) → Turns r t next after (act r node.kind number node.line node.next next before))
      → Turns r t (from_node nodes r new) after (from_node nodes r old number before)
  turns_on r t number before after is does = by node.counts refl
    where
      by : (b : Bool) → node.counts ≡ b → Turns r t (from_node nodes r new) after (from_node nodes r old number before)
      by true e = counted_turns nodes r t number old.statements new.statements (room_of old) (room_of passed) (room_of new) node before after room_is (sym statements ∙ one_less e) is e (more e) does
      by false e =
          subst (λ (l : Left). Turns r t (from_node nodes r l) after (from_node nodes r old number before)) (sym (same e))
          (plain_turns nodes r t number old.statements passed.statements (room_of old) (room_of passed) node before after room_is statements is e does)

  fewer : turns_of nodes new < turns_of nodes old
  fewer = by node.counts refl
    where
      by : (b : Bool) → node.counts ≡ b → turns_of nodes new < turns_of nodes old
      by true e =
          let product : old.statements * (length nodes + 3) ≡ new.statements * (length nodes + 3) + (length nodes + 3) = ap (λ k. k * (length nodes + 3)) (sym statements ∙ one_less e) ∙ suc-mul new.statements (length nodes + 3) in
          let room = more e in
          omega (arith, product, room)
      by false e =
          let less : turns_of nodes passed < turns_of nodes old = let product : passed.statements * (length nodes + 3) ≡ old.statements * (length nodes + 3) = ap (λ k. k * (length nodes + 3)) statements in omega (arith, product, room_is) in
          subst (λ (l : Left). turns_of nodes l < turns_of nodes old) (sym (same e)) less

  pub shortens : {E : Type 0} (result : Result Turn E) → IfOk result (λ t. Shortens nodes old new t)
  shortens (Ok (turn.Goes to)) = fewer
  shortens (Ok (turn.Over h)) = tt
  shortens (Err e) = tt

-- no node may count any more
pub at_the_limit : (nodes : List Node) (r : Running) (number s room m : ℕ) (node : Node) (before : Doing) → room ≡ suc m → s ≡ 0 → slice_get nodes number ≡ Some node → node.counts ≡ true
    → pass nodes r (counted nodes r s) room number before ≡ ended_by r (halt.Limit node.line) before
at_the_limit nodes r number s room m node before room_is none is counts = rw (room_is, none, is, counts) refl

-- so many statements, from a node on
pub steps_from : (nodes : List Node) (r : Running) (left : Left) (n number : ℕ) (d : Doing) → left.statements ≡ n → room_of left ≡ suc (suc (length nodes)) → steps nodes r n number d ≡ from_node nodes r left number d
steps_from nodes r left n number d s_is room_is = rw (s_is, room_is) (ap (λ (f : Next). f number d) (steps_pass nodes r n))
