-- What expressions read of channels, form by form.
use Rattle.std.proofs.Common.{◌≡◌, ℕ, Bool, List, [], ◌++◌, ⊎_elim, sym, subst, ap, ◌∙◌, append_assoc, append-nil}
use Rattle.std.proofs.lemmas.Grind.{flat_map-append}
use Rattle.std.specs.Prelude.{◌⊎◌}
use Rattle.ooo_value.specs.declared.kinds.Kind.{Kind}
use Rattle.ooo_value.specs.declared.operators.Op.{Op}
use Rattle.ooo_value.specs.declared.values.Value.{Value}
use Rattle.ooo_code.specs.declared.expression.NodeExpr.{NodeExpr, NodeExpr-F, map-NodeExpr, roll-NodeExpr, fold-roll-NodeExpr}
use Rattle.ooo_code.specs.declared.expression.NodeExpr.TheOpen as layer
use Rattle.ooo_code.specs.declared.expression.NodeExpr.TheVariants as expr
use Rattle.ooo_code.specs.Touches.{Touch, reads_step, reads_of}
use Rattle.ooo_plain.specs.Shown.{one_of, shown_by, shown_to}

reads_at : (y : NodeExpr-F NodeExpr) → reads_of (roll-NodeExpr y) ≡ reads_step (map-NodeExpr NodeExpr (List Touch) reads_of y)
unfolding reads_of
reads_at y = fold-roll-NodeExpr (List Touch) reads_step y

-- an expression of a form
module _ (count : ℕ) (old new : List ℕ) (e : NodeExpr) where
  abbrev Told : List Touch → Type 0
  Told touches = new ≡ old ++ shown_to count touches

  as_form : (f : NodeExpr) (touches : List Touch) → e ≡ f → reads_of f ≡ touches → Told touches → Told (reads_of e)
  as_form f touches is reads h = h ∙ ap (λ ts. old ++ shown_to count ts) (sym reads ∙ ap reads_of (sym is))

  -- a constant or a local, and a variable, which is no channel
  pub told_none : ((v : Value) × (e ≡ expr.Constant v)) ⊎ (((n : ℕ) × (e ≡ expr.Slot n)) ⊎ ((x : ℕ) × (e ≡ expr.Variable x))) → new ≡ old → Told (reads_of e)
  told_none is h =
      let none : new ≡ old ++ [] = h ∙ sym (append-nil old) in
      ⊎_elim (λ v. as_form (expr.Constant v.0) _ v.1 (ap reads_of (sym (expr.rolls-Constant v.0)) ∙ reads_at (layer.Constant v.0)) none)
      (⊎_elim (λ n. as_form (expr.Slot n.0) _ n.1 (ap reads_of (sym (expr.rolls-Slot n.0)) ∙ reads_at (layer.Slot n.0)) none)
      (λ x. as_form (expr.Variable x.0) _ x.1 (ap reads_of (sym (expr.rolls-Variable x.0)) ∙ reads_at (layer.Variable x.0)) none)) is

  -- a signal
  pub told_signal : (c : ℕ) → (e ≡ expr.Signal c) ⊎ ((e ≡ expr.Event c) ⊎ ((up : Bool) × (e ≡ expr.Edge c up))) → new ≡ old ++ one_of count c → Told (reads_of e)
  told_signal c is h =
      let one : new ≡ old ++ (one_of count c ++ []) = h ∙ ap (λ xs. old ++ xs) (sym (append-nil (one_of count c))) in
      ⊎_elim (λ s. as_form (expr.Signal c) _ s (ap reads_of (sym (expr.rolls-Signal c)) ∙ reads_at (layer.Signal c)) one)
      (⊎_elim (λ s. as_form (expr.Event c) _ s (ap reads_of (sym (expr.rolls-Event c)) ∙ reads_at (layer.Event c)) one)
      (λ s. as_form (expr.Edge c s.0) _ s.1 (ap reads_of (sym (expr.rolls-Edge c s.0)) ∙ reads_at (layer.Edge c s.0)) one)) is

  -- a fifo of which an end is held
  pub told_fifo : (c : ℕ) → (e ≡ expr.Available c) ⊎ (e ≡ expr.Free c) → new ≡ old ++ one_of count c → Told (reads_of e)
  told_fifo c is h =
      let one : new ≡ old ++ (one_of count c ++ []) = h ∙ ap (λ xs. old ++ xs) (sym (append-nil (one_of count c))) in
      ⊎_elim (λ s. as_form (expr.Available c) _ s (ap reads_of (sym (expr.rolls-Available c)) ∙ reads_at (layer.Available c)) one)
      (λ s. as_form (expr.Free c) _ s (ap reads_of (sym (expr.rolls-Free c)) ∙ reads_at (layer.Free c)) one) is

  -- an element of a variable, of which the index is told
  pub told_element : (x : ℕ) (i j : NodeExpr) → e ≡ expr.Element x i → j ≡ i → Told (reads_of j) → Told (reads_of e)
  told_element x i j is same h = as_form (expr.Element x i) _ is (ap reads_of (sym (expr.rolls-Element x i)) ∙ reads_at (layer.Element x i)) (subst (λ a. Told (reads_of a)) same h)

  -- an operator on one operand
  pub told_one : (a b : NodeExpr) → ((k : Kind) × (e ≡ expr.Convert k a)) ⊎ ((e ≡ expr.Negate a) ⊎ ((e ≡ expr.Invert a) ⊎ (e ≡ expr.Not a))) → b ≡ a → Told (reads_of b) → Told (reads_of e)
  told_one a b is same told =
      let h = subst (λ x. Told (reads_of x)) same told in
      ⊎_elim (λ s. as_form (expr.Convert s.0 a) _ s.1 (ap reads_of (sym (expr.rolls-Convert s.0 a)) ∙ reads_at (layer.Convert s.0 a)) h)
      (⊎_elim (λ s. as_form (expr.Negate a) _ s (ap reads_of (sym (expr.rolls-Negate a)) ∙ reads_at (layer.Negate a)) h)
      (⊎_elim (λ s. as_form (expr.Invert a) _ s (ap reads_of (sym (expr.rolls-Invert a)) ∙ reads_at (layer.Invert a)) h)
      (λ s. as_form (expr.Not a) _ s (ap reads_of (sym (expr.rolls-Not a)) ∙ reads_at (layer.Not a)) h))) is

  both : (mid : List ℕ) (a b : List Touch) → mid ≡ old ++ shown_to count a → new ≡ mid ++ shown_to count b → Told (a ++ b)
  both mid a b first then = then ∙ ap (λ xs. xs ++ shown_to count b) first ∙ append_assoc old (shown_to count a) (shown_to count b) ∙ ap (λ xs. old ++ xs) (sym (flat_map-append (shown_by count) a b))

  -- an operator on two operands
  pub told_two : (a b p q : NodeExpr) (mid : List ℕ) → ((o : Op) × (e ≡ expr.Binary o a b)) ⊎ ((e ≡ expr.And a b) ⊎ (e ≡ expr.Or a b)) → p ≡ a → q ≡ b → mid ≡ old ++ shown_to count (reads_of p) → new ≡ mid ++ shown_to count (reads_of q) → Told (reads_of e)
  told_two a b p q mid is same_a same_b first then =
      let told = both mid (reads_of a) (reads_of b) (first ∙ ap (λ x. old ++ shown_to count (reads_of x)) same_a) (then ∙ ap (λ x. mid ++ shown_to count (reads_of x)) same_b) in
      ⊎_elim (λ s. as_form (expr.Binary s.0 a b) _ s.1 (ap reads_of (sym (expr.rolls-Binary s.0 a b)) ∙ reads_at (layer.Binary s.0 a b)) told)
      (⊎_elim (λ s. as_form (expr.And a b) _ s (ap reads_of (sym (expr.rolls-And a b)) ∙ reads_at (layer.And a b)) told)
      (λ s. as_form (expr.Or a b) _ s (ap reads_of (sym (expr.rolls-Or a b)) ∙ reads_at (layer.Or a b)) told)) is

  -- a choice
  pub told_choice : (c a b o p q : NodeExpr) (one two : List ℕ) → e ≡ expr.Choose c a b → o ≡ c → p ≡ a → q ≡ b → one ≡ old ++ shown_to count (reads_of o) → two ≡ one ++ shown_to count (reads_of p) → new ≡ two ++ shown_to count (reads_of q) → Told (reads_of e)
  told_choice c a b o p q one two is same_c same_a same_b first_o second_p third_q =
      let first = first_o ∙ ap (λ x. old ++ shown_to count (reads_of x)) same_c in
      let second = second_p ∙ ap (λ x. one ++ shown_to count (reads_of x)) same_a in
      let third = third_q ∙ ap (λ x. two ++ shown_to count (reads_of x)) same_b in
      as_form (expr.Choose c a b) _ is (ap reads_of (sym (expr.rolls-Choose c a b)) ∙ reads_at (layer.Choose c a b))
      (both two (reads_of c ++ reads_of a) (reads_of b)
      (second ∙ ap (λ xs. xs ++ shown_to count (reads_of a)) first ∙ append_assoc old (shown_to count (reads_of c)) (shown_to count (reads_of a)) ∙ ap (λ xs. old ++ xs) (sym (flat_map-append (shown_by count) (reads_of c) (reads_of a))))
      third)
