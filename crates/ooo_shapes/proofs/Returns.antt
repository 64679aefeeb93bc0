-- Where a `return` goes: to the end of the function, with its value in the result's slot.
use Rattle.std.proofs.Common.{◌≡◌, ℕ, ◌+◌, ◌<◌, List, [], ◌∷◌, length, Option, Some, None, refl, sym, ap, ◌∙◌, subst, arith}
use Rattle.std.specs.Prelude.{slice_set}
use Rattle.std.proofs.lemmas.List.{get_or-set_same, get_or-set_other}
use Rattle.ooo_value.specs.declared.kinds.Kind.{Kind}
use Rattle.ooo_value.specs.declared.values.Value.{Value}
use Rattle.ooo_value.specs.Values.{conversion_of}
use Rattle.ooo_code.specs.declared.node.Node.{Node}
use Rattle.ooo_code.specs.Expressions.{no_value}
use Rattle.ooo_bound.specs.declared.model.Bound.{Bound}
use Rattle.ooo_bound.specs.declared.model.BoundProcess.{BoundProcess}
use Rattle.ooo_activation.specs.Locals.{Locals}
use Rattle.ooo_activation.specs.Items.{Item, Do, Putting, Choose, Begin, Check, Again, Break, Continue, Return, Leave}
use Rattle.ooo_activation.specs.Activations.{result_of, returned}
use Rattle.ooo_shapes.specs.declared.around.Around.{Around}
use Rattle.ooo_shapes.specs.Expressions.{slot_of}
use Rattle.ooo_shapes.specs.Shapes.{result_kinds}
use Rattle.ooo_shapes.proofs.Frames.{Frame, Keeps, keeps_set, keeps_frame}
use Rattle.ooo_shapes.proofs.Places.{Holds, LeaveAt, Place, Stands, stands, place_keeps}

-- a `return` without a value leaves the result as it is
pub no_result : (r : Option Kind) (so_far : Value) → result_of r None so_far ≡ so_far
no_result None so_far = refl
no_result (Some k) so_far = refl

module _ (b : Bound) (process : BoundProcess) (total : ℕ) (code : List Node) where
  abbrev Standing : List Item → Locals → List Value → ℕ → Type 0
  Standing items locals slots pc = Stands b process total code items locals slots pc

  abbrev PlaceOf : Around → List Value → List Item → ℕ → Type 0
  PlaceOf t slots items pc = Place b process total code t slots items pc

  -- what the function gives stays as it is
  abbrev pub Keeping : Around → Option Value → Type 0
  Keeping t v = (so_far : Value) → result_of t.result v so_far ≡ so_far

  -- a `return` that changes no result leads to the end of the function
  pub return_kept : (t : Around) (v : Option Value) (locals : Locals) (slots : List Value) (items : List Item) (pc : ℕ) → PlaceOf t slots items pc → Frame total t locals slots → Keeping t v → Standing (returned v items) locals slots t.return_to
  return_kept t v locals slots [] pc p f k = subst (λ q. Standing [] locals slots q) (sym (ap (λ (t : Around). t.return_to) p.1)) (stands b process total code t [] locals slots pc p f)
  return_kept t v locals slots (Do x ∷ rest) pc p f k = return_kept t v locals slots rest p.0 p.2 f k
  return_kept t v locals slots (Putting line c w ∷ rest) pc p f k = absurd p
  return_kept t v locals slots (Choose line e x y ∷ rest) pc p f k = return_kept t v locals slots rest p.0 p.2 f k
  return_kept t v locals slots (Begin l ∷ rest) pc p f k = return_kept t v locals slots rest p.0 p.4 f k
  return_kept t v locals slots (Check l ∷ rest) pc p f k = return_kept t v locals slots rest p.0 p.5 f k
  return_kept t v locals slots (Again l ∷ rest) pc p f k =
      subst (λ (t : Around). Frame total t locals slots → Keeping t v → Standing (returned v rest) locals slots t.return_to) (sym p.4)
      (λ f k. return_kept p.2 v locals slots rest p.0 p.5 (record { same = f.same; within = f.within; low = f.low }) k) f k
  return_kept t v locals slots (Break line ∷ rest) pc p f k = return_kept t v locals slots rest p.0 p.2 f k
  return_kept t v locals slots (Continue line ∷ rest) pc p f k = return_kept t v locals slots rest p.0 p.2 f k
  return_kept t v locals slots (Return line e ∷ rest) pc p f k = return_kept t v locals slots rest p.0 p.3 f k
  return_kept t v locals slots (Leave line into r so_far saved ∷ rest) pc p f k =
      let e : so_far ≡ result_of r v so_far = sym (k so_far) ∙ ap (λ r. result_of r v so_far) p.2.result in
      let placed = subst (λ x. PlaceOf t slots (Leave line into r x saved ∷ rest) pc) e p in
      subst (λ q. Standing (Leave line into r (result_of r v so_far) saved ∷ rest) locals slots q) (sym p.2.return_to)
      (stands b process total code t (Leave line into r (result_of r v so_far) saved ∷ rest) locals slots pc placed f)

  -- the value is converted to the function's kind, and goes to the result's slot
  pub return_set : (t : Around) (k : Kind) (v : Value) (locals : Locals) (slots : List Value) (items : List Item) (pc : ℕ) → t.result ≡ Some k → PlaceOf t slots items pc → Frame total t locals slots → length slots ≡ total → Standing (returned (Some v) items) locals (slice_set slots t.result_slot (conversion_of v k)) t.return_to
  return_set t k v locals slots [] pc e p f len = let n : None ≡ Some k = sym (ap (λ (t : Around). t.result) p.1) ∙ e in absurd cc
  return_set t k v locals slots (Do x ∷ rest) pc e p f len = return_set t k v locals slots rest p.0 e p.2 f len
  return_set t k v locals slots (Putting line c w ∷ rest) pc e p f len = absurd p
  return_set t k v locals slots (Choose line g x y ∷ rest) pc e p f len = return_set t k v locals slots rest p.0 e p.2 f len
  return_set t k v locals slots (Begin l ∷ rest) pc e p f len = return_set t k v locals slots rest p.0 e p.4 f len
  return_set t k v locals slots (Check l ∷ rest) pc e p f len = return_set t k v locals slots rest p.0 e p.5 f len
  return_set t k v locals slots (Again l ∷ rest) pc e p f len =
      subst (λ (t : Around). Frame total t locals slots → t.result ≡ Some k → Standing (returned (Some v) rest) locals (slice_set slots t.result_slot (conversion_of v k)) t.return_to) (sym p.4)
      (λ f e. return_set p.2 k v locals slots rest p.0 e p.5 (record { same = f.same; within = f.within; low = f.low }) len) f e
  return_set t k v locals slots (Break line ∷ rest) pc e p f len = return_set t k v locals slots rest p.0 e p.2 f len
  return_set t k v locals slots (Continue line ∷ rest) pc e p f len = return_set t k v locals slots rest p.0 e p.2 f len
  return_set t k v locals slots (Return line g ∷ rest) pc e p f len = return_set t k v locals slots rest p.0 e p.3 f len
  return_set t k v locals slots (Leave line into r so_far saved ∷ rest) pc e p f len =
      let l = p.2 in
      let u = p.1 in
      let is : r ≡ Some k = sym l.result ∙ e in
      let own : t.base ≡ t.result_slot + 1 = l.own ∙ ap (λ r. t.result_slot + length (result_kinds r)) is in
      let w = conversion_of v k in
      let slots1 = slice_set slots t.result_slot w in
      let room : t.result_slot < length slots = omega (arith, len, own, f.within) in
      let keeps : Keeps total t.result_slot slots slots1 = keeps_set total t.result_slot t.result_slot w slots (omega arith) in
      let leave : LeaveAt b process total code line into r (result_of r (Some v) so_far) saved t u p.0 pc slots1 = record {
        is_node = l.is_node;
        after = l.after;
        frame = keeps_frame total u t.result_slot saved slots slots1 l.below keeps l.frame;
        within = l.within;
        below = l.below;
        own = l.own;
        result = l.result;
        holds = subst (λ r. Holds r t.result_slot slots1 (result_of r (Some v) so_far)) (sym is) (get_or-set_same slots t.result_slot w no_value room);
        break_to = l.break_to;
        continue_to = l.continue_to;
        return_to = l.return_to;
      } in
      let rest_at = place_keeps b process total code u t.result_slot slots slots1 rest p.0 (omega (arith, l.below)) keeps p.3 in
      let frame : Frame total t locals slots1 = record {
        same = λ j i lt. get_or-set_other slots t.result_slot (slot_of t j i) w no_value (λ q. absurd (omega (arith, q, own))) ∙ f.same j i lt;
        within = f.within;
        low = f.low;
      } in
      subst (λ q. Standing (Leave line into r (result_of r (Some v) so_far) saved ∷ rest) locals slots1 q) (sym l.return_to)
      (stands b process total code t (Leave line into r (result_of r (Some v) so_far) saved ∷ rest) locals slots1 pc (p.0, u, leave, rest_at) frame)
