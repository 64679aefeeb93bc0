-- Calls: their slots, their arguments, and the end of a called function.
use Rattle.std.proofs.Common.{◌≡◌, ℕ, zero, suc, ◌+◌, ◌<◌, ◌≤◌, inl, List, [], ◌∷◌, ◌++◌, length, map, Option, Some, None, Ok, refl, sym, ap, ◌∙◌, subst, arith, get_or, length-append}
use Rattle.std.specs.Prelude.{slice_get, slice_set, min}
use Rattle.std.proofs.lemmas.List.{length-set, get_or-set_same, get_or-set_other}
use Rattle.ooo_time.specs.declared.stamp.Stamp.{Stamp}
use Rattle.ooo_value.specs.declared.kinds.Kind.{Kind}
use Rattle.ooo_value.specs.declared.values.Value.{Value}
use Rattle.ooo_value.specs.Operators.{Answer}
use Rattle.ooo_value.specs.Values.{conversion_of}
use Rattle.ooo_code.specs.declared.activation.Frame.{Frame as NodeFrame}
use Rattle.ooo_code.specs.declared.expression.NodeExpr.{NodeExpr}
use Rattle.ooo_code.specs.declared.node.Node.{Node}
use Rattle.ooo_code.specs.declared.node.NodeKind.TheVariants as kind
use Rattle.ooo_code.specs.declared.segment.SegmentEntry.{SegmentEntry}
use Rattle.ooo_code.specs.Expressions.{no_value, on_value}
use Rattle.ooo_code.specs.Nodes as by_nodes
use Rattle.ooo_code.specs.Outcomes.{Outcome}
use Rattle.ooo_bound.specs.declared.expr.BoundExpr.{BoundExpr}
use Rattle.ooo_bound.specs.declared.model.Bound.{Bound}
use Rattle.ooo_bound.specs.declared.model.BoundFunction.{BoundFunction}
use Rattle.ooo_bound.specs.declared.model.BoundProcess.{BoundProcess}
use Rattle.ooo_bound.specs.declared.stat.BoundTarget.{BoundTarget}
use Rattle.ooo_bound.specs.declared.stat.BoundTarget.TheVariants as target
use Rattle.ooo_activation.specs.Locals.{Locals, no_locals, with_local}
use Rattle.ooo_activation.specs.Kinds.{simples_in}
use Rattle.ooo_activation.specs.Expressions as over_locals
use Rattle.ooo_activation.specs.Items.{Item, Leave, entered_all}
use Rattle.ooo_activation.specs.Activations.{Place, Course, Onward, sight_of, first_result}
use Rattle.ooo_activation.specs.Activations as by_statements
use Rattle.ooo_shapes.specs.declared.around.Around.{Around}
use Rattle.ooo_shapes.specs.declared.around.Widths.{Widths}
use Rattle.ooo_shapes.specs.Widths.{start_of, count_of, up_to, expr_widths, exprs_widths, target_widths, params_widths, body_widths, kinds_of}
use Rattle.ooo_shapes.specs.Expressions.{first_base, slot_of, lowered}
use Rattle.ooo_shapes.specs.Simples.{counted, uncounted, put_kind}
use Rattle.ooo_shapes.specs.Shapes.{Shape, call_kinds, function_widths, result_kinds, inside_call, zero_nodes, argument_nodes, result_expr, leave_kind, call_shape, body_shape, callees_within}
use Rattle.ooo_shapes.proofs.Frames.{Within, within_left, within_right, within_same, within_local, start_below, Frame, Keeps, keeps_set, keeps_frame, frame_set}
use Rattle.ooo_shapes.proofs.Values.{gives, gives_Constant, converted_gives}
use Rattle.ooo_shapes.proofs.Zeros.{zero_of, count_kinds, zero_last}
use Rattle.ooo_shapes.proofs.Places.{SimplesFound, CallFound, Holds, HasAt, has_front, has_back, After, after_more, LeaveAt, Laid, stands, place_keeps}
use Rattle.ooo_shapes.proofs.Enter.{begins_end, zero_full, argument_full, good_body}
use Rattle.ooo_shapes.proofs.Same.{doing, same_by, full, fuel_next, setting, running, pass, acts, run_is, at, same_converted}
use Rattle.ooo_shapes.proofs.Puts.{Goes, home, value_is, slot_is, put_same}
use Rattle.ooo_shapes.proofs.Steps.{PlaceAt, FuelAt, Here, statements, passes, Agree, step}

module _ (b : Bound) (process : BoundProcess) (total : ℕ) (code : List Node) (first : ℕ) (entry : SegmentEntry) (stamp : Stamp) where
  abbrev Alike : Outcome Place → Outcome NodeFrame → Type 0
  Alike x y = Here b process total code first entry stamp x y

  abbrev through : ℕ → ℕ → by_nodes.Next
  through n m = passes b process total code first entry stamp n m

  abbrev Fueled : ℕ → ℕ → Type 0
  Fueled m pc = FuelAt b process total code first entry stamp m pc

  abbrev here : by_statements.Setting
  here = setting b process total code first entry stamp

  -- ---- the end of a called function

  -- the result of a function is read
  result_gives : (k : Option Kind) (slot : ℕ) (v : Value) (slots : List Value) (d : Course) → Holds k slot slots v → gives (result_expr k slot) (by_nodes.sight_of (doing slots d)) ≡ Ok v
  result_gives None slot v slots d e = gives_Constant no_value (by_nodes.sight_of (doing slots d)) ∙ ap Ok (sym e)
  result_gives (Some k) slot v slots d e = slot_is b process total code first entry stamp slot v slots d e

  -- the result is put into a target
  leave_put : (n : ℕ) (line : ℕ) (into : BoundTarget) (e : NodeExpr) (v : Value) (saved : Locals) (u : Around) (next pc m : ℕ) (slots : List Value) (d : Course) (go : Onward) → slice_get code pc ≡ Some (uncounted (put_kind (home b process total code first entry stamp) u into e next) line next) → After b process total code (pc + 1) next → gives e (by_nodes.sight_of (doing slots d)) ≡ Ok v → Within (target_widths into) u.widths → Frame total u saved slots → length slots ≡ total → Fueled m pc → ((j : ℕ) → Fueled j next → Goes b process total code first entry stamp u slots go (through n j) next) → Alike (by_statements.assign here into v line saved d go) (through n m pc (doing slots d))
  leave_put n line into e v saved u next pc m slots d go h a is w f len fuel goes =
      step b process total code first entry stamp _ n m pc _ line next (doing slots d) h fuel (λ j fuel.
      put_same b process total code first entry stamp into e (Ok v) line pc next (through n j) go u saved slots d is w f len
      (goes j (fuel_next b process total code first j pc _ h refl a fuel)))

  -- the result goes to its target
  pub leave_same : (n : ℕ) (line : ℕ) (into : BoundTarget) (k : Option Kind) (v : Value) (saved : Locals) (t u : Around) (next pc m : ℕ) (slots : List Value) (d : Course) (go : Onward) → LeaveAt b process total code line into k v saved t u next pc slots → length slots ≡ total → Fueled m pc → ((j : ℕ) → Fueled j next → Goes b process total code first entry stamp u slots go (through n j) next) → Alike (by_statements.assign here into v line saved d go) (through n m pc (doing slots d))
  leave_same n line target.Nothing k v saved t u next pc m slots d go l len fuel goes =
      step b process total code first entry stamp _ n m pc _ line next (doing slots d) l.is_node fuel (λ j fuel.
      goes j (fuel_next b process total code first j pc _ l.is_node refl l.after fuel) saved slots d l.frame (λ i low less. refl) len)
  leave_same n line (target.Local i x) k v saved t u next pc m slots d go l len fuel goes =
      leave_put n line (target.Local i x) (result_expr k t.result_slot) v saved u next pc m slots d go l.is_node l.after (result_gives k t.result_slot v slots d l.holds) l.within l.frame len fuel goes
  leave_same n line (target.Variable x) k v saved t u next pc m slots d go l len fuel goes =
      leave_put n line (target.Variable x) (result_expr k t.result_slot) v saved u next pc m slots d go l.is_node l.after (result_gives k t.result_slot v slots d l.holds) l.within l.frame len fuel goes
  leave_same n line (target.Element x i) k v saved t u next pc m slots d go l len fuel goes =
      leave_put n line (target.Element x i) (result_expr k t.result_slot) v saved u next pc m slots d go l.is_node l.after (result_gives k t.result_slot v slots d l.holds) l.within l.frame len fuel goes
  leave_same n line (target.Signal c) k v saved t u next pc m slots d go l len fuel goes =
      leave_put n line (target.Signal c) (result_expr k t.result_slot) v saved u next pc m slots d go l.is_node l.after (result_gives k t.result_slot v slots d l.holds) l.within l.frame len fuel goes

  -- ---- the slots of a call are at 0

  record Zeroed (slots : List Value) (slot : ℕ) (ks : List Kind) (slots' : List Value) : Type 0 where
    below : (i : ℕ) → i < slot → get_or slots' i no_value ≡ get_or slots i no_value
    holds : (i : ℕ) → i < length ks → get_or slots' (slot + i) no_value ≡ get_or (map zero_of ks) i no_value
    count : length slots' ≡ total

  -- one slot more is at 0
  zero_more : (slots : List Value) (slot : ℕ) (k : Kind) (ks : List Kind) (slots' : List Value) → slot < length slots → Zeroed (slice_set slots slot (zero_of k)) (slot + 1) ks slots' → Zeroed slots slot (k ∷ ks) slots'
  zero_more slots slot k ks slots' lt z = record {
    below = λ i less. z.below i (omega arith) ∙ get_or-set_other slots slot i (zero_of k) no_value (λ e. absurd (omega (arith, e, less)));
    holds = λ i less. at_index i less;
    count = z.count;
  }
    where
      at_index : (i : ℕ) → i < length (k ∷ ks) → get_or slots' (slot + i) no_value ≡ get_or (map zero_of (k ∷ ks)) i no_value
      at_index zero less = let e : slot + 0 ≡ slot = omega arith in ap (λ n. get_or slots' n no_value) e ∙ z.below slot (omega arith) ∙ get_or-set_same slots slot (zero_of k) no_value lt
      at_index (suc i) less = let e : slot + suc i ≡ slot + 1 + i = omega arith in ap (λ n. get_or slots' n no_value) e ∙ z.holds i (omega (arith, less))

  -- the slots of a call get 0, and it goes on behind that
  zeros_same : (x : Outcome Place) (n line slot : ℕ) (ks : List Kind) (q m : ℕ) (slots : List Value) (d : Course) → HasAt b process total code q (zero_nodes line slot ks q) → slot + length ks ≤ total → length slots ≡ total → Fueled m q → ((slots' : List Value) (j : ℕ) → Zeroed slots slot ks slots' → Fueled j (q + length ks) → Alike x (through n j (q + length ks) (doing slots' d))) → Alike x (through n m q (doing slots d))
  zeros_same x n line slot [] q m slots d h room len fuel go =
      let e : q + 0 ≡ q = omega arith in
      subst (λ q. Alike x (through n m q (doing slots d))) e (go slots m (record { below = λ i less. refl; holds = λ i less. absurd (omega (arith, less)); count = len }) (subst (λ q. Fueled m q) (sym e) fuel))
  zeros_same x n line slot (k ∷ ks) q m slots d h room len fuel go =
      let e : q + 1 + length ks ≡ q + length (k ∷ ks) = omega arith in
      step b process total code first entry stamp x n m q _ line (q + 1) (doing slots d) h.0 fuel (λ j fuel.
      same_by b process total code first (ap (λ (o : Answer). by_nodes.with_result (running b process total code first entry stamp) line (doing slots d) o (λ v. through n j (q + 1) (by_nodes.with_slot slot v (doing slots d)))) (gives_Constant (zero_of k) (by_nodes.sight_of (doing slots d))))
      (zeros_same x n line (slot + 1) ks (q + 1) j (slice_set slots slot (zero_of k)) d h.1 (omega (arith, room)) (length-set slots slot (zero_of k) ∙ len) (fuel_next b process total code first j q _ h.0 refl (inl (omega arith)) fuel) (λ slots' j z fuel.
      subst (λ q. Alike x (through n j q (doing slots' d))) (sym e) (go slots' j (zero_more slots slot k ks slots' (omega (arith, room, len)) z) (subst (λ q. Fueled j q) e fuel)))))

  -- ---- the arguments of a call

  -- the arguments are evaluated into the slots of the parameters, and it goes on behind that
  args_same : (n line i : ℕ) (t u : Around) (ks : List Kind) (es : List BoundExpr) (q m : ℕ) (locals given : Locals) (slots : List Value) (d : Course) (go : Locals → Outcome Place) → HasAt b process total code q (argument_nodes t u line i ks es q) → Within (params_widths i ks) u.widths → Within (exprs_widths es) t.widths → t.base + count_of t.widths ≤ u.base → Frame total t locals slots → Frame total u given slots → length slots ≡ total → Fueled m q → ((given' : Locals) (slots' : List Value) (j : ℕ) → Frame total u given' slots' → Keeps total u.base slots slots' → length slots' ≡ total → Fueled j (q + min (length ks) (length es)) → Alike (go given') (through n j (q + min (length ks) (length es)) (doing slots' d))) → Alike (by_statements.with_arguments i ks es line locals d given go) (through n m q (doing slots d))
  args_same n line i t u [] [] q m locals given slots d go h wp we above f g len fuel k =
      let e : q + min 0 0 ≡ q = omega arith in
      subst (λ q. Alike (go given) (through n m q (doing slots d))) e (k given slots m g (λ i low less. refl) len (subst (λ q. Fueled m q) (sym e) fuel))
  args_same n line i t u [] (x ∷ es) q m locals given slots d go h wp we above f g len fuel k =
      let e : q + min 0 (length (x ∷ es)) ≡ q = omega arith in
      subst (λ q. Alike (go given) (through n m q (doing slots d))) e (k given slots m g (λ i low less. refl) len (subst (λ q. Fueled m q) (sym e) fuel))
  args_same n line i t u (j ∷ ks) [] q m locals given slots d go h wp we above f g len fuel k =
      let e : q + min (length (j ∷ ks)) 0 ≡ q = omega arith in
      subst (λ q. Alike (go given) (through n m q (doing slots d))) e (k given slots m g (λ i low less. refl) len (subst (λ q. Fueled m q) (sym e) fuel))
  args_same n line i t u (kd ∷ ks) (x ∷ es) q m locals given slots d go h wp we above f g len fuel k =
      let e : q + 1 + min (length ks) (length es) ≡ q + min (length (kd ∷ ks)) (length (x ∷ es)) = omega arith in
      let s : i + 1 ≡ suc i = omega arith in
      let lt = within_local kd i u.widths (within_left (up_to kd i) (params_widths (i + 1) ks) u.widths wp) in
      let rest_has = subst (λ i. HasAt b process total code (q + 1) (argument_nodes t u line i ks es (q + 1))) s h.1 in
      let rest_within = subst (λ i. Within (params_widths i ks) u.widths) s (within_right (up_to kd i) (params_widths (i + 1) ks) u.widths wp) in
      step b process total code first entry stamp _ n m q _ line (q + 1) (doing slots d) h.0 fuel (λ j fuel.
      same_converted b process total code first entry stamp (over_locals.reading_of x (sight_of locals d)) _ kd line locals slots d _ _ (converted_gives kd (lowered t x) _ ∙ ap (λ o. on_value o (λ v. Ok (conversion_of v kd))) (value_is b process total code first entry stamp t locals slots d x f (within_left (expr_widths x) (exprs_widths es) t.widths we))) (λ v.
      let new = conversion_of v kd in
      let slots1 = slice_set slots (slot_of u kd i) new in
      let keeps = keeps_set total u.base (slot_of u kd i) new slots (omega arith) in
      args_same n line (suc i) t u ks es (q + 1) j locals (with_local kd i new given) slots1 d go rest_has rest_within (within_right (expr_widths x) (exprs_widths es) t.widths we) above
      (keeps_frame total t u.base locals slots slots1 above keeps f)
      (frame_set total u kd i new given slots len lt g)
      (length-set slots (slot_of u kd i) new ∙ len)
      (fuel_next b process total code first j q _ h.0 refl (inl (omega arith)) fuel)
      (λ given' slots' j f' k' len' fuel'.
      subst (λ q. Alike (go given') (through n j q (doing slots' d))) (sym e) (k given' slots' j f' (λ i low less. k' i low less ∙ keeps i low less) len' (subst (λ q. Fueled j q) e fuel')))))

  -- ---- a call

  -- the result of a function begins with 0
  result_holds : (k : Option Kind) (w : Widths) (slots slots' : List Value) (free : ℕ) → Zeroed slots free (result_kinds k ++ kinds_of w) slots' → Holds k free slots' (first_result k)
  result_holds None w slots slots' free z = refl
  result_holds (Some k) w slots slots' free z = let e : free ≡ free + 0 = omega arith in ap (λ n. get_or slots' n no_value) e ∙ z.holds 0 (omega arith)

  -- the result's slot stays as it is
  keeps_result : (k : Option Kind) (free : ℕ) (slots slots' : List Value) (v : Value) → first_base ≤ free → Keeps total (free + length (result_kinds k)) slots slots' → Holds k free slots v → Holds k free slots' v
  keeps_result None free slots slots' v low s e = e
  keeps_result (Some k) free slots slots' v low s e = s free low (omega arith) ∙ e

  module _ (n : ℕ) (ih : Agree b process total code first entry stamp n) (depth line : ℕ) (into : BoundTarget) (args : List BoundExpr) (fn : BoundFunction) (t : Around) (rest : List Item) (locals : Locals) (slots : List Value) (free pc next : ℕ) (d : Course) (found : SimplesFound (CallFound b.functions depth) (simples_in fn.body)) (has : HasAt b process total code pc ((call_shape (home b process total code first entry stamp) line into args (Some (record { function = fn; body = body_shape (home b process total code first entry stamp) (callees_within depth (home b process total code first entry stamp)) fn.body }))).nodes t free pc next)) (after : After b process total code (pc + (1 + (length (call_kinds fn) + (min (length fn.params) (length args) + ((body_shape (home b process total code first entry stamp) (callees_within depth (home b process total code first entry stamp)) fn.body).size + 1))))) next) (room : free + (length (call_kinds fn) + length (body_shape (home b process total code first entry stamp) (callees_within depth (home b process total code first entry stamp)) fn.body).slots) ≤ total) (above : t.base + count_of t.widths ≤ free) (wi : Within (target_widths into) t.widths) (wa : Within (exprs_widths args) t.widths) (f : Frame total t locals slots) (len : length slots ≡ total) (p : PlaceAt b process total code first entry stamp t slots rest next) where
    abbrev c : Shape
    c = body_shape (home b process total code first entry stamp) (callees_within depth (home b process total code first entry stamp)) fn.body

    abbrev zeros : ℕ
    zeros = length (call_kinds fn)

    abbrev given : ℕ
    given = min (length fn.params) (length args)

    abbrev args_at : ℕ
    args_at = pc + 1 + zeros

    abbrev body_at : ℕ
    body_at = pc + 1 + zeros + given

    abbrev leave : ℕ
    leave = body_at + c.size

    abbrev u : Around
    u = inside_call fn free leave

    abbrev first_nodes : List Node
    first_nodes = zero_nodes line free (call_kinds fn) (pc + 1)

    abbrev args_nodes : List Node
    args_nodes = argument_nodes t u line 0 fn.params args args_at

    abbrev body_nodes : List Node
    body_nodes = c.nodes u (free + zeros) body_at leave

    abbrev last : List Node
    last = uncounted (leave_kind (home b process total code first entry stamp) t into fn.result free next) line next ∷ []

    abbrev Are : ℕ → List Node → Type 0
    Are q ns = HasAt b process total code q ns

    zeros_has : Are (pc + 1) first_nodes
    zeros_has = has_front b process total code (pc + 1) first_nodes (args_nodes ++ (body_nodes ++ last)) has.1

    has_2 : Are args_at (args_nodes ++ (body_nodes ++ last))
    has_2 = subst (λ k. Are (pc + 1 + k) (args_nodes ++ (body_nodes ++ last))) (zero_full line free (call_kinds fn) (pc + 1)) (has_back b process total code (pc + 1) first_nodes (args_nodes ++ (body_nodes ++ last)) has.1)

    has_3 : Are body_at (body_nodes ++ last)
    has_3 = subst (λ k. Are (args_at + k) (body_nodes ++ last)) (argument_full t u line 0 fn.params args args_at) (has_back b process total code args_at args_nodes (body_nodes ++ last) has_2)

    has_last : Are leave last
    has_last = subst (λ k. Are (body_at + k) last) ((good_body b process total code slots depth fn.body).full u (free + zeros) body_at leave) (has_back b process total code body_at body_nodes last has_3)

    -- how many slots are at 0
    zeros_are : zeros ≡ length (result_kinds fn.result) + count_of (function_widths fn)
    zeros_are = length-append (result_kinds fn.result) (kinds_of (function_widths fn)) ∙ ap (λ k. length (result_kinds fn.result) + k) (count_kinds (function_widths fn))

    laid : Laid b process total code depth c (body_widths fn.body) (simples_in fn.body) u (free + zeros) body_at leave
    laid = record {
      within = within_right (params_widths 0 fn.params) (body_widths fn.body) u.widths (within_same u.widths);
      found = found;
      has = has_front b process total code body_at body_nodes last has_3;
      after = inl (omega arith);
      room = omega (arith, room);
      above = omega (arith, zeros_are);
    }

    -- the body of the function, and what remains behind it
    body_same : (given' : Locals) (slots' : List Value) (j : ℕ) → Frame total u given' slots' → Keeps total free slots slots' → Holds fn.result free slots' (first_result fn.result) → length slots' ≡ total → Fueled j body_at → Alike (statements b process total code first entry stamp n (entered_all fn.body (Leave line into fn.result (first_result fn.result) locals ∷ rest)) given' d) (through n j body_at (doing slots' d))
    body_same given' slots' j f' k' holds len' fuel =
        let at_end : LeaveAt b process total code line into fn.result (first_result fn.result) locals u t next leave slots' = record {
          is_node = has_last.0;
          after = after_more b process total code (leave + 1) (pc + (1 + (zeros + (given + (c.size + 1))))) next (omega arith) after;
          frame = keeps_frame total t free locals slots slots' above k' f;
          within = wi;
          below = above;
          own = refl;
          result = refl;
          holds = holds;
          break_to = refl;
          continue_to = refl;
          return_to = refl;
        } in
        let rest_at = place_keeps b process total code t free slots slots' rest next (omega (arith, above)) k' p in
        let placed = (good_body b process total code slots' depth fn.body).enters u (free + zeros) body_at leave (Leave line into fn.result (first_result fn.result) locals ∷ rest) laid (next, t, at_end, rest_at) in
        let items = entered_all fn.body (Leave line into fn.result (first_result fn.result) locals ∷ rest) in
        let placed' = subst (λ q. PlaceAt b process total code first entry stamp u slots' items q) (begins_end c.size body_at) placed in
        ih items given' slots' body_at j d (stands b process total code u items given' slots' body_at placed' f') len' fuel

    -- a call that finds its function
    pub call_found : (m : ℕ) → Alike (by_statements.call (Some fn) into args line (statements b process total code first entry stamp n) rest locals d) (pass b process total code first entry stamp (acts b process total code first entry stamp n) (suc m) pc (doing slots d))
    call_found m =
        let start = by_statements.with_arguments 0 fn.params args line locals d no_locals (λ given. statements b process total code first entry stamp n (entered_all fn.body (Leave line into fn.result (first_result fn.result) locals ∷ rest)) given d) in
        same_by b process total code first (at b process total code first entry stamp (acts b process total code first entry stamp n) m pc (counted kind.Goto line (pc + 1)) (doing slots d) has.0 ∙ run_is b process total code first entry stamp n (pc + 1) (doing slots d))
        (zeros_same start n line free (call_kinds fn) (pc + 1) (by_nodes.between code) slots d zeros_has (omega (arith, room)) len (full b process total code first (pc + 1)) (λ slots1 j z fuel.
        let keeps1 : Keeps total free slots slots1 = λ i low less. z.below i less in
        let f1 = keeps_frame total t free locals slots slots1 above keeps1 f in
        let g1 : Frame total u no_locals slots1 = record {
          same = λ k i lt.
              let w = function_widths fn in
              let r = length (result_kinds fn.result) in
              let below = start_below w k i lt in
              let e : slot_of u k i ≡ free + (r + (start_of w k + i)) = omega arith in
              ap (λ n. get_or slots1 n no_value) e ∙ z.holds (r + (start_of w k + i)) (omega (arith, zeros_are, below)) ∙ zero_last w (result_kinds fn.result) k i lt;
          within = omega (arith, room, zeros_are);
          low = omega (arith, f.low, above);
        } in
        args_same n line 0 t u fn.params args args_at j locals no_locals slots1 d _ (has_front b process total code args_at args_nodes (body_nodes ++ last) has_2) (within_left (params_widths 0 fn.params) (body_widths fn.body) u.widths (within_same u.widths)) wa (omega (arith, above)) f1 g1 z.count fuel (λ given' slots' j f' k' len' fuel'.
        body_same given' slots' j f' (λ i low less. k' i low (omega (arith, less)) ∙ keeps1 i low less) (keeps_result fn.result free slots1 slots' (first_result fn.result) (omega (arith, f.low, above)) k' (result_holds fn.result (function_widths fn) slots slots1 free z)) len' fuel')))
