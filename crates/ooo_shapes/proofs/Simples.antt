-- Statements without statements in them, but for calls.
use Rattle.std.proofs.Common.{◌≡◌, ℕ, suc, ◌+◌, ◌<◌, inl, List, [], ◌∷◌, length, Bool, true, false, Some, None, Ok, Err, refl, sym, ap, ap₂, ◌∙◌, subst, arith, get_or}
use Rattle.std.specs.Prelude.{slice_get, slice_set}
use Rattle.std.proofs.lemmas.List.{length-set, get_or-set_same, get_or-set_other}
use Rattle.ooo_time.specs.declared.stamp.Stamp.{Stamp}
use Rattle.ooo_time.specs.TimeText.{time_text}
use Rattle.ooo_value.specs.declared.operators.Op.{Op}
use Rattle.ooo_value.specs.declared.values.Value.{Value}
use Rattle.ooo_value.specs.declared.values.Value.TheVariants as value
use Rattle.ooo_value.specs.Operators.{Answer, binary_of}
use Rattle.ooo_value.specs.Values.{number_of, conversion_of}
use Rattle.ooo_value.specs.ValueText.{value_text}
use Rattle.ooo_code.specs.declared.activation.Frame.{Frame as NodeFrame}
use Rattle.ooo_code.specs.declared.expression.NodeExpr.TheVariants as node
use Rattle.ooo_code.specs.declared.node.Node.{Node}
use Rattle.ooo_code.specs.declared.node.NodeKind.{NodeKind}
use Rattle.ooo_code.specs.declared.node.NodeKind.TheVariants as kind
use Rattle.ooo_code.specs.declared.segment.SegmentEntry.{SegmentEntry}
use Rattle.ooo_code.specs.Expressions.{no_value, on_value, fifo_seen, cells_of, index_in, element_at}
use Rattle.ooo_code.specs.Nodes.{with_first}
use Rattle.ooo_code.specs.Nodes as by_nodes
use Rattle.ooo_code.specs.Outcomes.{Outcome}
use Rattle.ooo_bound.specs.declared.expr.BoundExpr.{BoundExpr}
use Rattle.ooo_bound.specs.declared.model.Bound.{Bound}
use Rattle.ooo_bound.specs.declared.model.BoundProcess.{BoundProcess}
use Rattle.ooo_bound.specs.declared.stat.BoundItem.{BoundItem}
use Rattle.ooo_bound.specs.declared.stat.BoundItem.TheVariants as item
use Rattle.ooo_bound.specs.declared.stat.BoundSimple.TheVariants as simple
use Rattle.ooo_bound.specs.declared.stat.BoundTarget.{BoundTarget}
use Rattle.ooo_bound.specs.declared.stat.BoundTarget.TheVariants as target
use Rattle.ooo_activation.specs.Locals.{Locals}
use Rattle.ooo_activation.specs.Expressions as over_locals
use Rattle.ooo_activation.specs.Items.{Item}
use Rattle.ooo_activation.specs.Activations.{Place, Course, Onward, sight_of, variable_kind, channel_kind, data_written}
use Rattle.ooo_activation.specs.Activations as by_statements
use Rattle.ooo_shapes.specs.declared.around.Around.{Around}
use Rattle.ooo_shapes.specs.Widths.{expr_widths, target_widths, item_widths, items_widths}
use Rattle.ooo_shapes.specs.Expressions.{value_slot, index_slot, slot_of, lowered, converted, kind_in}
use Rattle.ooo_shapes.specs.Simples.{counted, uncounted, put_kind, put_at_kind, truth, channel_slot, read_nodes, nb_read_nodes, nb_write_nodes, update_nodes, update_size, current_expr, item_nodes, begins}
use Rattle.ooo_shapes.proofs.Frames.{Within, within_left, within_right, within_local, Frame, Keeps}
use Rattle.ooo_shapes.proofs.Values.{gives, gives_Constant, gives_Slot, gives_Variable, gives_Signal, gives_Element, gives_Binary, converted_gives}
use Rattle.ooo_shapes.proofs.Places.{HasAt, After, after_more, Stands, place_keeps}
use Rattle.ooo_shapes.proofs.Enter.{begins_some, after_begins}
use Rattle.ooo_shapes.proofs.Same.{doing, same_by, full, fuel_next, fuel_other, setting, running, pass, acts, run_is, at, same_result, same_converted, same_first, same_free}
use Rattle.ooo_shapes.proofs.Puts.{value_below, index_below, value_index, home, value_is, slot_is, frame_first, put_element, put_same, AimHolds, aim_keeps, put_at_same, aim_same}
use Rattle.ooo_shapes.proofs.Steps.{PlaceAt, FuelAt, Here, statements, nodes, passes, does, Agree, place_first, goes_on, goes_run, step, put_step, rests}

module _ (b : Bound) (process : BoundProcess) (total : ℕ) (code : List Node) (first : ℕ) (entry : SegmentEntry) (stamp : Stamp) where
  -- nodes further on
  abbrev Are : ℕ → List Node → Type 0
  Are pc ns = HasAt b process total code pc ns

  -- a place further on
  pub moved : (p q : ℕ) (i : Node) → p ≡ q → slice_get code p ≡ Some i → slice_get code q ≡ Some i
  moved p q i e h = subst (λ q. slice_get code q ≡ Some i) e h

  after_is : (p q r : ℕ) → p ≡ q → After b process total code p r → After b process total code q r
  after_is p q r e a = subst (λ p. After b process total code p r) e a

  -- a node that counts, and what follows it
  pub counts : (x : Outcome Place) (n m pc : ℕ) (k : NodeKind) (line next : ℕ) (d : by_nodes.Doing) → slice_get code pc ≡ Some (counted k line next) → Here b process total code first entry stamp x (does b process total code first entry stamp k pc line next (nodes b process total code first entry stamp n) pc d) → Here b process total code first entry stamp x (pass b process total code first entry stamp (acts b process total code first entry stamp n) (suc m) pc d)
  counts x n m pc k line next d h s = same_by b process total code first (at b process total code first entry stamp (acts b process total code first entry stamp n) m pc (counted k line next) d h) s

  -- a slot of a channel's value
  abbrev slot_for : ℕ → ℕ
  slot_for c = channel_slot (home b process total code first entry stamp) c

  slot_below : (c : ℕ) → slot_for c < 10
  slot_below c = value_below (channel_kind b c)

  module _ (n : ℕ) (ih : Agree b process total code first entry stamp n) (t : Around) (rest : List Item) (next : ℕ) where
    abbrev Alike : Outcome Place → Outcome NodeFrame → Type 0
    Alike x y = Here b process total code first entry stamp x y

    abbrev on : by_statements.Onward
    on = statements b process total code first entry stamp n rest

    abbrev through : ℕ → by_nodes.Next
    through m = passes b process total code first entry stamp n m

    abbrev Remains : List Value → Type 0
    Remains slots = PlaceAt b process total code first entry stamp t slots rest next

    abbrev assigns : BoundTarget → Value → (line : ℕ) → Onward
    assigns into v line locals d = by_statements.assign (setting b process total code first entry stamp) into v line locals d on

    -- what remains stays there
    kept : (t : Around) (slots slots' : List Value) → Keeps total t.base slots slots' → PlaceAt b process total code first entry stamp t slots rest next → PlaceAt b process total code first entry stamp t slots' rest next
    kept t slots slots' k p = place_keeps b process total code t t.base slots slots' rest next (omega arith) k p

    -- a constant of bool is put
    truth_step : (x : Bool) (into : BoundTarget) (line : ℕ) (locals : Locals) (slots : List Value) (pc m : ℕ) (d : Course) → slice_get code pc ≡ Some (uncounted (put_kind (home b process total code first entry stamp) t into (truth x) next) line next) → After b process total code (pc + 1) next → Within (target_widths into) t.widths → Frame total t locals slots → length slots ≡ total → Remains slots → FuelAt b process total code first entry stamp m pc → Alike (assigns into (value.Bool x) line locals d) (through m pc (doing slots d))
    truth_step x into line locals slots pc m d h a w f len p fuel =
        put_step b process total code first entry stamp n ih into (truth x) (Ok (value.Bool x)) line next t rest locals slots pc m d h a (gives_Constant (value.Bool x) (by_nodes.sight_of (doing slots d))) w f len p fuel

    -- ---- reads and writes of fifos

    -- a blocking read waits until values were written
    read_waits : (c line : ℕ) (again : List Item) (locals : Locals) (slots : List Value) (pc : ℕ) (d : Course) → slice_get code (pc + 1) ≡ Some (uncounted (kind.Wait (record { time = None; events = data_written b c; is_static = false })) line pc) → Stands b process total code again locals slots pc → length slots ≡ total → Alike (by_statements.ends again locals (by_statements.until (data_written b c)) d) (nodes b process total code first entry stamp n (pc + 1) (doing slots d))
    read_waits c line again locals slots pc d h s len =
        same_by b process total code first (run_is b process total code first entry stamp n (pc + 1) (doing slots d))
        (step b process total code first entry stamp _ n (by_nodes.between code) (pc + 1) _ line pc (doing slots d) h (full b process total code first (pc + 1)) (λ j fuel.
        record { deed = refl; next = rests b process total code first entry stamp again locals slots (pc + 1) _ h s len }))

    -- a blocking read waits, or takes a value and puts it
    pub read_same : (into : BoundTarget) (c line : ℕ) (again : List Item) (locals : Locals) (slots : List Value) (pc m : ℕ) (d : Course) → Are pc (read_nodes (home b process total code first entry stamp) t into c line pc next) → After b process total code (pc + 4) next → Within (target_widths into) t.widths → Frame total t locals slots → length slots ≡ total → Remains slots → Stands b process total code again locals slots pc → Alike (with_first (fifo_seen d.seen c).values (by_statements.ends again locals (by_statements.until (data_written b c)) d) (λ v. assigns into v line locals (by_statements.with_take c d))) (pass b process total code first entry stamp (acts b process total code first entry stamp n) (suc m) pc (doing slots d))
    read_same into c line again locals slots pc m d h a w f len p s =
        counts _ n m pc _ line (pc + 2) (doing slots d) h.0
        (same_first b process total code first entry stamp (fifo_seen d.seen c).values _ _ _ _ (read_waits c line again locals slots pc d h.1.0 s len) takes)
      where
        takes : (v : Value) (vs : List Value) → (fifo_seen d.seen c).values ≡ v ∷ vs → Alike (assigns into v line locals (by_statements.with_take c d)) (nodes b process total code first entry stamp n (pc + 2) (doing slots d))
        takes v vs e =
            let three = moved (pc + 1 + 1) (pc + 2) (uncounted (kind.Take c (slot_for c)) line (pc + 3)) (omega arith) h.1.1.0 in
            let four = moved (pc + 1 + 1 + 1) (pc + 3) (uncounted (put_kind (home b process total code first entry stamp) t into (node.Slot (slot_for c)) next) line next) (omega arith) h.1.1.1.0 in
            let slots1 = slice_set slots (slot_for c) v in
            let room : slot_for c < length slots = omega (arith, len, slot_below c, f.low, f.within) in
            same_by b process total code first (run_is b process total code first entry stamp n (pc + 2) (doing slots d))
            (step b process total code first entry stamp _ n (by_nodes.between code) (pc + 2) _ line (pc + 3) (doing slots d) three (full b process total code first (pc + 2)) (λ j fuel.
            same_by b process total code first (ap (λ (q : List Value). by_nodes.with_first q (through j (pc + 3) (doing slots d)) (λ v. through j (pc + 3) (by_nodes.with_take c (slot_for c) v (doing slots d)))) e)
            (put_step b process total code first entry stamp n ih into (node.Slot (slot_for c)) (Ok v) line next t rest locals slots1 (pc + 3) j (by_statements.with_take c d) four (after_is (pc + 4) (pc + 3 + 1) next (omega arith) a) (slot_is b process total code first entry stamp (slot_for c) v slots1 (by_statements.with_take c d) (get_or-set_same slots (slot_for c) v no_value room)) w (frame_first b process total code first entry stamp t (slot_for c) v locals slots (slot_below c) f) (length-set slots (slot_for c) v ∙ len) (place_first b process total code first entry stamp t (slot_for c) v slots rest next (slot_below c) p) (fuel_next b process total code first j (pc + 2) _ three refl (inl (omega arith)) fuel))))

    -- a read that does not block
    pub nb_read_same : (into : BoundTarget) (c : ℕ) (x : BoundTarget) (line : ℕ) (locals : Locals) (slots : List Value) (pc m : ℕ) (d : Course) → Are pc (nb_read_nodes (home b process total code first entry stamp) t into c x line pc next) → After b process total code (pc + 6) next → Within (target_widths into) t.widths → Within (target_widths x) t.widths → Frame total t locals slots → length slots ≡ total → Remains slots → Alike (by_statements.with_aim x line locals d (λ index. with_first (fifo_seen d.seen c).values (assigns into (value.Bool false) line locals d) (λ v. by_statements.assigned (setting b process total code first entry stamp) x index v line locals (by_statements.with_take c d) (λ locals d. assigns into (value.Bool true) line locals d)))) (pass b process total code first entry stamp (acts b process total code first entry stamp n) (suc m) pc (doing slots d))
    nb_read_same into c x line locals slots pc m d h a wi wx f len p =
        counts _ n m pc _ line (pc + 1) (doing slots d) h.0
        (aim_same b process total code first entry stamp x line pc (pc + 1) (nodes b process total code first entry stamp n) _ t locals slots d wx f len tests)
      where
        three : slice_get code (pc + 2) ≡ Some (uncounted (kind.Take c (slot_for c)) line (pc + 3))
        three = moved (pc + 1 + 1) (pc + 2) _ (omega arith) h.1.1.0

        four : slice_get code (pc + 3) ≡ Some (uncounted (put_at_kind (home b process total code first entry stamp) t x (node.Slot (slot_for c)) (pc + 4)) line (pc + 4))
        four = moved (pc + 1 + 1 + 1) (pc + 3) _ (omega arith) h.1.1.1.0

        five : slice_get code (pc + 4) ≡ Some (uncounted (put_kind (home b process total code first entry stamp) t into (truth true) next) line next)
        five = moved (pc + 1 + 1 + 1 + 1) (pc + 4) _ (omega arith) h.1.1.1.1.0

        six : slice_get code (pc + 5) ≡ Some (uncounted (put_kind (home b process total code first entry stamp) t into (truth false) next) line next)
        six = moved (pc + 1 + 1 + 1 + 1 + 1) (pc + 5) _ (omega arith) h.1.1.1.1.1.0

        takes : (index : Value) (slots1 : List Value) → AimHolds b process total code first entry stamp x index slots1 → Frame total t locals slots1 → length slots1 ≡ total → Remains slots1 → (v : Value) (vs : List Value) → (fifo_seen d.seen c).values ≡ v ∷ vs → (j : ℕ) → FuelAt b process total code first entry stamp j (pc + 2) → Alike (by_statements.assigned (setting b process total code first entry stamp) x index v line locals (by_statements.with_take c d) (λ locals d. assigns into (value.Bool true) line locals d)) (through j (pc + 2) (doing slots1 d))
        takes index slots1 aim f1 len1 p1 v vs e j fuel =
            let d2 = by_statements.with_take c d in
            let slots2 = slice_set slots1 (slot_for c) v in
            let room : slot_for c < length slots1 = omega (arith, len1, slot_below c, f1.low, f1.within) in
            let f2 = frame_first b process total code first entry stamp t (slot_for c) v locals slots1 (slot_below c) f1 in
            let len2 = length-set slots1 (slot_for c) v ∙ len1 in
            let p2 = place_first b process total code first entry stamp t (slot_for c) v slots1 rest next (slot_below c) p1 in
            step b process total code first entry stamp _ n j (pc + 2) _ line (pc + 3) (doing slots1 d) three fuel (λ j fuel.
            same_by b process total code first (ap (λ (q : List Value). by_nodes.with_first q (through j (pc + 3) (doing slots1 d)) (λ v. through j (pc + 3) (by_nodes.with_take c (slot_for c) v (doing slots1 d)))) e)
            (step b process total code first entry stamp _ n j (pc + 3) _ line (pc + 4) (doing slots2 d2) four (fuel_next b process total code first j (pc + 2) _ three refl (inl (omega arith)) fuel) (λ j fuel.
            put_at_same b process total code first entry stamp x (node.Slot (slot_for c)) index v line (pc + 3) (pc + 4) (through j) (λ locals d. assigns into (value.Bool true) line locals d) t locals slots2 d2 (slot_is b process total code first entry stamp (slot_for c) v slots2 d2 (get_or-set_same slots1 (slot_for c) v no_value room)) (aim_keeps b process total code first entry stamp x index v (channel_kind b c) slots1 aim) wx f2 len2
            (λ locals3 slots3 d3 f3 k3 len3.
            truth_step true into line locals3 slots3 (pc + 4) j d3 five (after_more b process total code (pc + 4 + 1) (pc + 6) next (omega arith) a) wi f3 len3 (kept t slots2 slots3 k3 p2) (fuel_next b process total code first j (pc + 3) _ four refl (inl (omega arith)) fuel)))))

        tests : (index : Value) (slots1 : List Value) → AimHolds b process total code first entry stamp x index slots1 → Frame total t locals slots1 → Keeps total t.base slots slots1 → length slots1 ≡ total → Alike (with_first (fifo_seen d.seen c).values (assigns into (value.Bool false) line locals d) (λ v. by_statements.assigned (setting b process total code first entry stamp) x index v line locals (by_statements.with_take c d) (λ locals d. assigns into (value.Bool true) line locals d))) (nodes b process total code first entry stamp n (pc + 1) (doing slots1 d))
        tests index slots1 aim f1 k1 len1 =
            let p1 = kept t slots slots1 k1 p in
            same_by b process total code first (run_is b process total code first entry stamp n (pc + 1) (doing slots1 d))
            (step b process total code first entry stamp _ n (by_nodes.between code) (pc + 1) _ line (pc + 2) (doing slots1 d) h.1.0 (full b process total code first (pc + 1)) (λ j fuel.
            same_first b process total code first entry stamp (fifo_seen d.seen c).values _ _ _ _
            (truth_step false into line locals slots1 (pc + 5) j d six (after_is (pc + 6) (pc + 5 + 1) next (omega arith) a) wi f1 len1 p1 (fuel_other b process total code first j (pc + 1) (pc + 5) _ h.1.0 refl (λ n e q. cc) (omega arith) fuel))
            (λ v vs e. takes index slots1 aim f1 len1 p1 v vs e j (fuel_next b process total code first j (pc + 1) _ h.1.0 refl (inl (omega arith)) fuel))))

    -- a write that does not block
    pub nb_write_same : (into : BoundTarget) (c : ℕ) (e : BoundExpr) (line : ℕ) (locals : Locals) (slots : List Value) (pc m : ℕ) (d : Course) → Are pc (nb_write_nodes (home b process total code first entry stamp) t into c e line pc next) → After b process total code (pc + 5) next → Within (target_widths into) t.widths → Within (expr_widths e) t.widths → Frame total t locals slots → length slots ≡ total → Remains slots → Alike (by_statements.with_value e line locals d (λ v. by_nodes.if_free (fifo_seen d.seen c).free (assigns into (value.Bool false) line locals d) (assigns into (value.Bool true) line locals (by_statements.with_put c (conversion_of v (channel_kind b c)) d)))) (pass b process total code first entry stamp (acts b process total code first entry stamp n) (suc m) pc (doing slots d))
    nb_write_same into c e line locals slots pc m d h a wi we f len p =
        let k = channel_kind b c in
        counts _ n m pc _ line (pc + 1) (doing slots d) h.0
        (same_converted b process total code first entry stamp (over_locals.reading_of e (sight_of locals d)) _ k line locals slots d _ _ (converted_gives k (lowered t e) _ ∙ ap (λ o. on_value o (λ v. Ok (conversion_of v k))) (value_is b process total code first entry stamp t locals slots d e f we)) (λ v. tests (conversion_of v k)))
      where
        three : slice_get code (pc + 2) ≡ Some (uncounted (kind.Put c (node.Slot (slot_for c))) line (pc + 3))
        three = moved (pc + 1 + 1) (pc + 2) _ (omega arith) h.1.1.0

        four : slice_get code (pc + 3) ≡ Some (uncounted (put_kind (home b process total code first entry stamp) t into (truth true) next) line next)
        four = moved (pc + 1 + 1 + 1) (pc + 3) _ (omega arith) h.1.1.1.0

        five : slice_get code (pc + 4) ≡ Some (uncounted (put_kind (home b process total code first entry stamp) t into (truth false) next) line next)
        five = moved (pc + 1 + 1 + 1 + 1) (pc + 4) _ (omega arith) h.1.1.1.1.0

        tests : (v : Value) → Alike (by_nodes.if_free (fifo_seen d.seen c).free (assigns into (value.Bool false) line locals d) (assigns into (value.Bool true) line locals (by_statements.with_put c v d))) (nodes b process total code first entry stamp n (pc + 1) (doing (slice_set slots (slot_for c) v) d))
        tests v =
            let slots1 = slice_set slots (slot_for c) v in
            let room : slot_for c < length slots = omega (arith, len, slot_below c, f.low, f.within) in
            let f1 = frame_first b process total code first entry stamp t (slot_for c) v locals slots (slot_below c) f in
            let len1 = length-set slots (slot_for c) v ∙ len in
            let p1 = place_first b process total code first entry stamp t (slot_for c) v slots rest next (slot_below c) p in
            let is = slot_is b process total code first entry stamp (slot_for c) v slots1 d (get_or-set_same slots (slot_for c) v no_value room) in
            same_by b process total code first (run_is b process total code first entry stamp n (pc + 1) (doing slots1 d))
            (step b process total code first entry stamp _ n (by_nodes.between code) (pc + 1) _ line (pc + 2) (doing slots1 d) h.1.0 (full b process total code first (pc + 1)) (λ j fuel.
            same_free b process total code first entry stamp (fifo_seen d.seen c).free _ _ _ _
            (truth_step false into line locals slots1 (pc + 4) j d five (after_is (pc + 5) (pc + 4 + 1) next (omega arith) a) wi f1 len1 p1 (fuel_other b process total code first j (pc + 1) (pc + 4) _ h.1.0 refl (λ n e q. cc) (omega arith) fuel))
            (step b process total code first entry stamp _ n j (pc + 2) _ line (pc + 3) (doing slots1 d) three (fuel_next b process total code first j (pc + 1) _ h.1.0 refl (inl (omega arith)) fuel) (λ j fuel.
            same_by b process total code first (ap (λ (o : Answer). by_nodes.with_result (running b process total code first entry stamp) line (doing slots1 d) o (λ v. through j (pc + 3) (by_nodes.with_put c v (doing slots1 d)))) is)
            (truth_step true into line locals slots1 (pc + 3) j (by_statements.with_put c v d) four (after_more b process total code (pc + 3 + 1) (pc + 5) next (omega arith) a) wi f1 len1 p1 (fuel_next b process total code first j (pc + 2) _ three refl (inl (omega arith)) fuel))))))

    -- ---- `a op= b`

    -- a result and what is made of it, or both at once
    result_then : (o : Answer) (g : Value → Answer) (line : ℕ) (locals : Locals) (d : Course) (go : Value → Outcome Place) → by_statements.with_result (on_value o g) line locals d go ≡ by_statements.with_result o line locals d (λ v. by_statements.with_result (g v) line locals d go)
    result_then (Err e) g line locals d go = refl
    result_then (Ok v) g line locals d go = refl

    -- `a op= b` of a target without an index
    update_plain : (into : BoundTarget) (x : Value) (o : Op) (e : BoundExpr) (line : ℕ) (locals : Locals) (slots : List Value) (pc m : ℕ) (d : Course) → gives (current_expr t into) (by_nodes.sight_of (doing slots d)) ≡ Ok x → slice_get code pc ≡ Some (counted (put_kind (home b process total code first entry stamp) t into (node.Binary o (current_expr t into) (lowered t e)) next) line next) → Within (target_widths into) t.widths → Within (expr_widths e) t.widths → Frame total t locals slots → length slots ≡ total → Remains slots → Alike (by_statements.with_value e line locals d (λ y. by_statements.with_result (binary_of o x y) line locals d (λ v. assigns into v line locals d))) (pass b process total code first entry stamp (acts b process total code first entry stamp n) (suc m) pc (doing slots d))
    update_plain into x o e line locals slots pc m d is h wi we f len p =
        let r = over_locals.reading_of e (sight_of locals d) in
        let given = gives_Binary o (current_expr t into) (lowered t e) (by_nodes.sight_of (doing slots d)) ∙ ap₂ (λ v w. on_value v (λ v. on_value w (λ w. binary_of o v w))) is (value_is b process total code first entry stamp t locals slots d e f we) in
        subst (λ a. Alike a (pass b process total code first entry stamp (acts b process total code first entry stamp n) (suc m) pc (doing slots d))) (result_then r (λ y. binary_of o x y) line locals d (λ v. assigns into v line locals d))
        (counts _ n m pc _ line next (doing slots d) h
        (put_same b process total code first entry stamp into (node.Binary o (current_expr t into) (lowered t e)) (on_value r (λ y. binary_of o x y)) line pc next (nodes b process total code first entry stamp n) on t locals slots d given wi f len (goes_run b process total code first entry stamp n ih t rest slots next p)))

    -- `a op= b` of an element: the value of b, the index, and the element
    update_element : (x : ℕ) (i : BoundExpr) (o : Op) (e : BoundExpr) (line : ℕ) (locals : Locals) (slots : List Value) (pc m : ℕ) (d : Course) → Are pc (update_nodes (home b process total code first entry stamp) t (target.Element x i) o e line pc next) → After b process total code (pc + 3) next → Within (expr_widths i) t.widths → Within (expr_widths e) t.widths → Frame total t locals slots → length slots ≡ total → Remains slots → Alike (by_statements.with_value e line locals d (λ y. by_statements.with_value i line locals d (λ index. let cells = cells_of d.variables x in by_statements.with_result (element_at cells (index_in (length cells) (number_of index))) line locals d (λ a. by_statements.with_result (binary_of o a y) line locals d (λ v. by_statements.assigned (setting b process total code first entry stamp) (target.Element x i) index v line locals d on))))) (pass b process total code first entry stamp (acts b process total code first entry stamp n) (suc m) pc (doing slots d))
    update_element x i o e line locals slots pc m d h a wi we f len p =
        counts _ n m pc _ line (pc + 1) (doing slots d) h.0
        (same_result b process total code first entry stamp (over_locals.reading_of e (sight_of locals d)) _ line locals slots d _ _ (value_is b process total code first entry stamp t locals slots d e f we) (λ y. second y))
      where
        three : slice_get code (pc + 2) ≡ Some (uncounted (kind.Store x (Some (node.Slot (index_slot (kind_in b i)))) (converted (variable_kind b x) (node.Binary o (node.Element x (node.Slot (index_slot (kind_in b i)))) (node.Slot (value_slot (kind_in b e)))))) line next)
        three = moved (pc + 1 + 1) (pc + 2) _ (omega arith) h.1.1.0

        third_step : (y index : Value) (slots2 : List Value) (j : ℕ) → get_or slots2 (value_slot (kind_in b e)) no_value ≡ y → get_or slots2 (index_slot (kind_in b i)) no_value ≡ index → Frame total t locals slots2 → length slots2 ≡ total → Remains slots2 → FuelAt b process total code first entry stamp j (pc + 2) → Alike (let cells = cells_of d.variables x in by_statements.with_result (element_at cells (index_in (length cells) (number_of index))) line locals d (λ a. by_statements.with_result (binary_of o a y) line locals d (λ v. by_statements.assigned (setting b process total code first entry stamp) (target.Element x i) index v line locals d on))) (through j (pc + 2) (doing slots2 d))
        third_step y index slots2 j isy isi f2 len2 p2 fuel =
            let cells = cells_of d.variables x in
            let s2 = by_nodes.sight_of (doing slots2 d) in
            let el = element_at cells (index_in (length cells) (number_of index)) in
            let gi = slot_is b process total code first entry stamp (index_slot (kind_in b i)) index slots2 d isi in
            let gy = slot_is b process total code first entry stamp (value_slot (kind_in b e)) y slots2 d isy in
            let g1 = gives_Element x (node.Slot (index_slot (kind_in b i))) s2 ∙ ap (λ o. on_value o (λ v. element_at cells (index_in (length cells) (number_of v)))) gi in
            let g2 = gives_Binary o (node.Element x (node.Slot (index_slot (kind_in b i)))) (node.Slot (value_slot (kind_in b e))) s2 ∙ ap₂ (λ v w. on_value v (λ v. on_value w (λ w. binary_of o v w))) g1 gy in
            let g3 = converted_gives (variable_kind b x) (node.Binary o (node.Element x (node.Slot (index_slot (kind_in b i)))) (node.Slot (value_slot (kind_in b e)))) s2 ∙ ap (λ o. on_value o (λ v. Ok (conversion_of v (variable_kind b x)))) g2 in
            subst (λ a. Alike a (through j (pc + 2) (doing slots2 d))) (result_then el (λ a. binary_of o a y) line locals d (λ v. by_statements.assigned (setting b process total code first entry stamp) (target.Element x i) index v line locals d on))
            (step b process total code first entry stamp _ n j (pc + 2) _ line next (doing slots2 d) three fuel (λ j fuel.
            same_converted b process total code first entry stamp (on_value el (λ a. binary_of o a y)) _ (variable_kind b x) line locals slots2 d _ _ g3 (λ v.
            put_element b process total code first entry stamp x i (node.Slot (index_slot (kind_in b i))) (Ok index) (node.Slot 0) line (pc + 2) next (through j) on t locals slots2 d v gi f2 len2
            (goes_on b process total code first entry stamp n ih t rest slots2 next j p2 (fuel_next b process total code first j (pc + 2) _ three refl (after_is (pc + 3) (pc + 2 + 1) next (omega arith) a) fuel)))))

        second : (y : Value) → Alike (by_statements.with_value i line locals d (λ index. let cells = cells_of d.variables x in by_statements.with_result (element_at cells (index_in (length cells) (number_of index))) line locals d (λ a. by_statements.with_result (binary_of o a y) line locals d (λ v. by_statements.assigned (setting b process total code first entry stamp) (target.Element x i) index v line locals d on)))) (nodes b process total code first entry stamp n (pc + 1) (doing (slice_set slots (value_slot (kind_in b e)) y) d))
        second y =
            let slots1 = slice_set slots (value_slot (kind_in b e)) y in
            let below = value_below (kind_in b e) in
            let below2 = index_below (kind_in b i) in
            let room : value_slot (kind_in b e) < length slots = omega (arith, len, below, f.low, f.within) in
            let f1 = frame_first b process total code first entry stamp t (value_slot (kind_in b e)) y locals slots below f in
            let len1 = length-set slots (value_slot (kind_in b e)) y ∙ len in
            let room2 : index_slot (kind_in b i) < length slots1 = omega (arith, len1, below2, f.low, f.within) in
            let p1 = place_first b process total code first entry stamp t (value_slot (kind_in b e)) y slots rest next below p in
            same_by b process total code first (run_is b process total code first entry stamp n (pc + 1) (doing slots1 d))
            (step b process total code first entry stamp _ n (by_nodes.between code) (pc + 1) _ line (pc + 2) (doing slots1 d) h.1.0 (full b process total code first (pc + 1)) (λ j fuel.
            same_result b process total code first entry stamp (over_locals.reading_of i (sight_of locals d)) _ line locals slots1 d _ _ (value_is b process total code first entry stamp t locals slots1 d i f1 wi) (λ index.
            let slots2 = slice_set slots1 (index_slot (kind_in b i)) index in
            third_step y index slots2 j
            (get_or-set_other slots1 (index_slot (kind_in b i)) (value_slot (kind_in b e)) index no_value (λ q. value_index (kind_in b i) (kind_in b e) (sym q)) ∙ get_or-set_same slots (value_slot (kind_in b e)) y no_value room)
            (get_or-set_same slots1 (index_slot (kind_in b i)) index no_value room2)
            (frame_first b process total code first entry stamp t (index_slot (kind_in b i)) index locals slots1 below2 f1)
            (length-set slots1 (index_slot (kind_in b i)) index ∙ len1)
            (place_first b process total code first entry stamp t (index_slot (kind_in b i)) index slots1 rest next below2 p1)
            (fuel_next b process total code first j (pc + 1) _ h.1.0 refl (inl (omega arith)) fuel))))

    -- `a op= b` of each kind of target
    pub update_same : (into : BoundTarget) (o : Op) (e : BoundExpr) (line : ℕ) (again : List Item) (locals : Locals) (slots : List Value) (pc m : ℕ) (d : Course) → Are pc (update_nodes (home b process total code first entry stamp) t into o e line pc next) → After b process total code (pc + update_size into) next → Within (target_widths into) t.widths → Within (expr_widths e) t.widths → Frame total t locals slots → length slots ≡ total → Remains slots → Alike (by_statements.act_simple (setting b process total code first entry stamp) (simple.Update into o e) line (statements b process total code first entry stamp n) again rest locals d) (pass b process total code first entry stamp (acts b process total code first entry stamp n) (suc m) pc (doing slots d))
    update_same target.Nothing o e line again locals slots pc m d h a wi we f len p =
        update_plain target.Nothing no_value o e line locals slots pc m d (gives_Constant no_value _) h.0 wi we f len p
    update_same (target.Local k j) o e line again locals slots pc m d h a wi we f len p =
        update_plain (target.Local k j) (locals k j) o e line locals slots pc m d (gives_Slot (slot_of t k j) (by_nodes.sight_of (doing slots d)) ∙ ap Ok (f.same k j (within_local k j t.widths wi))) h.0 wi we f len p
    update_same (target.Variable x) o e line again locals slots pc m d h a wi we f len p =
        update_plain (target.Variable x) _ o e line locals slots pc m d (gives_Variable x (by_nodes.sight_of (doing slots d))) h.0 wi we f len p
    update_same (target.Element x i) o e line again locals slots pc m d h a wi we f len p =
        update_element x i o e line locals slots pc m d h a wi we f len p
    update_same (target.Signal c) o e line again locals slots pc m d h a wi we f len p =
        update_plain (target.Signal c) _ o e line locals slots pc m d (gives_Signal c (by_nodes.sight_of (doing slots d))) h.0 wi we f len p

    -- ---- printing

    -- one item of a print, and those behind it
    print_more : (x : BoundItem) (xs : List BoundItem) (line : ℕ) (locals : Locals) (slots : List Value) (at_ m : ℕ) (d : Course) → Are at_ (item_nodes t (x ∷ xs) line at_ next) → Within (item_widths x) t.widths → Frame total t locals slots → FuelAt b process total code first entry stamp m at_ → ((j : ℕ) (d : Course) → FuelAt b process total code first entry stamp (suc j) at_ → Alike (by_statements.prints (setting b process total code first entry stamp) xs line locals d (λ d. on locals d)) (through j (begins (length xs) (at_ + 1) next) (doing slots d))) → Alike (by_statements.prints (setting b process total code first entry stamp) (x ∷ xs) line locals d (λ d. on locals d)) (through m at_ (doing slots d))
    print_more (item.Value e) xs line locals slots at_ m d h w f fuel go =
        step b process total code first entry stamp _ n m at_ _ line _ (doing slots d) h.0 fuel (λ j fuel.
        same_result b process total code first entry stamp (over_locals.reading_of e (sight_of locals d)) _ line locals slots d _ _ (value_is b process total code first entry stamp t locals slots d e f w) (λ v. go j (by_statements.with_output (value_text v) d) fuel))
    print_more (item.Text text) xs line locals slots at_ m d h w f fuel go =
        step b process total code first entry stamp _ n m at_ _ line _ (doing slots d) h.0 fuel (λ j fuel. go j (by_statements.with_output text d) fuel)
    print_more item.Time xs line locals slots at_ m d h w f fuel go =
        step b process total code first entry stamp _ n m at_ _ line _ (doing slots d) h.0 fuel (λ j fuel. go j (by_statements.with_output (time_text stamp.time) d) fuel)

    -- the items of a print
    prints_same : (items : List BoundItem) (line : ℕ) (locals : Locals) (slots : List Value) (at_ m : ℕ) (d : Course) → Are at_ (item_nodes t items line at_ next) → After b process total code (at_ + length items) next → Within (items_widths items) t.widths → Frame total t locals slots → length slots ≡ total → Remains slots → FuelAt b process total code first entry stamp m (begins (length items) at_ next) → Alike (by_statements.prints (setting b process total code first entry stamp) items line locals d (λ d. on locals d)) (through m (begins (length items) at_ next) (doing slots d))
    prints_same [] line locals slots at_ m d h a w f len p fuel =
        goes_on b process total code first entry stamp n ih t rest slots next m p fuel locals slots d f (λ i low less. refl) len
    prints_same (x ∷ xs) line locals slots at_ m d h a w f len p fuel =
        let here = begins_some (length (x ∷ xs)) at_ next (omega arith) in
        let further = after_begins b process total code (length xs) (at_ + 1) next (after_is (at_ + length (x ∷ xs)) (at_ + 1 + length xs) next (omega arith) a) in
        subst (λ q. Alike (by_statements.prints (setting b process total code first entry stamp) (x ∷ xs) line locals d (λ d. on locals d)) (through m q (doing slots d))) (sym here)
        (print_more x xs line locals slots at_ m d h (within_left (item_widths x) (items_widths xs) t.widths w) f (subst (λ q. FuelAt b process total code first entry stamp m q) here fuel) (λ j d fuel.
        prints_same xs line locals slots (at_ + 1) j d h.1 (after_is (at_ + length (x ∷ xs)) (at_ + 1 + length xs) next (omega arith) a) (within_right (item_widths x) (items_widths xs) t.widths w) f len p (fuel_next b process total code first j at_ _ h.0 refl further fuel)))

    -- a print
    pub print_same : (items : List BoundItem) (line : ℕ) (locals : Locals) (slots : List Value) (pc m : ℕ) (d : Course) → Are pc (counted kind.Goto line (begins (length items) (pc + 1) next) ∷ item_nodes t items line (pc + 1) next) → After b process total code (pc + (1 + length items)) next → Within (items_widths items) t.widths → Frame total t locals slots → length slots ≡ total → Remains slots → Alike (by_statements.prints (setting b process total code first entry stamp) items line locals d (λ d. on locals d)) (pass b process total code first entry stamp (acts b process total code first entry stamp n) (suc m) pc (doing slots d))
    print_same items line locals slots pc m d h a w f len p =
        counts _ n m pc _ line (begins (length items) (pc + 1) next) (doing slots d) h.0
        (same_by b process total code first (run_is b process total code first entry stamp n (begins (length items) (pc + 1) next) (doing slots d))
        (prints_same items line locals slots (pc + 1) (by_nodes.between code) d h.1 (after_is (pc + (1 + length items)) (pc + 1 + length items) next (omega arith) a) w f len p (full b process total code first (begins (length items) (pc + 1) next))))
