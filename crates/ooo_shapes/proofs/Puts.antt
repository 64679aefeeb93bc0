-- A value is put into a target.
use Rattle.std.proofs.Common.{◌≡◌, ℕ, ◌+◌, ◌<◌, List, length, Ok, refl, ap, ◌∙◌, arith, get_or}
use Rattle.std.specs.Prelude.{slice_set}
use Rattle.std.proofs.lemmas.List.{length-set, get_or-set_same, get_or-set_other}
use Rattle.ooo_time.specs.declared.stamp.Stamp.{Stamp}
use Rattle.ooo_value.specs.declared.kinds.Kind.{Kind}
use Rattle.ooo_value.specs.declared.kinds.Kind.TheVariants as value_kind
use Rattle.ooo_value.specs.declared.values.Value.{Value}
use Rattle.ooo_value.specs.Operators.{Answer}
use Rattle.ooo_value.specs.Values.{number_of, conversion_of}
use Rattle.ooo_code.specs.declared.activation.Frame.{Frame as NodeFrame}
use Rattle.ooo_code.specs.declared.expression.NodeExpr.{NodeExpr}
use Rattle.ooo_code.specs.declared.expression.NodeExpr.TheVariants as node
use Rattle.ooo_code.specs.declared.node.Node.{Node}
use Rattle.ooo_code.specs.declared.segment.SegmentEntry.{SegmentEntry}
use Rattle.ooo_code.specs.Expressions.{no_value, on_value, cells_of, index_in}
use Rattle.ooo_code.specs.Nodes as by_nodes
use Rattle.ooo_code.specs.Outcomes.{Outcome}
use Rattle.ooo_bound.specs.declared.expr.BoundExpr.{BoundExpr}
use Rattle.ooo_bound.specs.declared.model.Bound.{Bound}
use Rattle.ooo_bound.specs.declared.model.BoundProcess.{BoundProcess}
use Rattle.ooo_bound.specs.declared.stat.BoundTarget.{BoundTarget}
use Rattle.ooo_bound.specs.declared.stat.BoundTarget.TheVariants as target
use Rattle.ooo_activation.specs.Locals.{Locals, with_local}
use Rattle.ooo_activation.specs.Expressions as over_locals
use Rattle.ooo_activation.specs.Activations.{Place, Course, Onward, sight_of, variable_kind, channel_kind}
use Rattle.ooo_activation.specs.Activations as by_statements
use Rattle.ooo_shapes.specs.declared.around.Around.{Around}
use Rattle.ooo_shapes.specs.Widths.{count_of, expr_widths, target_widths}
use Rattle.ooo_shapes.specs.Expressions.{first_base, value_slot, index_slot, slot_of, lowered, kind_in}
use Rattle.ooo_shapes.specs.Simples.{Home, put_kind, put_at_kind, aim_kind}
use Rattle.ooo_shapes.specs.Designs.{home_of}
use Rattle.ooo_shapes.proofs.Frames.{Within, within_local, Frame, Keeps, keeps_set, keeps_first, keeps_frame, frame_set}
use Rattle.ooo_shapes.proofs.Values.{gives, gives_Slot, converted_gives, value_same}
use Rattle.ooo_shapes.proofs.Same.{doing, Same, setting, running, same_result, same_converted, same_index, same_either}

-- ---- the first slots

pub value_below : (k : Kind) → value_slot k < first_base
value_below value_kind.Bool = omega arith
value_below value_kind.Int = omega arith
value_below value_kind.Uint = omega arith
value_below value_kind.Long = omega arith
value_below value_kind.Ulong = omega arith

pub index_below : (k : Kind) → index_slot k < first_base
index_below value_kind.Bool = omega arith
index_below value_kind.Int = omega arith
index_below value_kind.Uint = omega arith
index_below value_kind.Long = omega arith
index_below value_kind.Ulong = omega arith

value_below_5 : (k : Kind) → value_slot k < 5
value_below_5 value_kind.Bool = omega arith
value_below_5 value_kind.Int = omega arith
value_below_5 value_kind.Uint = omega arith
value_below_5 value_kind.Long = omega arith
value_below_5 value_kind.Ulong = omega arith

-- no value has the slot of an index
pub value_index : (k j : Kind) → index_slot k ≡ value_slot j → ⊥
value_index k j e = absurd (omega (arith, e, value_below_5 j))

module _ (b : Bound) (process : BoundProcess) (total : ℕ) (code : List Node) (first : ℕ) (entry : SegmentEntry) (stamp : Stamp) where
  abbrev pub home : Home
  home = home_of b process

  abbrev pub Alike : Outcome Place → Outcome NodeFrame → Type 0
  Alike x y = Same b process total code first x y

  abbrev pub node_acts : by_nodes.Running
  node_acts = running b process total code first entry stamp

  abbrev pub sees : List Value → Course → by_nodes.Doing
  sees slots d = doing slots d

  -- the value of an expression is the same
  pub value_is : (t : Around) (locals : Locals) (slots : List Value) (d : Course) (e : BoundExpr) → Frame total t locals slots → Within (expr_widths e) t.widths → gives (lowered t e) (by_nodes.sight_of (doing slots d)) ≡ over_locals.reading_of e (sight_of locals d)
  value_is t locals slots d e f w = value_same t locals slots d.variables d.seen f.same e w

  -- a slot that was written
  pub slot_is : (n : ℕ) (v : Value) (slots : List Value) (d : Course) → get_or slots n no_value ≡ v → gives (node.Slot n) (by_nodes.sight_of (doing slots d)) ≡ Ok v
  slot_is n v slots d e = gives_Slot n (by_nodes.sight_of (doing slots d)) ∙ ap Ok e

  -- what follows is alike wherever the function's own locals alone have changed
  abbrev pub Goes : (t : Around) (slots : List Value) (go : Onward) (nx : by_nodes.Next) (next : ℕ) → Type 0
  Goes t slots go nx next = (locals' : Locals) (slots' : List Value) (d' : Course) → Frame total t locals' slots' → Keeps total t.base slots slots' → length slots' ≡ total → Alike (go locals' d') (nx next (doing slots' d'))

  -- one of the first slots may be written
  pub frame_first : (t : Around) (x : ℕ) (v : Value) (locals : Locals) (slots : List Value) → x < first_base → Frame total t locals slots → Frame total t locals (slice_set slots x v)
  frame_first t x v locals slots lt f = keeps_frame total t (t.base + count_of t.widths) locals slots (slice_set slots x v) (omega arith) (keeps_first total (t.base + count_of t.widths) x v slots lt) f

  pub goes_first : (t : Around) (x : ℕ) (v : Value) (slots : List Value) (go : Onward) (nx : by_nodes.Next) (next : ℕ) → x < first_base → Goes t slots go nx next → Goes t (slice_set slots x v) go nx next
  goes_first t x v slots go nx next lt g locals' slots' d' f k len = g locals' slots' d' f (λ i low less. k i low less ∙ keeps_first total t.base x v slots lt i low less) len

  -- a value is put into an element, at the index that an expression gives
  pub put_element : (x : ℕ) (i : BoundExpr) (j : NodeExpr) (p : Answer) (e : NodeExpr) (line number next : ℕ) (nx : by_nodes.Next) (go : Onward) (t : Around) (locals : Locals) (slots : List Value) (d : Course) (v : Value) → gives j (by_nodes.sight_of (doing slots d)) ≡ p → Frame total t locals slots → length slots ≡ total → Goes t slots go nx next → Alike (by_statements.with_result p line locals d (λ index. by_statements.assigned (setting b process total code first entry stamp) (target.Element x i) index v line locals d go)) (by_nodes.with_result node_acts line (doing slots d) (gives j (by_nodes.sight_of (doing slots d))) (λ w. let cells = cells_of d.variables x in by_nodes.with_index node_acts line (doing slots d) (index_in (length cells) (number_of w)) (λ k. nx next (by_nodes.with_cells x (slice_set cells k (conversion_of v (variable_kind b x))) (doing slots d)))))
  put_element x i j p e line number next nx go t locals slots d v is f len goes =
      same_result b process total code first entry stamp p _ line locals slots d _ _ is (λ w.
      same_index b process total code first entry stamp (index_in (length (cells_of d.variables x)) (number_of w)) line locals slots d _ _ (λ n.
      goes locals slots (by_statements.with_cells x (slice_set (cells_of d.variables x) n (conversion_of v (variable_kind b x))) d) f (λ i low less. refl) len))

  -- the value that an expression gives is put into a target
  pub put_same : (into : BoundTarget) (e : NodeExpr) (o : Answer) (line number next : ℕ) (nx : by_nodes.Next) (go : Onward) (t : Around) (locals : Locals) (slots : List Value) (d : Course) → gives e (by_nodes.sight_of (doing slots d)) ≡ o → Within (target_widths into) t.widths → Frame total t locals slots → length slots ≡ total → Goes t slots go nx next → Alike (by_statements.with_result o line locals d (λ v. by_statements.assign (setting b process total code first entry stamp) into v line locals d go)) (by_nodes.act node_acts (put_kind home t into e next) number line next nx (doing slots d))
  put_same target.Nothing e o line number next nx go t locals slots d is w f len goes =
      same_result b process total code first entry stamp o _ line locals slots d _ _ is (λ v. same_either b process total code first entry stamp v _ _ (goes locals slots d f (λ i low less. refl) len))
  put_same (target.Local k n) e o line number next nx go t locals slots d is w f len goes =
      same_converted b process total code first entry stamp o _ k line locals slots d _ _ (converted_gives k e _ ∙ ap (λ o. on_value o (λ v. Ok (conversion_of v k))) is) (λ v.
      goes (with_local k n (conversion_of v k) locals) (slice_set slots (slot_of t k n) (conversion_of v k)) d (frame_set total t k n (conversion_of v k) locals slots len (within_local k n t.widths w) f) (keeps_set total t.base (slot_of t k n) (conversion_of v k) slots (omega arith)) (length-set slots (slot_of t k n) (conversion_of v k) ∙ len))
  put_same (target.Variable x) e o line number next nx go t locals slots d is w f len goes =
      let k = variable_kind b x in
      same_converted b process total code first entry stamp o _ k line locals slots d _ _ (converted_gives k e _ ∙ ap (λ o. on_value o (λ v. Ok (conversion_of v k))) is) (λ v.
      goes locals slots (by_statements.with_cells x (slice_set (cells_of d.variables x) 0 (conversion_of v k)) d) f (λ i low less. refl) len)
  put_same (target.Element x i) e o line number next nx go t locals slots d is w f len goes =
      let k = variable_kind b x in
      same_converted b process total code first entry stamp o _ k line locals slots d _ _ (converted_gives k e _ ∙ ap (λ o. on_value o (λ v. Ok (conversion_of v k))) is) (λ v.
      put_element x i (lowered t i) (over_locals.reading_of i (sight_of locals d)) e line number next nx go t locals slots d v (value_is t locals slots d i f w) f len goes)
  put_same (target.Signal c) e o line number next nx go t locals slots d is w f len goes =
      let k = channel_kind b c in
      same_converted b process total code first entry stamp o _ k line locals slots d _ _ (converted_gives k e _ ∙ ap (λ o. on_value o (λ v. Ok (conversion_of v k))) is) (λ v.
      goes locals slots _ f (λ i low less. refl) len)

  -- ---- where the index is evaluated before

  -- the slot of a target's index holds it
  abbrev pub AimHolds : BoundTarget → (index : Value) → List Value → Type 0
  AimHolds (target.Element x i) index slots = get_or slots (index_slot (kind_in b i)) no_value ≡ index
  AimHolds _ index slots = Unit {0}

  -- writing the slot of a value keeps it
  pub aim_keeps : (into : BoundTarget) (index v : Value) (k : Kind) (slots : List Value) → AimHolds into index slots → AimHolds into index (slice_set slots (value_slot k) v)
  aim_keeps (target.Element x i) index v k slots a = get_or-set_other slots (value_slot k) (index_slot (kind_in b i)) v no_value (λ e. value_index (kind_in b i) k e) ∙ a
  aim_keeps target.Nothing index v k slots a = tt
  aim_keeps (target.Local j n) index v k slots a = tt
  aim_keeps (target.Variable x) index v k slots a = tt
  aim_keeps (target.Signal c) index v k slots a = tt

  -- a value is put into a target whose index stands in its slot
  pub put_at_same : (into : BoundTarget) (e : NodeExpr) (index v : Value) (line number next : ℕ) (nx : by_nodes.Next) (go : Onward) (t : Around) (locals : Locals) (slots : List Value) (d : Course) → gives e (by_nodes.sight_of (doing slots d)) ≡ Ok v → AimHolds into index slots → Within (target_widths into) t.widths → Frame total t locals slots → length slots ≡ total → Goes t slots go nx next → Alike (by_statements.assigned (setting b process total code first entry stamp) into index v line locals d go) (by_nodes.act node_acts (put_at_kind home t into e next) number line next nx (doing slots d))
  put_at_same (target.Element x i) e index v line number next nx go t locals slots d is a w f len goes =
      let k = variable_kind b x in
      same_converted b process total code first entry stamp (Ok v) _ k line locals slots d (λ v. by_statements.assigned (setting b process total code first entry stamp) (target.Element x i) index v line locals d go) _ (converted_gives k e _ ∙ ap (λ o. on_value o (λ v. Ok (conversion_of v k))) is) (λ v.
      put_element x i (node.Slot (index_slot (kind_in b i))) (Ok index) e line number next nx go t locals slots d v (slot_is (index_slot (kind_in b i)) index slots d a) f len goes)
  put_at_same target.Nothing e index v line number next nx go t locals slots d is a w f len goes = put_same target.Nothing e (Ok v) line number next nx go t locals slots d is w f len goes
  put_at_same (target.Local k n) e index v line number next nx go t locals slots d is a w f len goes = put_same (target.Local k n) e (Ok v) line number next nx go t locals slots d is w f len goes
  put_at_same (target.Variable x) e index v line number next nx go t locals slots d is a w f len goes = put_same (target.Variable x) e (Ok v) line number next nx go t locals slots d is w f len goes
  put_at_same (target.Signal c) e index v line number next nx go t locals slots d is a w f len goes = put_same (target.Signal c) e (Ok v) line number next nx go t locals slots d is w f len goes

  -- the index is evaluated into its slot
  abbrev pub AimGoes : BoundTarget → (t : Around) (locals : Locals) (slots : List Value) (d : Course) (go : Value → Outcome Place) (nx : by_nodes.Next) (next : ℕ) → Type 0
  AimGoes into t locals slots d go nx next = (index : Value) (slots' : List Value) → AimHolds into index slots' → Frame total t locals slots' → Keeps total t.base slots slots' → length slots' ≡ total → Alike (go index) (nx next (doing slots' d))

  -- the index of a target goes to its slot
  pub aim_same : (into : BoundTarget) (line number next : ℕ) (nx : by_nodes.Next) (go : Value → Outcome Place) (t : Around) (locals : Locals) (slots : List Value) (d : Course) → Within (target_widths into) t.widths → Frame total t locals slots → length slots ≡ total → AimGoes into t locals slots d go nx next → Alike (by_statements.with_aim into line locals d go) (by_nodes.act node_acts (aim_kind home t into) number line next nx (doing slots d))
  aim_same (target.Element x i) line number next nx go t locals slots d w f len goes =
      let n = index_slot (kind_in b i) in
      let below = index_below (kind_in b i) in
      same_result b process total code first entry stamp (over_locals.reading_of i (sight_of locals d)) _ line locals slots d _ _ (value_is t locals slots d i f w) (λ v.
      goes v (slice_set slots n v) (get_or-set_same slots n v no_value (omega (arith, len, below, f.low, f.within))) (frame_first t n v locals slots below f) (keeps_first total t.base n v slots below) (length-set slots n v ∙ len))
  aim_same target.Nothing line number next nx go t locals slots d w f len goes = goes no_value slots tt f (λ i low less. refl) len
  aim_same (target.Local k n) line number next nx go t locals slots d w f len goes = goes no_value slots tt f (λ i low less. refl) len
  aim_same (target.Variable x) line number next nx go t locals slots d w f len goes = goes no_value slots tt f (λ i low less. refl) len
  aim_same (target.Signal c) line number next nx go t locals slots d w f len goes = goes no_value slots tt f (λ i low less. refl) len
