-- The nodes of a statement touch what the statement touches: a test finds it in both or in neither.
use Rattle.std.proofs.Common.{◌≡◌, ℕ, zero, suc, ◌+◌, List, [], ◌∷◌, ◌++◌, length, map, Bool, true, false, Option, Some, None, refl, sym, ap, ap₂, ◌∙◌, subst, append_assoc}
use Rattle.std.specs.Prelude.{slice_get, min, pos, ◌||◌}
use Rattle.std.specs.List.{list_any}
use Rattle.std.proofs.lemmas.List.Folds.{list_any-append}
use Rattle.ooo_value.specs.declared.bound.BoundEvent.{BoundEvent}
use Rattle.ooo_value.specs.declared.kinds.Kind.{Kind}
use Rattle.ooo_value.specs.declared.operators.Op.{Op}
use Rattle.ooo_value.specs.declared.values.Value.TheVariants as value
use Rattle.ooo_value.specs.Values.{value_of}
use Rattle.ooo_code.specs.declared.expression.NodeExpr.{NodeExpr}
use Rattle.ooo_code.specs.declared.expression.NodeExpr.TheVariants as node
use Rattle.ooo_code.specs.declared.node.Node.{Node}
use Rattle.ooo_code.specs.declared.node.NodeKind.{NodeKind}
use Rattle.ooo_code.specs.declared.node.NodeKind.TheVariants as kind
use Rattle.ooo_code.specs.Expressions.{no_value}
use Rattle.ooo_code.specs.Touches as code
use Rattle.ooo_code.specs.Touches.{Touch, Reads, Writes, ReadsSignal, WritesSignal, HoldsReading, HoldsWriting, Notifies, numbers_where, is_of_signal, is_data_written, is_data_read, notified_next, touched_by}
use Rattle.ooo_bound.specs.declared.expr.BoundExpr.{BoundExpr}
use Rattle.ooo_bound.specs.declared.model.BoundFunction.{BoundFunction}
use Rattle.ooo_bound.specs.declared.stat.BoundItem.{BoundItem}
use Rattle.ooo_bound.specs.declared.stat.BoundItem.TheVariants as item
use Rattle.ooo_bound.specs.declared.stat.BoundRight.TheVariants as right
use Rattle.ooo_bound.specs.declared.stat.BoundSimple.{BoundSimple}
use Rattle.ooo_bound.specs.declared.stat.BoundSimple.TheVariants as simple
use Rattle.ooo_bound.specs.declared.stat.BoundStat.{BoundStat, BoundStat-F, ind-BoundStat, map-BoundStat, roll-BoundStat, fold-roll-BoundStat}
use Rattle.ooo_bound.specs.declared.stat.BoundStat.TheOpen as layer
use Rattle.ooo_bound.specs.declared.stat.BoundTarget.{BoundTarget}
use Rattle.ooo_bound.specs.declared.stat.BoundTarget.TheVariants as target
use Rattle.ooo_bound.specs.declared.stat.LinedSimple.{LinedSimple}
use Rattle.ooo_activation.specs.Kinds.{joined, list_of, simples_step, simples_of, simples_in}
use Rattle.ooo_activation.specs.Activations.{variable_kind, channel_kind}
use Rattle.ooo_activation.specs.Touches as text
use Rattle.ooo_shapes.specs.declared.around.Around.{Around}
use Rattle.ooo_shapes.specs.Expressions.{value_slot, index_slot, kind_in, slot_of, lowered, converted, lowered_time, lowered_wait_time}
use Rattle.ooo_shapes.specs.Simples.{Home, counted, uncounted, put_kind, put_at_kind, aim_kind, channel_slot, truth, read_nodes, write_nodes, nb_read_nodes, nb_write_nodes, current_expr, update_nodes, begins, item_kind, item_nodes}
use Rattle.ooo_shapes.specs.Shapes.{Shape, empty, then, all_shapes, zero_nodes, argument_nodes, inside_call, result_expr, leave_kind, call_kinds, call_shape, simple_shape, lined_shape, lined_shapes, if_shape, inside, test_or_true, lead_slots, lead_size, lead_nodes, again_at, loop_shape, do_shape, return_kind, after_shape, shape_step, shape_of, body_shape, callee_by, callees_within}
use Rattle.ooo_shapes.proofs.Places.{SimpleFound, SimplesFound, FunctionFound, CallFound, found_left, found_right}
use Rattle.ooo_shapes.proofs.Reading.{reads, reads_Constant, reads_Slot, reads_Variable, reads_Element, reads_Signal, reads_Binary, converted_reads, reads_same, time_reads_same, wait_reads_same, delay_same, test_reads}

-- ---- alternatives

pub or_false : (a : Bool) → (a || false) ≡ a
or_false true = refl
or_false false = refl

pub or_assoc : (a b c : Bool) → (a || (b || c)) ≡ (a || b || c)
or_assoc true b c = refl
or_assoc false b c = refl

-- a value is put
put_bool : (a b c : Bool) → (a || (b || c)) ≡ (b || (a || c))
put_bool true true c = refl
put_bool true false c = refl
put_bool false b c = refl

or_comm : (a b : Bool) → (a || b) ≡ (b || a)
or_comm true true = refl
or_comm true false = refl
or_comm false true = refl
or_comm false false = refl

call_bool : (a b c : Bool) → (a || (b || (c || false))) ≡ (a || b || c)
call_bool true b c = refl
call_bool false true c = refl
call_bool false false c = or_false c

read_bool : (r n g : Bool) → ((r || false) || ((r || n) || (g || false))) ≡ ((r || n) || g)
read_bool true n g = refl
read_bool false true g = refl
read_bool false false g = or_false g

write_bool : (e w n : Bool) → (e || ((w || false) || ((w || n) || false))) ≡ (e || (w || n))
write_bool true w n = refl
write_bool false true n = refl
write_bool false false n = or_false n

nb_read_bool : (i r n p g : Bool) → (i || ((r || false) || ((r || n) || (p || (g || (g || false)))))) ≡ ((r || n) || (p || i) || g)
nb_read_bool true true n p g = refl
nb_read_bool true false true p g = refl
nb_read_bool true false false true g = refl
nb_read_bool true false false false g = refl
nb_read_bool false true n p g = refl
nb_read_bool false false true p g = refl
nb_read_bool false false false true g = refl
nb_read_bool false false false false true = refl
nb_read_bool false false false false false = refl

nb_write_bool : (e w n g : Bool) → (e || ((w || false) || ((w || n) || (g || (g || false))))) ≡ ((e || (w || n)) || g)
nb_write_bool true w n g = refl
nb_write_bool false true n g = refl
nb_write_bool false false true g = refl
nb_write_bool false false false true = refl
nb_write_bool false false false false = refl

update_bool : (e i w r : Bool) → (e || (i || ((w || (r || false)) || false))) ≡ ((e || (r || false)) || (w || i))
update_bool true i w r = refl
update_bool false true true true = refl
update_bool false true true false = refl
update_bool false true false true = refl
update_bool false true false false = refl
update_bool false false true true = refl
update_bool false false true false = refl
update_bool false false false true = refl
update_bool false false false false = refl

module _ (h : Home) (test : Touch → Bool) where
  abbrev events : List BoundEvent
  events = h.model.events

  abbrev functions : List BoundFunction
  functions = h.model.functions

  -- something is touched that passes the test
  abbrev pub some : List Touch → Bool
  some xs = list_any test xs

  abbrev pub kind_some : NodeKind → Bool
  kind_some k = some (touched_by events k)

  abbrev pub nodes_some : List Node → Bool
  nodes_some is = list_any (λ (i : Node). list_any test (touched_by events i.kind)) is

  abbrev pub both_some : (xs ys : List Touch) → some (xs ++ ys) ≡ (some xs || some ys)
  both_some xs ys = list_any-append test xs ys

  abbrev pub both_nodes : (xs ys : List Node) → nodes_some (xs ++ ys) ≡ (nodes_some xs || nodes_some ys)
  both_nodes xs ys = list_any-append (λ (i : Node). list_any test (touched_by events i.kind)) xs ys

  -- ---- a value is put into a target

  abbrev into_some : BoundTarget → Bool
  into_some into = some (text.target_touches events into)

  -- what is read, and what the target's touches are
  put_some : (t : Around) (into : BoundTarget) (v : NodeExpr) (next : ℕ) → kind_some (put_kind h t into v next) ≡ (some (reads v) || into_some into)
  put_some t target.Nothing v next = sym (or_false (some (reads v)))
  put_some t (target.Local k n) v next = ap some (converted_reads k v) ∙ sym (or_false (some (reads v)))
  put_some t (target.Variable x) v next =
      ap (λ c. test (Writes x) || c) (both_some (reads (converted (variable_kind h.model x) v)) [] ∙ ap (λ xs. some xs || false) (converted_reads (variable_kind h.model x) v))
      ∙ put_bool (test (Writes x)) (some (reads v)) false
  put_some t (target.Element x i) v next =
      ap (λ c. test (Writes x) || c) (both_some (reads (converted (variable_kind h.model x) v)) (reads (lowered t i)) ∙ ap₂ (λ xs ys. some xs || some ys) (converted_reads (variable_kind h.model x) v) (reads_same t i))
      ∙ put_bool (test (Writes x)) (some (reads v)) (some (text.reads_of i))
  put_some t (target.Signal c) v next =
      let notified = notified_next (numbers_where (is_of_signal c) 0 events) in
      ap (λ z. test (WritesSignal c) || z) (both_some (reads (converted (channel_kind h.model c) v)) notified ∙ ap (λ xs. some xs || some notified) (converted_reads (channel_kind h.model c) v))
      ∙ put_bool (test (WritesSignal c)) (some (reads v)) (some notified)

  -- the same of a value that reads nothing
  put_none : (t : Around) (into : BoundTarget) (v : NodeExpr) (next : ℕ) → reads v ≡ [] → kind_some (put_kind h t into v next) ≡ into_some into
  put_none t into v next e = put_some t into v next ∙ ap (λ xs. some xs || into_some into) e

  -- a target's index is evaluated first
  abbrev aim_part : BoundTarget → Bool
  aim_part (target.Element x i) = some (text.reads_of i)
  aim_part _ = false

  abbrev at_part : BoundTarget → Bool
  at_part (target.Element x i) = test (Writes x)
  at_part into = into_some into

  aim_some : (t : Around) (into : BoundTarget) → kind_some (aim_kind h t into) ≡ aim_part into
  aim_some t target.Nothing = refl
  aim_some t (target.Local k n) = refl
  aim_some t (target.Variable x) = refl
  aim_some t (target.Element x i) = ap some (reads_same t i)
  aim_some t (target.Signal c) = refl

  at_some : (t : Around) (into : BoundTarget) (v : NodeExpr) (next : ℕ) → reads v ≡ [] → kind_some (put_at_kind h t into v next) ≡ at_part into
  at_some t target.Nothing v next e = put_none t target.Nothing v next e
  at_some t (target.Local k n) v next e = put_none t (target.Local k n) v next e
  at_some t (target.Variable x) v next e = put_none t (target.Variable x) v next e
  at_some t (target.Element x i) v next e =
      let k = variable_kind h.model x in
      let slot = node.Slot (index_slot (kind_in h.model i)) in
      ap (λ c. test (Writes x) || c) (both_some (reads (converted k v)) (reads slot) ∙ ap₂ (λ xs ys. some xs || some ys) (converted_reads k v ∙ e) (reads_Slot (index_slot (kind_in h.model i))))
      ∙ or_false (test (Writes x))
  at_some t (target.Signal c) v next e = put_none t (target.Signal c) v next e

  parts_some : (into : BoundTarget) → (at_part into || aim_part into) ≡ into_some into
  parts_some target.Nothing = refl
  parts_some (target.Local k n) = refl
  parts_some (target.Variable x) = or_false (into_some (target.Variable x))
  parts_some (target.Element x i) = refl
  parts_some (target.Signal c) = or_false (into_some (target.Signal c))

  -- ---- statements of fifos

  slot_none : (c : ℕ) → some (reads (node.Slot (channel_slot h c))) ≡ false
  slot_none c = ap some (reads_Slot (channel_slot h c))

  abbrev written : ℕ → Bool
  written c = some (notified_next (numbers_where (is_data_written c) 0 events))

  -- a put of a slot
  pub put_slot : (c : ℕ) → kind_some (kind.Put c (node.Slot (channel_slot h c))) ≡ (test (HoldsWriting c) || written c)
  put_slot c =
      ap (λ x. test (HoldsWriting c) || x) (both_some (reads (node.Slot (channel_slot h c))) (notified_next (numbers_where (is_data_written c) 0 events)) ∙ ap (λ x. x || written c) (slot_none c))

  read_some : (t : Around) (into : BoundTarget) (c line at next : ℕ) → nodes_some (read_nodes h t into c line at next) ≡ some (text.take_touches events c ++ text.target_touches events into)
  read_some t into c line at next =
      let n = some (notified_next (numbers_where (is_data_read c) 0 events)) in
      ap (λ g. (test (HoldsReading c) || false) || ((test (HoldsReading c) || n) || (g || false))) (put_none t into (node.Slot (channel_slot h c)) next (reads_Slot (channel_slot h c)))
      ∙ read_bool (test (HoldsReading c)) n (into_some into)
      ∙ sym (both_some (text.take_touches events c) (text.target_touches events into))

  pub set_some : (t : Around) (c : ℕ) (e : BoundExpr) → some (reads (converted (channel_kind h.model c) (lowered t e))) ≡ some (text.reads_of e)
  set_some t c e = ap some (converted_reads (channel_kind h.model c) (lowered t e) ∙ reads_same t e)

  write_some : (t : Around) (c : ℕ) (e : BoundExpr) (line at next : ℕ) → nodes_some (write_nodes h t c e line at next) ≡ some (text.reads_of e ++ text.put_touches events c)
  write_some t c e line at next =
      let w = test (HoldsWriting c) in
      ap₂ (λ x y. x || ((w || false) || (y || false))) (set_some t c e) (put_slot c)
      ∙ write_bool (some (text.reads_of e)) w (written c)
      ∙ sym (both_some (text.reads_of e) (text.put_touches events c))

  nb_read_some : (t : Around) (result : BoundTarget) (c : ℕ) (into : BoundTarget) (line at next : ℕ) → nodes_some (nb_read_nodes h t result c into line at next) ≡ some ((text.take_touches events c ++ text.target_touches events into) ++ text.target_touches events result)
  nb_read_some t result c into line at next =
      let r = test (HoldsReading c) in
      let n = some (notified_next (numbers_where (is_data_read c) 0 events)) in
      let first = kind_some (put_kind h t result (truth true) next) in
      let second = kind_some (put_kind h t result (truth false) next) in
      let g = into_some result in
      ap₂ (λ i p. i || ((r || false) || ((r || n) || (p || (first || (second || false)))))) (aim_some t into) (at_some t into (node.Slot (channel_slot h c)) (at + 4) (reads_Slot (channel_slot h c)))
      ∙ ap₂ (λ x y. aim_part into || ((r || false) || ((r || n) || (at_part into || (x || (y || false)))))) (put_none t result (truth true) next (reads_Constant (value.Bool true))) (put_none t result (truth false) next (reads_Constant (value.Bool false)))
      ∙ nb_read_bool (aim_part into) r n (at_part into) g
      ∙ ap (λ x. (r || n) || x || g) (parts_some into)
      ∙ ap (λ x. x || g) (sym (both_some (text.take_touches events c) (text.target_touches events into)))
      ∙ sym (both_some (text.take_touches events c ++ text.target_touches events into) (text.target_touches events result))

  nb_write_some : (t : Around) (result : BoundTarget) (c : ℕ) (e : BoundExpr) (line at next : ℕ) → nodes_some (nb_write_nodes h t result c e line at next) ≡ some ((text.reads_of e ++ text.put_touches events c) ++ text.target_touches events result)
  nb_write_some t result c e line at next =
      let w = test (HoldsWriting c) in
      let first = kind_some (put_kind h t result (truth true) next) in
      let second = kind_some (put_kind h t result (truth false) next) in
      let g = into_some result in
      ap₂ (λ x y. x || ((w || false) || (y || (first || (second || false))))) (set_some t c e) (put_slot c)
      ∙ ap₂ (λ x y. some (text.reads_of e) || ((w || false) || ((w || written c) || (x || (y || false))))) (put_none t result (truth true) next (reads_Constant (value.Bool true))) (put_none t result (truth false) next (reads_Constant (value.Bool false)))
      ∙ nb_write_bool (some (text.reads_of e)) w (written c) g
      ∙ ap (λ x. x || g) (sym (both_some (text.reads_of e) (text.put_touches events c)))
      ∙ sym (both_some (text.reads_of e ++ text.put_touches events c) (text.target_touches events result))

  -- ---- `a op= b`

  abbrev update_touches : BoundTarget → BoundExpr → List Touch
  update_touches into e = text.reads_of e ++ text.target_reads into ++ text.target_touches events into

  update_plain : (t : Around) (into : BoundTarget) (o : Op) (e : BoundExpr) (next : ℕ) → reads (current_expr t into) ≡ text.target_reads into → (kind_some (put_kind h t into (node.Binary o (current_expr t into) (lowered t e)) next) || false) ≡ some (update_touches into e)
  update_plain t into o e next same =
      let c = some (text.target_reads into) in
      let v = some (text.reads_of e) in
      or_false (kind_some (put_kind h t into (node.Binary o (current_expr t into) (lowered t e)) next))
      ∙ put_some t into (node.Binary o (current_expr t into) (lowered t e)) next
      ∙ ap (λ xs. some xs || into_some into) (reads_Binary o (current_expr t into) (lowered t e) ∙ ap₂ (λ xs ys. xs ++ ys) same (reads_same t e))
      ∙ ap (λ x. x || into_some into) (both_some (text.target_reads into) (text.reads_of e) ∙ or_comm c v ∙ sym (both_some (text.reads_of e) (text.target_reads into)))
      ∙ sym (both_some (text.reads_of e ++ text.target_reads into) (text.target_touches events into))

  update_element : (t : Around) (x : ℕ) (i : BoundExpr) (o : Op) (e : BoundExpr) (line at next : ℕ) → nodes_some (update_nodes h t (target.Element x i) o e line at next) ≡ some (update_touches (target.Element x i) e)
  update_element t x i o e line at next =
      let k = variable_kind h.model x in
      let index = index_slot (kind_in h.model i) in
      let held = value_slot (kind_in h.model e) in
      let value = node.Binary o (node.Element x (node.Slot index)) (node.Slot held) in
      let value_reads : reads (converted k value) ≡ Reads x ∷ [] =
      converted_reads k value
      ∙ reads_Binary o (node.Element x (node.Slot index)) (node.Slot held)
      ∙ ap₂ (λ xs ys. xs ++ ys) (reads_Element x (node.Slot index) ∙ ap (λ xs. Reads x ∷ xs) (reads_Slot index)) (reads_Slot held) in
      let stored : some (reads (converted k value) ++ reads (node.Slot index)) ≡ (test (Reads x) || false) =
      ap₂ (λ xs ys. some (xs ++ ys)) value_reads (reads_Slot index) in
      ap₂ (λ a b. some a || (some b || ((test (Writes x) || some (reads (converted k value) ++ reads (node.Slot index))) || false))) (reads_same t e) (reads_same t i)
      ∙ ap (λ c. some (text.reads_of e) || (some (text.reads_of i) || ((test (Writes x) || c) || false))) stored
      ∙ update_bool (some (text.reads_of e)) (some (text.reads_of i)) (test (Writes x)) (test (Reads x))
      ∙ ap (λ c. c || (test (Writes x) || some (text.reads_of i))) (sym (both_some (text.reads_of e) (Reads x ∷ [])))
      ∙ sym (both_some (text.reads_of e ++ Reads x ∷ []) (Writes x ∷ text.reads_of i))

  update_some : (t : Around) (into : BoundTarget) (o : Op) (e : BoundExpr) (line at next : ℕ) → nodes_some (update_nodes h t into o e line at next) ≡ some (update_touches into e)
  update_some t target.Nothing o e line at next = update_plain t target.Nothing o e next (reads_Constant no_value)
  update_some t (target.Local k n) o e line at next = update_plain t (target.Local k n) o e next (reads_Slot (slot_of t k n))
  update_some t (target.Variable x) o e line at next = update_plain t (target.Variable x) o e next (reads_Variable x)
  update_some t (target.Element x i) o e line at next = update_element t x i o e line at next
  update_some t (target.Signal c) o e line at next = update_plain t (target.Signal c) o e next (reads_Signal c)

  -- ---- printing

  item_some : (t : Around) (x : BoundItem) → kind_some (item_kind t x) ≡ some (text.item_reads x)
  item_some t (item.Value e) = ap some (reads_same t e)
  item_some t (item.Text words) = refl
  item_some t item.Time = refl

  items_some : (t : Around) (xs : List BoundItem) (line at next : ℕ) → nodes_some (item_nodes t xs line at next) ≡ some (text.items_read xs)
  items_some t [] line at next = refl
  items_some t (x ∷ xs) line at next = ap₂ (λ a b. a || b) (item_some t x) (items_some t xs line (at + 1) next) ∙ sym (both_some (text.item_reads x) (text.items_read xs))

  -- ---- calls

  pub zeros_some : (line slot : ℕ) (ks : List Kind) (at : ℕ) → nodes_some (zero_nodes line slot ks at) ≡ false
  zeros_some line slot [] at = refl
  zeros_some line slot (k ∷ ks) at = ap₂ (λ xs b. some xs || b) (reads_Constant (value_of k (pos 0))) (zeros_some line (slot + 1) ks (at + 1))

  pub arguments_some : (t u : Around) (line n : ℕ) (ks : List Kind) (es : List BoundExpr) (at : ℕ) → nodes_some (argument_nodes t u line n ks es at) ≡ some (text.arguments_read ks es)
  arguments_some t u line n [] [] at = refl
  arguments_some t u line n [] (e ∷ es) at = refl
  arguments_some t u line n (k ∷ ks) [] at = refl
  arguments_some t u line n (k ∷ ks) (e ∷ es) at =
      ap₂ (λ xs b. some xs || b) (converted_reads k (lowered t e) ∙ reads_same t e) (arguments_some t u line (n + 1) ks es (at + 1))
      ∙ sym (both_some (text.reads_of e) (text.arguments_read ks es))

  result_reads : (k : Option Kind) (free : ℕ) → reads (result_expr k free) ≡ []
  result_reads None free = reads_Constant no_value
  result_reads (Some k) free = reads_Slot free

  pub leave_some : (t : Around) (into : BoundTarget) (k : Option Kind) (free next : ℕ) → kind_some (leave_kind h t into k free next) ≡ into_some into
  leave_some t target.Nothing k free next = refl
  leave_some t (target.Local j n) k free next = put_none t (target.Local j n) (result_expr k free) next (result_reads k free)
  leave_some t (target.Variable x) k free next = put_none t (target.Variable x) (result_expr k free) next (result_reads k free)
  leave_some t (target.Element x i) k free next = put_none t (target.Element x i) (result_expr k free) next (result_reads k free)
  leave_some t (target.Signal c) k free next = put_none t (target.Signal c) (result_expr k free) next (result_reads k free)

  -- ---- returns

  returned_some : (t : Around) (e : BoundExpr) (o : Option Kind) → kind_some (elim o [ None ↦ kind.Test (lowered t e) t.return_to | Some k ↦ kind.Set t.result_slot (converted k (lowered t e)) ]) ≡ some (text.reads_of e)
  returned_some t e None = ap some (reads_same t e)
  returned_some t e (Some k) = ap some (converted_reads k (lowered t e) ∙ reads_same t e)

  pub return_some : (t : Around) (e : Option BoundExpr) → kind_some (return_kind t e) ≡ some (text.option_reads e)
  return_some t None = refl
  return_some t (Some e) = returned_some t e t.result

  -- ---- statements in what is laid out

  -- wherever a shape is laid out, its nodes touch so
  abbrev pub Gives : Shape → Bool → Type 0
  Gives x a = (t : Around) (free at next : ℕ) → nodes_some (x.nodes t free at next) ≡ a

  then_gives : (x y : Shape) (xs ys : List Touch) → Gives x (some xs) → Gives y (some ys) → Gives ((then) x y) (some (xs ++ ys))
  then_gives x y xs ys gx gy t free at next =
      both_nodes (x.nodes t free at (begins y.size (at + x.size) next)) (y.nodes t (free + length x.slots) (at + x.size) next)
      ∙ ap₂ (λ a b. a || b) (gx t free at (begins y.size (at + x.size) next)) (gy t (free + length x.slots) (at + x.size) next)
      ∙ sym (both_some xs ys)

  abbrev pub called : ℕ → text.Callees
  called depth = text.callees_within depth events functions

  -- a call of a function whose body touches so
  call_gives : (line : ℕ) (into : BoundTarget) (args : List BoundExpr) (f : BoundFunction) (body : Shape) (touched : List Touch) → Gives body (some touched) → Gives (call_shape h line into args (Some (record { function = f; body = body }))) (some (text.call_touches (Some (record { function = f; touched = touched })) args ++ text.target_touches events into))
  call_gives line into args f body touched g t free at next =
      let zeros = length (call_kinds f) in
      let given = min (length f.params) (length args) in
      let body_at = at + 1 + zeros + given in
      let leave = body_at + body.size in
      let u = inside_call f free leave in
      let first = zero_nodes line free (call_kinds f) (at + 1) in
      let second = argument_nodes t u line 0 f.params args (at + 1 + zeros) in
      let third = body.nodes u (free + zeros) body_at leave in
      let last = uncounted (leave_kind h t into f.result free next) line next ∷ [] in
      let a = some (text.arguments_read f.params args) in
      both_nodes first (second ++ (third ++ last))
      ∙ ap₂ (λ x y. x || y) (zeros_some line free (call_kinds f) (at + 1)) (both_nodes second (third ++ last))
      ∙ ap₂ (λ x y. x || y) (arguments_some t u line 0 f.params args (at + 1 + zeros)) (both_nodes third last)
      ∙ ap₂ (λ x y. a || (x || (y || false))) (g u (free + zeros) body_at leave) (leave_some t into f.result free next)
      ∙ call_bool a (some touched) (into_some into)
      ∙ ap (λ x. x || into_some into) (sym (both_some (text.arguments_read f.params args) touched))
      ∙ sym (both_some (text.arguments_read f.params args ++ touched) (text.target_touches events into))

  -- what a call at a depth touches
  abbrev pub CallGives : ℕ → Type 0
  CallGives depth = (line : ℕ) (into : BoundTarget) (args : List BoundExpr) (g : ℕ) → CallFound functions depth g → Gives (call_shape h line into args (callees_within depth h g)) (some (text.call_touches (called depth g) args ++ text.target_touches events into))

  module _ (depth : ℕ) (calls : CallGives depth) where
    abbrev Found : List LinedSimple → Type 0
    Found ss = SimplesFound (CallFound functions depth) ss

    pub simple_gives : (line : ℕ) (x : BoundSimple) → SimpleFound (CallFound functions depth) x → Gives (simple_shape h (callees_within depth h) line x) (some (text.simple_touches events (called depth) x))
    simple_gives line (simple.Assign into (right.Value e)) f t free at next =
        or_false (kind_some (put_kind h t into (lowered t e) next))
        ∙ put_some t into (lowered t e) next
        ∙ ap (λ xs. some xs || into_some into) (reads_same t e)
        ∙ sym (both_some (text.reads_of e) (text.target_touches events into))
    simple_gives line (simple.Assign into (right.Call g args)) f t free at next = calls line into args g f t free at next
    simple_gives line (simple.Assign into (right.Read c)) f t free at next = read_some t into c line at next
    simple_gives line (simple.Assign into (right.NbRead c x)) f t free at next = nb_read_some t into c x line at next
    simple_gives line (simple.Assign into (right.NbWrite c e)) f t free at next = nb_write_some t into c e line at next
    simple_gives line (simple.Update into o e) f t free at next = update_some t into o e line at next
    simple_gives line (simple.Write c e) f t free at next = write_some t c e line at next
    simple_gives line (simple.Notify e k) f t free at next =
        or_false (kind_some (kind.Notify e (lowered_time t k)))
        ∙ ap₂ (λ d xs. test (Notifies e d) || some xs) (delay_same t k) (time_reads_same t k)
    simple_gives line (simple.Cancel e) f t free at next = or_false (kind_some (kind.Cancel e))
    simple_gives line (simple.Wait w) f t free at next = or_false (some (code.wait_reads (lowered_wait_time t w.time))) ∙ ap some (wait_reads_same t w.time)
    simple_gives line (simple.NextTrigger w) f t free at next = or_false (some (code.wait_reads (lowered_wait_time t w.time))) ∙ ap some (wait_reads_same t w.time)
    simple_gives line simple.Stop f t free at next = refl
    simple_gives line (simple.Print items) f t free at next = items_some t items line (at + 1) next

    simples_give : (xs : List LinedSimple) → Found xs → Gives (lined_shapes h (callees_within depth h) xs) (some (text.simples_touch events (called depth) xs))
    simples_give [] f = λ t free at next. refl
    simples_give (x ∷ xs) f =
        then_gives (lined_shape h (callees_within depth h) x) (lined_shapes h (callees_within depth h) xs) (text.simple_touches events (called depth) x.simple) (text.simples_touch events (called depth) xs)
        (simple_gives x.line x.simple f.0) (simples_give xs f.1)

    lead_gives : (after : Option LinedSimple) (t : Around) (line free at : ℕ) → Found (list_of after) → nodes_some (lead_nodes (after_shape h (callees_within depth h) after) t line free at) ≡ some (text.after_touches events (called depth) after)
    lead_gives None t line free at f = refl
    lead_gives (Some x) t line free at f = simple_gives x.line x.simple f.0 t free (at + 1) (at + 1 + (lined_shape h (callees_within depth h) x).size)

    -- ---- statements

    abbrev shape : BoundStat → Shape
    shape s = shape_of h (callees_within depth h) s

    abbrev touches : BoundStat → List Touch
    touches s = text.touches_of events (called depth) s

    abbrev P : BoundStat → Type 0
    P s = Found (simples_of s) → Gives (shape s) (some (touches s))

    shape_at : (x : BoundStat-F BoundStat) → shape (roll-BoundStat x) ≡ shape_step h (callees_within depth h) (map-BoundStat BoundStat Shape shape x)
    unfolding shape_of
    shape_at x = fold-roll-BoundStat Shape (shape_step h (callees_within depth h)) x

    touches_at : (x : BoundStat-F BoundStat) → touches (roll-BoundStat x) ≡ text.touches_step events (called depth) (map-BoundStat BoundStat (List Touch) touches x)
    unfolding text.touches_of
    touches_at x = fold-roll-BoundStat (List Touch) (text.touches_step events (called depth)) x

    simples_at : (x : BoundStat-F BoundStat) → simples_of (roll-BoundStat x) ≡ simples_step (map-BoundStat BoundStat (List LinedSimple) simples_of x)
    unfolding simples_of
    simples_at x = fold-roll-BoundStat (List LinedSimple) simples_step x

    by_layer : (x : BoundStat-F BoundStat) → (Found (simples_step (map-BoundStat BoundStat (List LinedSimple) simples_of x)) → Gives (shape_step h (callees_within depth h) (map-BoundStat BoundStat Shape shape x)) (some (text.touches_step events (called depth) (map-BoundStat BoundStat (List Touch) touches x)))) → P (roll-BoundStat x)
    by_layer x g f =
        subst (λ y. Gives y (some (touches (roll-BoundStat x)))) (sym (shape_at x))
        (subst (λ ts. Gives (shape_step h (callees_within depth h) (map-BoundStat BoundStat Shape shape x)) (some ts)) (sym (touches_at x)) (g (subst Found (simples_at x) f)))

    abbrev Shown : Type 0
    Shown = (s : BoundStat) × P s

    abbrev stat_in : Shown → BoundStat
    stat_in p = p.0

    -- the parts of a block
    all_give : (ys : List Shown) → Found (joined (map simples_of (map stat_in ys))) → Gives (all_shapes (map shape (map stat_in ys))) (some (text.all_touch (map touches (map stat_in ys))))
    all_give [] f = λ t free at next. refl
    all_give (y ∷ ys) f =
        let Q = CallFound functions depth in
        then_gives (shape y.0) (all_shapes (map shape (map stat_in ys))) (touches y.0) (text.all_touch (map touches (map stat_in ys)))
        (y.1 (found_left Q (simples_of y.0) (joined (map simples_of (map stat_in ys))) f)) (all_give ys (found_right Q (simples_of y.0) (joined (map simples_of (map stat_in ys))) f))

    -- an `if`
    if_gives : (line : ℕ) (e : BoundExpr) (x y : Shape) (xs ys : List Touch) → Gives x (some xs) → Gives y (some ys) → Gives (if_shape line e x y) (some (text.reads_of e ++ xs ++ ys))
    if_gives line e x y xs ys gx gy t free at next =
        let front = x.nodes t free (at + 1) next in
        let back = y.nodes t (free + length x.slots) (at + 1 + x.size) next in
        ap₂ (λ r b. some r || b) (reads_same t e) (both_nodes front back ∙ ap₂ (λ a b. a || b) (gx t free (at + 1) next) (gy t (free + length x.slots) (at + 1 + x.size) next))
        ∙ or_assoc (some (text.reads_of e)) (some xs) (some ys)
        ∙ ap (λ a. a || some ys) (sym (both_some (text.reads_of e) xs))
        ∙ sym (both_some (text.reads_of e ++ xs) ys)

    -- a loop that begins with its test
    loop_gives : (line : ℕ) (e : Option BoundExpr) (after : Option LinedSimple) (body : Shape) (xs : List Touch) → Found (list_of after) → Gives body (some xs) → Gives (loop_shape line (test_or_true e) (after_shape h (callees_within depth h) after) body) (some (text.after_touches events (called depth) after ++ (text.option_reads e ++ xs)))
    loop_gives line e after body xs f g t free at next =
        let s = after_shape h (callees_within depth h) after in
        let test_at = at + lead_size s in
        let again = again_at s at in
        let front = lead_nodes s t line free at in
        let back = body.nodes (inside t next again) (free + length (lead_slots s)) (test_at + 1) again in
        let node = counted (kind.Test (lowered t (test_or_true e)) next) line (begins body.size (test_at + 1) again) in
        both_nodes front (node ∷ back)
        ∙ ap₂ (λ a b. a || b) (lead_gives after t line free at f) (ap₂ (λ r b. some r || b) (test_reads t e) (g (inside t next again) (free + length (lead_slots s)) (test_at + 1) again) ∙ sym (both_some (text.option_reads e) xs))
        ∙ sym (both_some (text.after_touches events (called depth) after) (text.option_reads e ++ xs))

    -- a loop that begins with its body
    do_gives : (line : ℕ) (e : BoundExpr) (body : Shape) (xs : List Touch) → Gives body (some xs) → Gives (do_shape line e body) (some (xs ++ text.reads_of e))
    do_gives line e body xs g t free at next =
        let test_at = at + body.size in
        let front = body.nodes (inside t next test_at) free at test_at in
        let node = counted (kind.Test (lowered t e) next) line at in
        both_nodes front (node ∷ [])
        ∙ ap₂ (λ a r. a || (some r || false)) (g (inside t next test_at) free at test_at) (reads_same t e)
        ∙ ap (λ b. some xs || b) (or_false (some (text.reads_of e)))
        ∙ sym (both_some xs (text.reads_of e))

    choice_gives : (line : ℕ) (e : BoundExpr) (x : Shown) (y : Option Shown) → P (roll-BoundStat (map-BoundStat Shown BoundStat stat_in (layer.If line e x y)))
    choice_gives line e x None =
        by_layer (layer.If line e x.0 None) (λ f. if_gives line e (shape x.0) empty (touches x.0) [] (x.1 (found_left (CallFound functions depth) (simples_of x.0) [] f)) (λ t free at next. refl))
    choice_gives line e x (Some y) =
        by_layer (layer.If line e x.0 (Some y.0)) (λ f. if_gives line e (shape x.0) (shape y.0) (touches x.0) (touches y.0) (x.1 (found_left (CallFound functions depth) (simples_of x.0) (simples_of y.0) f)) (y.1 (found_right (CallFound functions depth) (simples_of x.0) (simples_of y.0) f)))

    for_gives : (line : ℕ) (begin : List LinedSimple) (e : Option BoundExpr) (after : Option LinedSimple) (x : Shown) → P (roll-BoundStat (map-BoundStat Shown BoundStat stat_in (layer.For line begin e after x)))
    for_gives line begin e after x =
        by_layer (layer.For line begin e after x.0) (λ f.
        let Q = CallFound functions depth in
        let front = found_left Q (begin ++ list_of after) (simples_of x.0) f in
        let b = text.simples_touch events (called depth) begin in
        let a = text.after_touches events (called depth) after in
        let o = text.option_reads e in
        let joined : b ++ (a ++ (o ++ touches x.0)) ≡ b ++ a ++ o ++ touches x.0 = sym (simp append_assoc) in
        subst (λ ts. Gives ((then) (lined_shapes h (callees_within depth h) begin) (loop_shape line (test_or_true e) (after_shape h (callees_within depth h) after) (shape x.0))) (some ts)) joined
        (then_gives (lined_shapes h (callees_within depth h) begin) (loop_shape line (test_or_true e) (after_shape h (callees_within depth h) after) (shape x.0)) b (a ++ (o ++ touches x.0)) (simples_give begin (found_left Q begin (list_of after) front))
        (loop_gives line e after (shape x.0) (touches x.0) (found_right Q begin (list_of after) front) (x.1 (found_right Q (begin ++ list_of after) (simples_of x.0) f)))))

    layer_gives : (y : BoundStat-F Shown) → P (roll-BoundStat (map-BoundStat Shown BoundStat stat_in y))
    layer_gives (layer.Block parts) = by_layer (layer.Block (map stat_in parts)) (all_give parts)
    layer_gives (layer.Simple x) = by_layer (layer.Simple x) (λ f. simple_gives x.line x.simple f.0)
    layer_gives (layer.If line e x y) = choice_gives line e x y
    layer_gives (layer.While line e x) = by_layer (layer.While line e x.0) (λ f. loop_gives line (Some e) None (shape x.0) (touches x.0) tt (x.1 f))
    layer_gives (layer.Do line x e) = by_layer (layer.Do line x.0 e) (λ f. do_gives line e (shape x.0) (touches x.0) (x.1 f))
    layer_gives (layer.For line begin e after x) = for_gives line begin e after x
    layer_gives (layer.Break line) = by_layer (layer.Break line) (λ f t free at next. refl)
    layer_gives (layer.Continue line) = by_layer (layer.Continue line) (λ f t free at next. refl)
    layer_gives (layer.Return line e) = by_layer (layer.Return line e) (λ f t free at next. or_false (kind_some (return_kind t e)) ∙ return_some t e)

    stat_gives : (s : BoundStat) → P s
    stat_gives = ind-BoundStat P (λ x y e. subst (λ x. P (roll-BoundStat x)) e (layer_gives y))

    body_gives : (ss : List BoundStat) → Found (simples_in ss) → Gives (body_shape h (callees_within depth h) ss) (some (text.body_touches events (called depth) ss))
    body_gives [] f = λ t free at next. refl
    body_gives (s ∷ ss) f =
        then_gives (shape s) (body_shape h (callees_within depth h) ss) (touches s) (text.body_touches events (called depth) ss)
        (stat_gives s (found_left (CallFound functions depth) (simples_of s) (simples_in ss) f)) (body_gives ss (found_right (CallFound functions depth) (simples_of s) (simples_in ss) f))

  -- a call of a function that is looked up
  call_found : (k : ℕ) → CallGives k → (line : ℕ) (into : BoundTarget) (args : List BoundExpr) (o : Option BoundFunction) → FunctionFound (CallFound functions k) o → Gives (call_shape h line into args (callee_by (body_shape h (callees_within k h)) o)) (some (text.call_touches (text.called_by (text.body_touches events (called k)) o) args ++ text.target_touches events into))
  call_found k calls line into args None f t free at next = absurd f
  call_found k calls line into args (Some g) f t free at next =
      call_gives line into args g (body_shape h (callees_within k h) g.body) (text.body_touches events (called k) g.body) (body_gives k calls g.body f) t free at next

  pub calls_give : (depth : ℕ) → CallGives depth
  calls_give zero line into args g f t free at next = absurd f
  calls_give (suc k) line into args g f t free at next = call_found k (calls_give k) line into args (slice_get functions g) f t free at next

  -- the nodes of a body touch what its statements touch
  pub touch_alike : (depth : ℕ) (ss : List BoundStat) → SimplesFound (CallFound functions depth) (simples_in ss) → Gives (body_shape h (callees_within depth h) ss) (some (text.body_touches events (called depth) ss))
  touch_alike depth ss f = body_gives depth (calls_give depth) ss f
