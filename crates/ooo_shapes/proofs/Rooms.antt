-- The nodes of statements without statements in them are sound where they are laid.
use Rattle.std.proofs.Common.{◌≡◌, ℕ, ◌+◌, ◌<◌, ◌≤◌, inl, List, [], ◌∷◌, length, Bool, true, false, Option, Some, refl, sym, ap, ◌∙◌, subst, arith}
use Rattle.std.specs.Prelude.{slice_get, IsSome}
use Rattle.std.specs.List.{AllByRecursion}
use Rattle.ooo_value.specs.declared.bound.ProcessKind.TheVariants.{Method}
use Rattle.ooo_value.specs.declared.kinds.Kind.{Kind}
use Rattle.ooo_value.specs.declared.operators.Op.{Op}
use Rattle.ooo_code.specs.declared.expression.NodeExpr.{NodeExpr}
use Rattle.ooo_code.specs.declared.expression.NodeExpr.TheVariants as node
use Rattle.ooo_code.specs.declared.node.Node.{Node}
use Rattle.ooo_code.specs.declared.node.NodeKind.{NodeKind}
use Rattle.ooo_code.specs.declared.node.NodeKind.TheVariants as kind
use Rattle.ooo_code.specs.Sound.{fifo_kind, MayBegin}
use Rattle.ooo_code.specs.Touches.{is_data_written, is_data_read}
use Rattle.ooo_bound.specs.declared.expr.BoundExpr.{BoundExpr}
use Rattle.ooo_bound.specs.declared.model.Bound.{Bound}
use Rattle.ooo_bound.specs.declared.model.BoundProcess.{BoundProcess}
use Rattle.ooo_bound.specs.declared.stat.BoundItem.{BoundItem}
use Rattle.ooo_bound.specs.declared.stat.BoundItem.TheVariants as item
use Rattle.ooo_bound.specs.declared.stat.BoundTarget.{BoundTarget}
use Rattle.ooo_bound.specs.declared.stat.BoundTarget.TheVariants as target
use Rattle.ooo_activation.specs.Activations.{channel_kind}
use Rattle.ooo_activation.specs.Sound.{FitsExpr, FitsTarget, FitsItem}
use Rattle.ooo_shapes.specs.declared.around.Around.{Around}
use Rattle.ooo_shapes.specs.Widths.{expr_widths, target_widths, items_widths, item_widths, kinds_of}
use Rattle.ooo_shapes.specs.Expressions.{value_slot, index_slot, first_kinds, lowered, converted, kind_in}
use Rattle.ooo_shapes.specs.Simples.{Home, put_kind, put_at_kind, aim_kind, current_expr, channel_slot, truth, begins, item_kind, item_nodes, read_nodes, write_nodes, nb_read_nodes, nb_write_nodes, update_nodes, update_size}
use Rattle.ooo_shapes.specs.Shapes.{leave_kind}
use Rattle.ooo_shapes.specs.Designs.{home_of}
use Rattle.ooo_shapes.proofs.Frames.{Within, within_left, within_right}
use Rattle.ooo_shapes.proofs.Places.{HasAt, after_more}
use Rattle.ooo_shapes.proofs.Enter.{begins_some}
use Rattle.ooo_shapes.proofs.Typing.{KindsAt, kind_some}
use Rattle.ooo_shapes.proofs.Naming.{some_of, Named, event_below, value_slot_kind, index_slot_kind, constant_typed, put_named, put_at_named, value_named, aim_named, store_named, update_named, take_named, channel_typed, put_slot_named, held_named}
use Rattle.ooo_shapes.proofs.Flow.{Begins, Enter, IsAfter, Way, Tested, Flow, AllOk}

-- a node that puts a value, or evaluates an index, may be entered from everywhere
pub put_begins : (i : Home) (t : Around) (into : BoundTarget) (v : NodeExpr) (next : ℕ) → MayBegin (put_kind i t into v next)
put_begins i t target.Nothing v next = tt
put_begins i t (target.Local k n) v next = tt
put_begins i t (target.Variable x) v next = tt
put_begins i t (target.Element x e) v next = tt
put_begins i t (target.Signal c) v next = tt

put_at_begins : (i : Home) (t : Around) (into : BoundTarget) (v : NodeExpr) (next : ℕ) → MayBegin (put_at_kind i t into v next)
put_at_begins i t target.Nothing v next = tt
put_at_begins i t (target.Local k n) v next = tt
put_at_begins i t (target.Variable x) v next = tt
put_at_begins i t (target.Element x e) v next = tt
put_at_begins i t (target.Signal c) v next = tt

pub aim_begins : (i : Home) (t : Around) (into : BoundTarget) → MayBegin (aim_kind i t into)
aim_begins i t target.Nothing = tt
aim_begins i t (target.Local k n) = tt
aim_begins i t (target.Variable x) = tt
aim_begins i t (target.Element x e) = tt
aim_begins i t (target.Signal c) = tt

pub leave_begins : (i : Home) (t : Around) (into : BoundTarget) (k : Option Kind) (free next : ℕ) → MayBegin (leave_kind i t into k free next)
leave_begins i t target.Nothing k free next = tt
leave_begins i t (target.Local j n) k free next = tt
leave_begins i t (target.Variable x) k free next = tt
leave_begins i t (target.Element x e) k free next = tt
leave_begins i t (target.Signal c) k free next = tt

pub update_begins : (i : Home) (t : Around) (into : BoundTarget) (o : Op) (e : BoundExpr) (line at next : ℕ) → Begins (update_nodes i t into o e line at next)
update_begins i t target.Nothing o e line at next = tt
update_begins i t (target.Local k n) o e line at next = tt
update_begins i t (target.Variable x) o e line at next = tt
update_begins i t (target.Element x j) o e line at next = tt
update_begins i t (target.Signal c) o e line at next = tt

pub item_begins : (t : Around) (x : BoundItem) → MayBegin (item_kind t x)
item_begins t (item.Value e) = tt
item_begins t (item.Text text) = tt
item_begins t item.Time = tt

module _ (b : Bound) (process : BoundProcess) (code : List Node) (first end : ℕ) (slots : List Kind) (firsts : KindsAt slots 0 first_kinds) where
  abbrev In : ℕ → Type 0
  In q = Enter b process code first end slots q

  abbrev Later : ℕ → ℕ → Type 0
  Later p q = IsAfter b process code first end slots p q

  abbrev Ways : Bool → ℕ → ℕ → Type 0
  Ways counts p q = Way b process code first end slots counts p q

  abbrev Flows : Bool → ℕ → NodeKind → ℕ → Type 0
  Flows counts p k next = Flow b process code first end slots counts p k next

  abbrev Ok : ℕ → List Node → Type 0
  Ok p is = AllOk b process code first end slots p is

  abbrev Has : ℕ → List Node → Type 0
  Has at is = HasAt b process 0 code at is

  abbrev h : Home
  h = home_of b process

  -- so many nodes stand there, and what stands behind them
  pub record Room (size at next : ℕ) : Type 0 where
    pub from : first ≤ at
    pub to : at + size ≤ end
    pub after : Later (at + size) next
    pub next_in : In next

  pub inner : (size at next : ℕ) → Room size at next → (q r : ℕ) (i : Node) → q ≡ r → at ≤ r → r < at + size → slice_get code q ≡ Some i → MayBegin i.kind → In r
  inner size at next room q r i e low high is k = record {
    from = omega (arith, room.from);
    below = omega (arith, room.to);
    begins = λ j is_j.
        let same : Some i ≡ Some j = sym is ∙ ap (slice_get code) e ∙ is_j in
        let one : i ≡ j = cc in
        subst (λ (j : Node). MayBegin j.kind) one k;
  }

  pub ahead : (counts : Bool) (p q : ℕ) → p + 1 ≤ q → In q → Ways counts p q
  ahead counts p q le e = (e, λ u. inl le)

  pub from_counted : (p q : ℕ) → In q → Ways true p q
  from_counted p q e = (e, λ u. absurd cc)

  pub onward : (size at next : ℕ) → Room size at next → (counts : Bool) (p : ℕ) → p + 1 ≤ at + size → Ways counts p next
  onward size at next room counts p le = (room.next_in, λ u. after_more b process 0 code (p + 1) (at + size) next le room.after)

  -- ---- where a node that puts leads

  pub put_flow : (t : Around) (into : BoundTarget) (v : NodeExpr) (counts : Bool) (p next : ℕ) → Ways counts p next → Flows counts p (put_kind h t into v next) next
  put_flow t target.Nothing v counts p next w = (w, w)
  put_flow t (target.Local k n) v counts p next w = w
  put_flow t (target.Variable x) v counts p next w = w
  put_flow t (target.Element x e) v counts p next w = w
  put_flow t (target.Signal c) v counts p next w = w

  put_at_flow : (t : Around) (into : BoundTarget) (v : NodeExpr) (counts : Bool) (p next : ℕ) → Ways counts p next → Flows counts p (put_at_kind h t into v next) next
  put_at_flow t target.Nothing v counts p next w = (w, w)
  put_at_flow t (target.Local k n) v counts p next w = w
  put_at_flow t (target.Variable x) v counts p next w = w
  put_at_flow t (target.Element x e) v counts p next w = w
  put_at_flow t (target.Signal c) v counts p next w = w

  aim_flow : (t : Around) (into : BoundTarget) (counts : Bool) (p next : ℕ) → Ways counts p next → Flows counts p (aim_kind h t into) next
  aim_flow t target.Nothing counts p next w = w
  aim_flow t (target.Local k n) counts p next w = w
  aim_flow t (target.Variable x) counts p next w = w
  aim_flow t (target.Element x e) counts p next w = w
  aim_flow t (target.Signal c) counts p next w = w

  pub leave_flow : (t : Around) (into : BoundTarget) (k : Option Kind) (free : ℕ) (counts : Bool) (p next : ℕ) → Ways counts p next → Flows counts p (leave_kind h t into k free next) next
  leave_flow t target.Nothing k free counts p next w = w
  leave_flow t (target.Local j n) k free counts p next w = w
  leave_flow t (target.Variable x) k free counts p next w = w
  leave_flow t (target.Element x e) k free counts p next w = w
  leave_flow t (target.Signal c) k free counts p next w = w

  -- the take or the put behind its test
  behind : (size at next : ℕ) → Room size at next → (q r other : ℕ) (i : Node) (k : NodeKind) → q ≡ r → at ≤ r → r < at + size → slice_get code q ≡ Some i → i.kind ≡ k → (r ≡ other → ⊥) → Tested b process code first end slots k r other
  behind size at next room q r other i k e low high is same apart = record {
    node = i;
    is = subst (λ r. slice_get code r ≡ Some i) e is;
    kind_is = same;
    from = omega (arith, room.from);
    below = omega (arith, room.to);
    apart = apart;
  }

  module _ (t : Around) (locals : KindsAt slots t.base (kinds_of t.widths)) where
    -- ---- statements of fifos

    pub read_ok : (into : BoundTarget) (c line at next : ℕ) → FitsTarget b into → Within (target_widths into) t.widths → IsSome (fifo_kind (slice_get b.channels c)) → (process.kind ≡ Method → ⊥) → Room 4 at next → Has at (read_nodes h t into c line at next) → Ok at (read_nodes h t into c line at next)
    read_ok into c line at next f w fifo waits room has =
        let slot = channel_slot h c in
        let e2 : at + 1 + 1 ≡ at + 2 = omega arith in
        let e3 : at + 1 + 1 + 1 ≡ at + 3 = omega arith in
        let at_wait = inner 4 at next room (at + 1) (at + 1) _ refl (omega arith) (omega arith) has.1.0 tt in
        let at_test = inner 4 at next room at at _ refl (omega arith) (omega arith) has.0 tt in
        let at_put = inner 4 at next room (at + 1 + 1 + 1) (at + 3) _ e3 (omega arith) (omega arith) has.1.1.1.0 (put_begins h t into (node.Slot slot) next) in
        let takes = behind 4 at next room (at + 1 + 1) (at + 2) (at + 1) _ (kind.Take c slot) e2 (omega arith) (omega arith) has.1.1.0 refl (λ e. absurd (omega (arith, e))) in
        let put = put_named b process slots firsts t locals into (node.Slot slot) next f w (some_of _ _ (channel_typed b process slots firsts c fifo)) in
        let last = put_flow t into (node.Slot slot) false (at + 1 + 1 + 1) next (onward 4 at next room false (at + 1 + 1 + 1) (omega arith)) in
        ((fifo, ((slot, takes), (λ u. absurd cc), from_counted at (at + 1) at_wait)), ((record { time = tt; events_are = event_below b process slots firsts (is_data_written c) }, (at_test, (λ s. absurd cc), waits)), ((take_named b process slots firsts c fifo, ahead false (at + 1 + 1) (at + 3) (omega arith) at_put), ((put, last), tt))))

    held_ok : (c : ℕ) (e : BoundExpr) → IsSome (fifo_kind (slice_get b.channels c)) → Within (expr_widths e) t.widths → FitsExpr b e → Named b process slots firsts (kind.Set (channel_slot h c) (converted (channel_kind b c) (lowered t e)))
    held_ok c e fifo v g = held_named b process slots firsts c fifo (lowered t e) (kind_some b slots t locals e v g)

    pub write_ok : (c : ℕ) (e : BoundExpr) (line at next : ℕ) → FitsExpr b e → Within (expr_widths e) t.widths → IsSome (fifo_kind (slice_get b.channels c)) → (process.kind ≡ Method → ⊥) → Room 4 at next → Has at (write_nodes h t c e line at next) → Ok at (write_nodes h t c e line at next)
    write_ok c e line at next g v fifo waits room has =
        let slot = channel_slot h c in
        let e3 : at + 1 + 1 + 1 ≡ at + 3 = omega arith in
        let e2 : at + 1 + 1 ≡ at + 2 = omega arith in
        let at_test = inner 4 at next room (at + 1) (at + 1) _ refl (omega arith) (omega arith) has.1.0 tt in
        let at_wait = inner 4 at next room (at + 1 + 1) (at + 2) _ e2 (omega arith) (omega arith) has.1.1.0 tt in
        let puts = behind 4 at next room (at + 1 + 1 + 1) (at + 3) (at + 2) _ (kind.Put c (node.Slot slot)) e3 (omega arith) (omega arith) has.1.1.1.0 refl (λ e. absurd (omega (arith, e))) in
        ((held_ok c e fifo v g, ahead false at (at + 1) (omega arith) at_test), ((fifo, ((node.Slot slot, puts), (λ u. absurd cc), from_counted (at + 1) (at + 2) at_wait)), ((record { time = tt; events_are = event_below b process slots firsts (is_data_read c) }, (at_test, (λ s. absurd cc), waits)), ((put_slot_named b process slots firsts c fifo, onward 4 at next room false (at + 1 + 1 + 1) (omega arith)), tt))))

    pub nb_read_ok : (result : BoundTarget) (c : ℕ) (into : BoundTarget) (line at next : ℕ) → FitsTarget b result → Within (target_widths result) t.widths → FitsTarget b into → Within (target_widths into) t.widths → IsSome (fifo_kind (slice_get b.channels c)) → Room 6 at next → Has at (nb_read_nodes h t result c into line at next) → Ok at (nb_read_nodes h t result c into line at next)
    nb_read_ok result c into line at next f w g v fifo room has =
        let slot = channel_slot h c in
        let e2 : at + 1 + 1 ≡ at + 2 = omega arith in
        let e3 : at + 1 + 1 + 1 ≡ at + 3 = omega arith in
        let e4 : at + 1 + 1 + 1 + 1 ≡ at + 4 = omega arith in
        let e5 : at + 1 + 1 + 1 + 1 + 1 ≡ at + 5 = omega arith in
        let at_1 = inner 6 at next room (at + 1) (at + 1) _ refl (omega arith) (omega arith) has.1.0 tt in
        let at_3 = inner 6 at next room (at + 1 + 1 + 1) (at + 3) _ e3 (omega arith) (omega arith) has.1.1.1.0 (put_at_begins h t into (node.Slot slot) (at + 4)) in
        let at_4 = inner 6 at next room (at + 1 + 1 + 1 + 1) (at + 4) _ e4 (omega arith) (omega arith) has.1.1.1.1.0 (put_begins h t result (truth true) next) in
        let at_5 = inner 6 at next room (at + 1 + 1 + 1 + 1 + 1) (at + 5) _ e5 (omega arith) (omega arith) has.1.1.1.1.1.0 (put_begins h t result (truth false) next) in
        let takes = behind 6 at next room (at + 1 + 1) (at + 2) (at + 5) _ (kind.Take c slot) e2 (omega arith) (omega arith) has.1.1.0 refl (λ e. absurd (omega (arith, e))) in
        ((aim_named b process slots firsts t locals into g v, aim_flow t into true at (at + 1) (from_counted at (at + 1) at_1)), ((fifo, ((slot, takes), (λ u. inl (omega arith)), ahead false (at + 1) (at + 5) (omega arith) at_5)), ((take_named b process slots firsts c fifo, ahead false (at + 1 + 1) (at + 3) (omega arith) at_3), ((put_at_named b process slots firsts t locals into (node.Slot slot) (at + 4) g v (some_of _ _ (channel_typed b process slots firsts c fifo)), put_at_flow t into (node.Slot slot) false (at + 1 + 1 + 1) (at + 4) (ahead false (at + 1 + 1 + 1) (at + 4) (omega arith) at_4)), ((put_named b process slots firsts t locals result (truth true) next f w (constant_typed b process slots firsts _), put_flow t result (truth true) false (at + 1 + 1 + 1 + 1) next (onward 6 at next room false (at + 1 + 1 + 1 + 1) (omega arith))), ((put_named b process slots firsts t locals result (truth false) next f w (constant_typed b process slots firsts _), put_flow t result (truth false) false (at + 1 + 1 + 1 + 1 + 1) next (onward 6 at next room false (at + 1 + 1 + 1 + 1 + 1) (omega arith))), tt))))))

    pub nb_write_ok : (result : BoundTarget) (c : ℕ) (e : BoundExpr) (line at next : ℕ) → FitsTarget b result → Within (target_widths result) t.widths → FitsExpr b e → Within (expr_widths e) t.widths → IsSome (fifo_kind (slice_get b.channels c)) → Room 5 at next → Has at (nb_write_nodes h t result c e line at next) → Ok at (nb_write_nodes h t result c e line at next)
    nb_write_ok result c e line at next f w g v fifo room has =
        let slot = channel_slot h c in
        let e2 : at + 1 + 1 ≡ at + 2 = omega arith in
        let e3 : at + 1 + 1 + 1 ≡ at + 3 = omega arith in
        let e4 : at + 1 + 1 + 1 + 1 ≡ at + 4 = omega arith in
        let at_1 = inner 5 at next room (at + 1) (at + 1) _ refl (omega arith) (omega arith) has.1.0 tt in
        let at_3 = inner 5 at next room (at + 1 + 1 + 1) (at + 3) _ e3 (omega arith) (omega arith) has.1.1.1.0 (put_begins h t result (truth true) next) in
        let at_4 = inner 5 at next room (at + 1 + 1 + 1 + 1) (at + 4) _ e4 (omega arith) (omega arith) has.1.1.1.1.0 (put_begins h t result (truth false) next) in
        let puts = behind 5 at next room (at + 1 + 1) (at + 2) (at + 4) _ (kind.Put c (node.Slot slot)) e2 (omega arith) (omega arith) has.1.1.0 refl (λ e. absurd (omega (arith, e))) in
        ((held_ok c e fifo v g, from_counted at (at + 1) at_1), ((fifo, ((node.Slot slot, puts), (λ u. inl (omega arith)), ahead false (at + 1) (at + 4) (omega arith) at_4)), ((put_slot_named b process slots firsts c fifo, ahead false (at + 1 + 1) (at + 3) (omega arith) at_3), ((put_named b process slots firsts t locals result (truth true) next f w (constant_typed b process slots firsts _), put_flow t result (truth true) false (at + 1 + 1 + 1) next (onward 5 at next room false (at + 1 + 1 + 1) (omega arith))), ((put_named b process slots firsts t locals result (truth false) next f w (constant_typed b process slots firsts _), put_flow t result (truth false) false (at + 1 + 1 + 1 + 1) next (onward 5 at next room false (at + 1 + 1 + 1 + 1) (omega arith))), tt)))))

    -- ---- `a op= b`

    update_plain : (into : BoundTarget) (o : Op) (e : BoundExpr) (at next : ℕ) → FitsTarget b into → Within (target_widths into) t.widths → FitsExpr b e → Within (expr_widths e) t.widths → Room 1 at next → Named b process slots firsts (put_kind h t into (node.Binary o (current_expr t into) (lowered t e)) next) × Flows true at (put_kind h t into (node.Binary o (current_expr t into) (lowered t e)) next) next
    update_plain into o e at next f w g v room = (update_named b process slots firsts t locals into o e next f g w v, put_flow t into (node.Binary o (current_expr t into) (lowered t e)) true at next (from_counted at next room.next_in))

    pub update_ok : (into : BoundTarget) (o : Op) (e : BoundExpr) (line at next : ℕ) → FitsTarget b into → Within (target_widths into) t.widths → FitsExpr b e → Within (expr_widths e) t.widths → Room (update_size into) at next → Has at (update_nodes h t into o e line at next) → Ok at (update_nodes h t into o e line at next)
    update_ok target.Nothing o e line at next f w g v room has = (update_plain target.Nothing o e at next f w g v room, tt)
    update_ok (target.Local k n) o e line at next f w g v room has = (update_plain (target.Local k n) o e at next f w g v room, tt)
    update_ok (target.Variable x) o e line at next f w g v room has = (update_plain (target.Variable x) o e at next f w g v room, tt)
    update_ok (target.Signal c) o e line at next f w g v room has = (update_plain (target.Signal c) o e at next f w g v room, tt)
    update_ok (target.Element x i) o e line at next f w g v room has =
        let e2 : at + 1 + 1 ≡ at + 2 = omega arith in
        let at_1 = inner 3 at next room (at + 1) (at + 1) _ refl (omega arith) (omega arith) has.1.0 tt in
        let at_2 = inner 3 at next room (at + 1 + 1) (at + 2) _ e2 (omega arith) (omega arith) has.1.1.0 tt in
        ((value_named b process slots firsts t locals e (value_slot (kind_in b e)) (value_slot_kind b process slots firsts (kind_in b e)) v g, from_counted at (at + 1) at_1), ((value_named b process slots firsts t locals i (index_slot (kind_in b i)) (index_slot_kind b process slots firsts (kind_in b i)) w f.1, ahead false (at + 1) (at + 2) (omega arith) at_2), ((store_named b process slots firsts t locals x i e o f.0, onward 3 at next room false (at + 1 + 1) (omega arith)), tt)))

    -- ---- printing

    item_ok : (x : BoundItem) (counts : Bool) (p next : ℕ) → FitsItem b x → Within (item_widths x) t.widths → Ways counts p next → Named b process slots firsts (item_kind t x) × Flows counts p (item_kind t x) next
    item_ok (item.Value e) counts p next f w way = (kind_some b slots t locals e w f, way)
    item_ok (item.Text text) counts p next f w way = (tt, way)
    item_ok item.Time counts p next f w way = (tt, way)

    -- where the items begin that stand at a place
    pub items_in : (xs : List BoundItem) (line size at next q : ℕ) → Room size at next → at ≤ q → q + length xs ≤ at + size → Has q (item_nodes t xs line q next) → In (begins (length xs) q next)
    items_in [] line size at next q room low high has = room.next_in
    items_in (x ∷ xs) line size at next q room low high has =
        subst In (sym (begins_some (length (x ∷ xs)) q next (omega arith))) (inner size at next room q q _ refl low (omega (arith, high)) has.0 (item_begins t x))

    items_after : (xs : List BoundItem) (size at next q : ℕ) → Room size at next → q + length xs ≤ at + size → Later q (begins (length xs) q next)
    items_after [] size at next q room high = after_more b process 0 code q (at + size) next (omega (arith, high)) room.after
    items_after (x ∷ xs) size at next q room high = subst (λ r. Later q r) (sym (begins_some (length (x ∷ xs)) q next (omega arith))) (inl (omega arith))

    pub items_ok : (xs : List BoundItem) (line size at next q : ℕ) → AllByRecursion (FitsItem b) xs → Within (items_widths xs) t.widths → Room size at next → at ≤ q → q + length xs ≤ at + size → Has q (item_nodes t xs line q next) → Ok q (item_nodes t xs line q next)
    items_ok [] line size at next q f w room low high has = tt
    items_ok (x ∷ xs) line size at next q f w room low high has =
        let inside = items_in xs line size at next (q + 1) room (omega (arith, low)) (omega (arith, high)) has.1 in
        let after = items_after xs size at next (q + 1) room (omega (arith, high)) in
        (item_ok x false q (begins (length xs) (q + 1) next) f.0 (within_left (item_widths x) (items_widths xs) t.widths w) (inside, λ u. after), items_ok xs line size at next (q + 1) f.1 (within_right (item_widths x) (items_widths xs) t.widths w) room (omega (arith, low)) (omega (arith, high)) has.1)
