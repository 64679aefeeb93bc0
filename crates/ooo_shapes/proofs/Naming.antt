-- The nodes of statements without statements in them: all that they name is there, and their kinds agree.
use Rattle.std.proofs.Common.{◌≡◌, ℕ, ◌+◌, ◌<◌, List, [], length, Bool, true, false, cond, Option, Some, None, refl, sym, ap, ◌∙◌, subst, arith, get_or}
use Rattle.std.specs.Prelude.{slice_get, All, IsSome, IfSome, IsTrue, nat_lt, if◌then◌else◌}
use Rattle.std.specs.List.{position, position_or_len}
use Rattle.std.proofs.lemmas.Option.{slice_get-get_or}
use Rattle.std.proofs.lemmas.List.Elements.{All-nil, All-cons}
use borrow.Author.Tests.{ltb-true}
use Rattle.ooo_value.specs.declared.bound.BoundChannel.{BoundChannel}
use Rattle.ooo_value.specs.declared.bound.BoundVariable.{BoundVariable}
use Rattle.ooo_value.specs.declared.bound.ChannelKind.{ChannelKind}
use Rattle.ooo_value.specs.declared.bound.ChannelKind.TheVariants as channel
use Rattle.ooo_value.specs.declared.kinds.Kind.{Kind}
use Rattle.ooo_value.specs.declared.kinds.Kind.TheVariants as kind
use Rattle.ooo_value.specs.declared.operators.Op.{Op}
use Rattle.ooo_value.specs.Operators.{binary_kind}
use Rattle.ooo_code.specs.declared.expression.NodeExpr.{NodeExpr}
use Rattle.ooo_code.specs.declared.expression.NodeExpr.TheVariants as node
use Rattle.ooo_code.specs.declared.node.NodeKind.{NodeKind}
use Rattle.ooo_code.specs.declared.node.NodeKind.TheVariants as does
use Rattle.ooo_code.specs.Expressions.{no_value}
use Rattle.ooo_code.specs.Sound.{Scope, Typed, if_typed, of_two, signal_kind, fifo_kind, FitsNode, FitsTime, MayBegin}
use Rattle.ooo_code.specs.Sound as code
use Rattle.ooo_bound.specs.declared.expr.BoundExpr.{BoundExpr}
use Rattle.ooo_bound.specs.declared.expr.BoundTime.{BoundTime}
use Rattle.ooo_bound.specs.declared.expr.BoundTime.TheVariants as time
use Rattle.ooo_bound.specs.declared.expr.BoundWait.{BoundWait}
use Rattle.ooo_bound.specs.declared.model.Bound.{Bound}
use Rattle.ooo_bound.specs.declared.model.BoundProcess.{BoundProcess}
use Rattle.ooo_bound.specs.declared.stat.BoundTarget.{BoundTarget}
use Rattle.ooo_bound.specs.declared.stat.BoundTarget.TheVariants as target
use Rattle.ooo_activation.specs.Activations.{variable_kind, channel_kind, kind_of_variable, kind_of_channel, one_event}
use Rattle.ooo_activation.specs.Sound.{FitsExpr, FitsTarget}
use Rattle.ooo_activation.specs.Sound as by_text
use Rattle.ooo_shapes.specs.declared.around.Around.{Around}
use Rattle.ooo_shapes.specs.Widths.{expr_widths, target_widths, time_widths, wait_widths, kinds_of}
use Rattle.ooo_shapes.specs.Expressions.{value_slot, index_slot, first_kinds, slot_of, lowered, lowered_time, lowered_wait_time, converted, kind_in}
use Rattle.ooo_shapes.specs.Simples.{Home, put_kind, put_at_kind, aim_kind, lowered_wait, current_expr}
use Rattle.ooo_shapes.specs.Designs.{home_of}
use Rattle.ooo_shapes.proofs.Frames.{Within, within_local}
use Rattle.ooo_shapes.proofs.Typing.{KindsAt, local_kind, kind_so, kind_Constant, kind_Slot, kind_Variable, kind_Element, kind_Signal, kind_Binary, converted_kind, kind_in_is, kind_same, kind_some}

pub some_of : {A : Type 0} (o : Option A) (x : A) → o ≡ Some x → IsSome o
some_of o x e = subst IsSome (sym e) refl

-- a variable that is there has a kind
variable_of : (o : Option BoundVariable) → IsSome (code.variable_kind o) → code.variable_kind o ≡ Some (kind_of_variable o)
variable_of None some = absurd cc
variable_of (Some x) some = refl

signal_in : (k : ChannelKind) (v : Kind) → IsSome (elim k [ channel.Signal ↦ Some v | channel.Fifo ↦ None ]) → elim k [ channel.Signal ↦ Some v | channel.Fifo ↦ None ] ≡ Some v
signal_in channel.Signal v some = refl
signal_in channel.Fifo v some = absurd cc

fifo_in : (k : ChannelKind) (v : Kind) → IsSome (elim k [ channel.Signal ↦ None | channel.Fifo ↦ Some v ]) → elim k [ channel.Signal ↦ None | channel.Fifo ↦ Some v ] ≡ Some v
fifo_in channel.Signal v some = absurd cc
fifo_in channel.Fifo v some = refl

signal_of : (o : Option BoundChannel) → IsSome (signal_kind o) → signal_kind o ≡ Some (kind_of_channel o)
signal_of None some = absurd cc
signal_of (Some c) some = signal_in c.kind c.value some

pub fifo_of : (o : Option BoundChannel) → IsSome (fifo_kind o) → fifo_kind o ≡ Some (kind_of_channel o)
fifo_of None some = absurd cc
fifo_of (Some c) some = fifo_in c.kind c.value some

-- an event that is looked up is there
one_below : (n m : ℕ) (t : Bool) → nat_lt n m ≡ t → All (λ e. e < m) (one_event (cond t (Some n) None))
one_below n m true is = All-cons (λ e. e < m) n [] (ltb-true n m is) (All-nil (λ e. e < m))
one_below n m false is = All-nil (λ e. e < m)

two_some : (o : Op) (x y : Typed) (j k : Kind) → x ≡ Some j → y ≡ Some k → IsSome (of_two (binary_kind o) x y)
two_some o x y j k e f = subst (λ x. IsSome (of_two (binary_kind o) x y)) (sym e) (subst (λ y. IsSome (of_two (binary_kind o) (Some j) y)) (sym f) refl)

kind_of_some : (x : Typed) → IsSome x → (k : Kind) × (x ≡ Some k)
kind_of_some None some = absurd cc
kind_of_some (Some k) some = (k, refl)

module _ (b : Bound) (process : BoundProcess) (slots : List Kind) (firsts : KindsAt slots 0 first_kinds) where
  abbrev names : Scope
  names = record { slots = slots; variables = b.variables; channels = b.channels }

  abbrev h : Home
  h = home_of b process

  abbrev pub Named : NodeKind → Type 0
  Named k = FitsNode names b.events k

  abbrev pub Typed_so : NodeExpr → Type 0
  Typed_so e = IsSome (kind_so names e)

  pub event_below : (test : _ → Bool) → All (λ e. e < length b.events) (one_event (position test b.events))
  event_below test = one_below (position_or_len test b.events) (length b.events) (nat_lt (position_or_len test b.events) (length b.events)) refl

  -- ---- the first slots

  slot_first : (i : ℕ) → i < 10 → slice_get slots i ≡ Some (get_or first_kinds i kind.Bool)
  slot_first i lt =
      let e : i ≡ 0 + i = omega arith in
      let within : i < length slots = omega (arith, firsts.room) in
      slice_get-get_or slots i kind.Bool within ∙ ap Some (ap (λ n. get_or slots n kind.Bool) e ∙ firsts.same i lt)

  pub value_slot_kind : (k : Kind) → slice_get slots (value_slot k) ≡ Some k
  value_slot_kind kind.Bool = slot_first 0 (omega arith)
  value_slot_kind kind.Int = slot_first 1 (omega arith)
  value_slot_kind kind.Uint = slot_first 2 (omega arith)
  value_slot_kind kind.Long = slot_first 3 (omega arith)
  value_slot_kind kind.Ulong = slot_first 4 (omega arith)

  pub index_slot_kind : (k : Kind) → slice_get slots (index_slot k) ≡ Some k
  index_slot_kind kind.Bool = slot_first 5 (omega arith)
  index_slot_kind kind.Int = slot_first 6 (omega arith)
  index_slot_kind kind.Uint = slot_first 7 (omega arith)
  index_slot_kind kind.Long = slot_first 8 (omega arith)
  index_slot_kind kind.Ulong = slot_first 9 (omega arith)

  pub slot_typed : (n : ℕ) (k : Kind) → slice_get slots n ≡ Some k → kind_so names (node.Slot n) ≡ Some k
  slot_typed n k e = kind_Slot names n ∙ e

  pub constant_typed : (v : _) → Typed_so (node.Constant v)
  constant_typed v = some_of (kind_so names (node.Constant v)) _ (kind_Constant names v)

  -- a slot gets a value of its kind
  pub set_named : (n : ℕ) (k : Kind) (e : NodeExpr) → slice_get slots n ≡ Some k → kind_so names e ≡ Some k → Named (does.Set n e)
  set_named n k e s v = (some_of (slice_get slots n) k s, v ∙ sym s)

  module _ (t : Around) (locals : KindsAt slots t.base (kinds_of t.widths)) where
    -- ---- targets

    pub put_named : (into : BoundTarget) (v : NodeExpr) (next : ℕ) → FitsTarget b into → Within (target_widths into) t.widths → Typed_so v → Named (put_kind h t into v next)
    put_named target.Nothing v next f w some = some
    put_named (target.Local k n) v next f w some = set_named (slot_of t k n) k (converted k v) (local_kind slots t k n locals (within_local k n t.widths w)) (converted_kind names k v some)
    put_named (target.Variable x) v next f w some = (f, converted_kind names (variable_kind b x) v some ∙ sym (variable_of (slice_get b.variables x) f))
    put_named (target.Element x i) v next f w some = (f.0, converted_kind names (variable_kind b x) v some ∙ sym (variable_of (slice_get b.variables x) f.0), kind_some b slots t locals i w f.1)
    put_named (target.Signal c) v next f w some = (f, converted_kind names (channel_kind b c) v some ∙ sym (signal_of (slice_get b.channels c) f))

    index_typed : (i : BoundExpr) → kind_so names (node.Slot (index_slot (kind_in b i))) ≡ Some (kind_in b i)
    index_typed i = slot_typed (index_slot (kind_in b i)) (kind_in b i) (index_slot_kind (kind_in b i))

    pub put_at_named : (into : BoundTarget) (v : NodeExpr) (next : ℕ) → FitsTarget b into → Within (target_widths into) t.widths → Typed_so v → Named (put_at_kind h t into v next)
    put_at_named target.Nothing v next f w some = put_named target.Nothing v next f w some
    put_at_named (target.Local k n) v next f w some = put_named (target.Local k n) v next f w some
    put_at_named (target.Variable x) v next f w some = put_named (target.Variable x) v next f w some
    put_at_named (target.Element x i) v next f w some = (f.0, converted_kind names (variable_kind b x) v some ∙ sym (variable_of (slice_get b.variables x) f.0), some_of _ (kind_in b i) (index_typed i))
    put_at_named (target.Signal c) v next f w some = put_named (target.Signal c) v next f w some

    -- an expression is evaluated into the slot of its kind
    pub value_named : (e : BoundExpr) (n : ℕ) → slice_get slots n ≡ Some (kind_in b e) → Within (expr_widths e) t.widths → FitsExpr b e → Named (does.Set n (lowered t e))
    value_named e n s w f = set_named n (kind_in b e) (lowered t e) s (kind_same b slots t locals e w ∙ kind_in_is b e f)

    pub aim_named : (into : BoundTarget) → FitsTarget b into → Within (target_widths into) t.widths → Named (aim_kind h t into)
    aim_named target.Nothing f w = tt
    aim_named (target.Local k n) f w = tt
    aim_named (target.Variable x) f w = tt
    aim_named (target.Element x i) f w = value_named i (index_slot (kind_in b i)) (index_slot_kind (kind_in b i)) w f.1
    aim_named (target.Signal c) f w = tt

    -- what stands in a target has a kind
    pub current_typed : (into : BoundTarget) → FitsTarget b into → Within (target_widths into) t.widths → Typed_so (current_expr t into)
    current_typed target.Nothing f w = constant_typed no_value
    current_typed (target.Local k n) f w = some_of _ k (slot_typed (slot_of t k n) k (local_kind slots t k n locals (within_local k n t.widths w)))
    current_typed (target.Variable x) f w = subst IsSome (sym (kind_Variable names x)) f
    current_typed (target.Element x i) f w = constant_typed no_value
    current_typed (target.Signal c) f w = subst IsSome (sym (kind_Signal names c)) f

    pub binary_typed : (o : Op) (x y : NodeExpr) → Typed_so x → Typed_so y → Typed_so (node.Binary o x y)
    binary_typed o x y f g =
        let j = kind_of_some (kind_so names x) f in
        let k = kind_of_some (kind_so names y) g in
        subst IsSome (sym (kind_Binary names o x y)) (two_some o (kind_so names x) (kind_so names y) j.0 k.0 j.1 k.1)

    -- the element of `a op= b`
    pub element_typed : (x : ℕ) (i e : BoundExpr) (o : Op) → IsSome (code.variable_kind (slice_get b.variables x)) → Typed_so (node.Binary o (node.Element x (node.Slot (index_slot (kind_in b i)))) (node.Slot (value_slot (kind_in b e))))
    element_typed x i e o some =
        let index = node.Slot (index_slot (kind_in b i)) in
        let is : kind_so names (node.Element x index) ≡ code.variable_kind (slice_get b.variables x) =
        kind_Element names x index ∙ ap (λ k. if_typed k (code.variable_kind (slice_get b.variables x))) (index_typed i) in
        binary_typed o (node.Element x index) (node.Slot (value_slot (kind_in b e))) (subst IsSome (sym is) some)
        (some_of _ (kind_in b e) (slot_typed (value_slot (kind_in b e)) (kind_in b e) (value_slot_kind (kind_in b e))))

    pub store_named : (x : ℕ) (i e : BoundExpr) (o : Op) → IsSome (code.variable_kind (slice_get b.variables x)) → Named (does.Store x (Some (node.Slot (index_slot (kind_in b i)))) (converted (variable_kind b x) (node.Binary o (node.Element x (node.Slot (index_slot (kind_in b i)))) (node.Slot (value_slot (kind_in b e))))))
    store_named x i e o some = (some, converted_kind names (variable_kind b x) _ (element_typed x i e o some) ∙ sym (variable_of (slice_get b.variables x) some), some_of _ (kind_in b i) (index_typed i))

    pub update_named : (into : BoundTarget) (o : Op) (e : BoundExpr) (next : ℕ) → FitsTarget b into → FitsExpr b e → Within (target_widths into) t.widths → Within (expr_widths e) t.widths → Named (put_kind h t into (node.Binary o (current_expr t into) (lowered t e)) next)
    update_named into o e next f g w v = put_named into (node.Binary o (current_expr t into) (lowered t e)) next f w (binary_typed o (current_expr t into) (lowered t e) (current_typed into f w) (kind_some b slots t locals e v g))

    -- ---- times and waits

    pub time_named : (k : BoundTime) → by_text.FitsTime b k → Within (time_widths k) t.widths → FitsTime names (lowered_time t k)
    time_named (time.Fixed k) f w = f
    time_named (time.Amount e scale) f w = kind_some b slots t locals e w f

    wait_time_named : (k : Option BoundTime) → IfSome k (by_text.FitsTime b) → Within (wait_widths k) t.widths → IfSome (lowered_wait_time t k) (FitsTime names)
    wait_time_named None f w = tt
    wait_time_named (Some k) f w = time_named k f w

    events_named : (s : Bool) (xs ys : List ℕ) → All (λ e. e < length b.events) xs → All (λ e. e < length b.events) ys → All (λ e. e < length b.events) (if s then xs else ys)
    events_named true xs ys f g = f
    events_named false xs ys f g = g

    pub wait_named : (w : BoundWait) → All (λ e. e < length b.events) process.sensitive → by_text.FitsWait b w → Within (wait_widths w.time) t.widths → code.FitsWait names b.events (lowered_wait h t w)
    wait_named w own f v = record {
      time = wait_time_named w.time f.time v;
      events_are = events_named w.is_static process.sensitive w.events own f.events_are;
    }

    static_so : (s : Bool) (xs ys : List ℕ) → IsTrue s → (if s then xs else ys) ≡ xs
    static_so true xs ys s = refl
    static_so false xs ys s = absurd cc

    pub wait_static : (w : BoundWait) → IsTrue w.is_static → (lowered_wait h t w).events ≡ process.sensitive
    wait_static w s = static_so w.is_static process.sensitive w.events s

  -- ---- fifos

  module _ (c : ℕ) (is_fifo : IsSome (fifo_kind (slice_get b.channels c))) where
    pub take_named : Named (does.Take c (value_slot (channel_kind b c)))
    take_named = (is_fifo, value_slot_kind (channel_kind b c) ∙ sym (fifo_of (slice_get b.channels c) is_fifo))

    pub channel_typed : kind_so names (node.Slot (value_slot (channel_kind b c))) ≡ Some (channel_kind b c)
    channel_typed = slot_typed (value_slot (channel_kind b c)) (channel_kind b c) (value_slot_kind (channel_kind b c))

    pub put_slot_named : Named (does.Put c (node.Slot (value_slot (channel_kind b c))))
    put_slot_named = (is_fifo, channel_typed ∙ sym (fifo_of (slice_get b.channels c) is_fifo))

    pub held_named : (e : NodeExpr) → Typed_so e → Named (does.Set (value_slot (channel_kind b c)) (converted (channel_kind b c) e))
    held_named e some = set_named (value_slot (channel_kind b c)) (channel_kind b c) (converted (channel_kind b c) e) (value_slot_kind (channel_kind b c)) (converted_kind names (channel_kind b c) e some)
