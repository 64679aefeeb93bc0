-- An expression without breaches has a kind in the model, once its names have numbers.
use Rattle.std.proofs.Common.{◌≡◌, ◌∙◌, refl, ap, sym, subst, ℕ, List, [], ◌∷◌, ◌++◌, map, Bool, true, false, Option, Some, None, ◌⊎◌, inl, inr}
use Rattle.std.specs.Prelude.{IsSome, option_map, slice_get, ◌&&◌, not, ◌==◌, if◌then◌else◌}
use Rattle.std.specs.List.{AllByRecursion}
use Rattle.ooo_lexer.specs.declared.position.Position.{Position}
use Rattle.ooo_value.specs.declared.kinds.Kind.{Kind}
use Rattle.ooo_value.specs.declared.kinds.Kind.TheVariants as kind
use Rattle.ooo_value.specs.declared.operators.Op.{Op}
use Rattle.ooo_value.specs.declared.values.Value.{Value}
use Rattle.ooo_syntax.specs.declared.expr.BinaryOp.{BinaryOp}
use Rattle.ooo_syntax.specs.declared.expr.BinaryOp.TheVariants as binary
use Rattle.ooo_syntax.specs.declared.expr.PrefixOp.{PrefixOp}
use Rattle.ooo_syntax.specs.declared.expr.PrefixOp.TheVariants as prefix
use Rattle.ooo_syntax.specs.declared.expr.Expr.{Expr, Expr-F, map-Expr, roll-Expr, fold-roll-Expr, ind-Expr}
use Rattle.ooo_syntax.specs.declared.expr.Expr.TheOpen as layer
use Rattle.ooo_code.specs.Sound.{Typed, if_typed, variable_kind, signal_kind, fifo_kind, if_bool, of_two}
use Rattle.ooo_bound.specs.declared.expr.BoundExpr.{BoundExpr, BoundExpr-F, map-BoundExpr, roll-BoundExpr, fold-roll-BoundExpr}
use Rattle.ooo_bound.specs.declared.expr.BoundExpr.TheOpen as opened
use Rattle.ooo_bound.specs.declared.expr.BoundExpr.TheVariants as bound
use Rattle.ooo_bound.specs.declared.model.Bound.{Bound}
use Rattle.ooo_checked.specs.declared.breach.TypeBreach.TheVariants as what
use Rattle.ooo_checked.specs.declared.denotation.Denotation.{Denotation}
use Rattle.ooo_checked.specs.declared.denotation.Direction.TheVariants as direction
use Rattle.ooo_checked.specs.declared.denotation.Method.{Method}
use Rattle.ooo_checked.specs.declared.denotation.Method.TheVariants as method
use Rattle.ooo_checked.specs.declared.denotation.Thing.{Thing}
use Rattle.ooo_checked.specs.declared.denotation.Thing.TheVariants as thing
use Rattle.ooo_checked.specs.declared.expr.CheckedExpr.{CheckedExpr, CheckedExpr-F, map-CheckedExpr, roll-CheckedExpr, fold-roll-CheckedExpr}
use Rattle.ooo_checked.specs.declared.expr.CheckedExpr.TheOpen as form
use Rattle.ooo_checked.specs.declared.expr.CheckedExpr.TheVariants as checked
use Rattle.ooo_checked.specs.CallPlaces.{is_inside, is_used}
use Rattle.ooo_checked.specs.declared.denotation.Direction.{Direction}
use Rattle.ooo_checked.specs.declared.place.CallPlace.{CallPlace}
use Rattle.ooo_checked.specs.declared.place.CallPlace.TheVariants.{Inside}
use Rattle.ooo_checked.specs.Exprs.{expr_of, expr_step, exprs_of, resolved, index_notes, member_notes, method_notes, wait_when}
use Rattle.ooo_checked.specs.Notes.{Checked, breach_when, trees, all_notes}
use Rattle.ooo_checked.specs.Scopes.{Scope, meaning_of}
use Rattle.ooo_checked.specs.Things.{is_bool, has_method, own_method, method_of, method_named, is_fifo, has_effect, of_signal, of_port, is_reading, is_writing, is_blocking, argument_count, gives_nothing}
use Rattle.ooo_constants.specs.Meanings.{constant_at}
use Rattle.ooo_constants.specs.Values.{operator_of}
use Rattle.ooo_numbers.specs.Names.{Numbering, channel_of, variable_of}
use Rattle.ooo_numbers.specs.Exprs.{nothing, name_of, prefixed, operated, method_of as bound_method, expr_of as numbered, exprs_of as all_numbered, expr_step as numbered_step}
use Rattle.ooo_activation.specs.Kinds.{expression_kind, kind_step}
use Rattle.ooo_activation.specs.Sound.{FitsExpr}
use Rattle.ooo_sound_model.specs.Naming.{Leave, MeansThing, Agrees, MayAllBeNoted}
use Rattle.ooo_sound_model.proofs.Notes.{no, first_noted, then_noted, not_so, so}

-- what an expression is in a scope
abbrev Reading : Type 0
Reading = Scope → Checked CheckedExpr

-- ---- kinds that are there

if_typed_some : (j k : Typed) → IsSome j → IsSome k → IsSome (if_typed j k)
if_typed_some None k h g = no h
if_typed_some (Some j) k h g = g

mapped_some : (f : Kind → Kind) (k : Typed) → IsSome k → IsSome (option_map f k)
mapped_some f None h = no h
mapped_some f (Some k) h = refl

two_some : (f : Kind → Kind → Kind) (j k : Typed) → IsSome j → IsSome k → IsSome (of_two f j k)
two_some f None k h g = no h
two_some f (Some j) None h g = no g
two_some f (Some j) (Some k) h g = refl

-- ---- bound expressions

module _ (b : Bound) where
  kind_at : (y : BoundExpr-F BoundExpr) (e : BoundExpr) → roll-BoundExpr y ≡ e →
      expression_kind b e ≡ kind_step b (map-BoundExpr BoundExpr Typed (expression_kind b) y)
  unfolding expression_kind
  kind_at y e is = ap (expression_kind b) (sym is) ∙ fold-roll-BoundExpr Typed (kind_step b) y

  -- an expression fits whose form has a kind
  by_form : (y : BoundExpr-F BoundExpr) (e : BoundExpr) → roll-BoundExpr y ≡ e →
      IsSome (kind_step b (map-BoundExpr BoundExpr Typed (expression_kind b) y)) → FitsExpr b e
  by_form y e is h = subst IsSome (sym (kind_at y e is)) h

  pub constant_fits : (v : Value) → FitsExpr b (bound.Constant v)
  constant_fits v = by_form (opened.Constant v) _ (bound.rolls-Constant v) refl

  pub local_fits : (k : Kind) (x : ℕ) → FitsExpr b (bound.Local k x)
  local_fits k x = by_form (opened.Local k x) _ (bound.rolls-Local k x) refl

  pub variable_fits : (x : ℕ) → IsSome (variable_kind (slice_get b.variables x)) → FitsExpr b (bound.Variable x)
  variable_fits x h = by_form (opened.Variable x) _ (bound.rolls-Variable x) h

  pub element_fits : (x : ℕ) (i : BoundExpr) → IsSome (variable_kind (slice_get b.variables x)) → FitsExpr b i →
      FitsExpr b (bound.Element x i)
  element_fits x i h g = by_form (opened.Element x i) _ (bound.rolls-Element x i) (if_typed_some _ _ g h)

  pub signal_fits : (c : ℕ) (k : Kind) → signal_kind (slice_get b.channels c) ≡ Some k → FitsExpr b (bound.Signal c)
  signal_fits c k is = by_form (opened.Signal c) _ (bound.rolls-Signal c) (subst IsSome (sym is) refl)

  changed_fits : (c : ℕ) (k : Kind) → signal_kind (slice_get b.channels c) ≡ Some k → FitsExpr b (bound.Changed c)
  changed_fits c k is =
      by_form (opened.Changed c) _ (bound.rolls-Changed c) (if_typed_some _ _ (subst IsSome (sym is) refl) refl)

  edge_fits : (c : ℕ) (k : Kind) (up : Bool) → signal_kind (slice_get b.channels c) ≡ Some k → is_bool k ≡ true →
      FitsExpr b (bound.Edge c up)
  edge_fits c kind.Bool up is h =
      by_form (opened.Edge c up) _ (bound.rolls-Edge c up) (subst (λ k. IsSome (if_bool k)) (sym is) refl)
  edge_fits c kind.Int up is h = no h
  edge_fits c kind.Uint up is h = no h
  edge_fits c kind.Long up is h = no h
  edge_fits c kind.Ulong up is h = no h

  available_fits : (c : ℕ) (k : Kind) → fifo_kind (slice_get b.channels c) ≡ Some k → FitsExpr b (bound.Available c)
  available_fits c k is =
      by_form (opened.Available c) _ (bound.rolls-Available c) (if_typed_some _ _ (subst IsSome (sym is) refl) refl)

  free_fits : (c : ℕ) (k : Kind) → fifo_kind (slice_get b.channels c) ≡ Some k → FitsExpr b (bound.Free c)
  free_fits c k is = by_form (opened.Free c) _ (bound.rolls-Free c) (if_typed_some _ _ (subst IsSome (sym is) refl) refl)

  pub convert_fits : (k : Kind) (e : BoundExpr) → FitsExpr b e → FitsExpr b (bound.Convert k e)
  convert_fits k e h = by_form (opened.Convert k e) _ (bound.rolls-Convert k e) (if_typed_some _ _ h refl)

  prefixed_fits : (op : PrefixOp) (e : BoundExpr) → FitsExpr b e → FitsExpr b (prefixed op e)
  prefixed_fits prefix.Not e h = by_form (opened.Not e) _ (bound.rolls-Not e) (if_typed_some _ _ h refl)
  prefixed_fits prefix.Invert e h = by_form (opened.Invert e) _ (bound.rolls-Invert e) (mapped_some _ _ h)
  prefixed_fits prefix.Negate e h = by_form (opened.Negate e) _ (bound.rolls-Negate e) (mapped_some _ _ h)
  prefixed_fits prefix.Keep e h = by_form (opened.Promote e) _ (bound.rolls-Promote e) (mapped_some _ _ h)

  both_fit : (a c : BoundExpr) → FitsExpr b a → FitsExpr b c → FitsExpr b (bound.Both a c)
  both_fit a c h g = by_form (opened.Both a c) _ (bound.rolls-Both a c) (if_typed_some _ _ h (if_typed_some _ _ g refl))

  either_fits : (a c : BoundExpr) → FitsExpr b a → FitsExpr b c → FitsExpr b (bound.Either a c)
  either_fits a c h g = by_form (opened.Either a c) _ (bound.rolls-Either a c) (if_typed_some _ _ h (if_typed_some _ _ g refl))

  operated_fits : (sign : BinaryOp) (o : Option Op) (a c : BoundExpr) → FitsExpr b a → FitsExpr b c →
      FitsExpr b (operated sign o a c)
  operated_fits sign (Some o) a c h g = by_form (opened.Binary o a c) _ (bound.rolls-Binary o a c) (two_some _ _ _ h g)
  operated_fits binary.Both None a c h g = both_fit a c h g
  operated_fits _ None a c h g = either_fits a c h g

  choose_fits : (k : Kind) (t a c : BoundExpr) → FitsExpr b t → FitsExpr b a → FitsExpr b c → FitsExpr b (bound.Choose k t a c)
  choose_fits k t a c f h g =
      by_form (opened.Choose k t a c) _ (bound.rolls-Choose k t a c)
      (if_typed_some _ _ f (if_typed_some _ _ h (if_typed_some _ _ g refl)))

-- ---- names and calls

module _ (b : Bound) (n : Numbering) (l : Leave) where
  -- a name by itself
  pub name_fits : (d : Denotation) (t : Thing) → d.thing ≡ t → MeansThing b n l d t → FitsExpr b (name_of n d)
  name_fits d t is m = subst (λ t'. FitsExpr b (elim t' [
    | thing.FileConstant k ↦ bound.Constant (constant_at n.file k d.number)
    | thing.Fixed k is_static ↦ bound.Constant (constant_at n.members k d.number)
    | thing.Variable k ↦ bound.Variable (variable_of n d)
    | thing.Signal k ↦ bound.Signal (channel_of n d)
    | thing.SignalPort direction k ↦ bound.Signal (channel_of n d)
    | thing.Parameter k ↦ bound.Local k d.number
    | thing.Local k ↦ bound.Local k d.number
    | _ ↦ nothing
  ])) (sym is) (at t m)
    where
      at : (t : Thing) → MeansThing b n l d t → FitsExpr b (elim t [
        | thing.FileConstant k ↦ bound.Constant (constant_at n.file k d.number)
        | thing.Fixed k is_static ↦ bound.Constant (constant_at n.members k d.number)
        | thing.Variable k ↦ bound.Variable (variable_of n d)
        | thing.Signal k ↦ bound.Signal (channel_of n d)
        | thing.SignalPort direction k ↦ bound.Signal (channel_of n d)
        | thing.Parameter k ↦ bound.Local k d.number
        | thing.Local k ↦ bound.Local k d.number
        | _ ↦ nothing
      ])
      at (thing.FileConstant k) m = constant_fits b _
      at (thing.Fixed k is_static) m = constant_fits b _
      at (thing.Variable k) m = variable_fits b _ m
      at (thing.Signal k) m = signal_fits b _ k m
      at (thing.SignalPort direction k) m = signal_fits b _ k m
      at (thing.Parameter k) m = local_fits b k _
      at (thing.Local k) m = local_fits b k _
      at _ m = constant_fits b _

  -- an element of an array
  pub array_there : (d : Denotation) (t : Thing) (at : Position) → MayAllBeNoted l (index_notes t at) → MeansThing b n l d t →
      IsSome (variable_kind (slice_get b.variables (variable_of n d)))
  array_there d (thing.Array k) at h m = m
  array_there d (thing.FixedArray k) at h m = m
  array_there d _ at h m = absurd h.0

  -- the call of a thing is one that it has, or none
  pub owned : (t : Thing) (o : Option Method) → (own_method t o ≡ method.Nothing) ⊎ (has_method t (own_method t o) ≡ true)
  owned t None = inl refl
  owned t (Some m) = at (has_method t m) refl
    where
      at : (x : Bool) → has_method t m ≡ x →
          ((if x then m else method.Nothing) ≡ method.Nothing) ⊎ (has_method t (if x then m else method.Nothing) ≡ true)
      at true is = inr is
      at false is = inl refl

  -- a call of a signal or its port
  signal_call : (d : Denotation) (k : Kind) (m : Method) → of_signal k m ≡ true →
      signal_kind (slice_get b.channels (channel_of n d)) ≡ Some k → FitsExpr b (bound_method n d m)
  signal_call d k method.Read h is = signal_fits b _ k is
  signal_call d k method.Event h is = changed_fits b _ k is
  signal_call d k method.Posedge h is = edge_fits b _ k true is h
  signal_call d k method.Negedge h is = edge_fits b _ k false is h
  signal_call d k method.NumAvailable h is = no h
  signal_call d k method.NumFree h is = no h
  signal_call d k method.Nothing h is = constant_fits b _
  signal_call d k method.Write h is = constant_fits b _
  signal_call d k method.NbRead h is = constant_fits b _
  signal_call d k method.NbWrite h is = constant_fits b _

  pub port_call : (dir : Direction) (k : Kind) (m : Method) → of_port dir k m ≡ true → of_signal k m ≡ true
  port_call direction.In k method.Write h = no h
  port_call direction.In k method.Read h = h
  port_call direction.In k method.Event h = h
  port_call direction.In k method.Posedge h = h
  port_call direction.In k method.Negedge h = h
  port_call direction.In k method.NumAvailable h = h
  port_call direction.In k method.NumFree h = h
  port_call direction.In k method.Nothing h = h
  port_call direction.In k method.NbRead h = h
  port_call direction.In k method.NbWrite h = h
  port_call direction.Out k m h = h
  port_call direction.Inout k m h = h

  -- a call of a fifo or its port that takes and puts nothing
  fifo_call : (d : Denotation) (k : Kind) (m : Method) → (m ≡ method.Read → ⊥) → (if is_reading m then true else is_writing m) ≡ true →
      fifo_kind (slice_get b.channels (channel_of n d)) ≡ Some k → FitsExpr b (bound_method n d m)
  fifo_call d k method.Read other h is = absurd (other refl)
  fifo_call d k method.NumAvailable other h is = available_fits b _ k is
  fifo_call d k method.NumFree other h is = free_fits b _ k is
  fifo_call d k method.Event other h is = no h
  fifo_call d k method.Posedge other h is = no h
  fifo_call d k method.Negedge other h is = no h
  fifo_call d k method.Nothing other h is = constant_fits b _
  fifo_call d k method.Write other h is = constant_fits b _
  fifo_call d k method.NbRead other h is = constant_fits b _
  fifo_call d k method.NbWrite other h is = constant_fits b _

  pub reading_call : (m : Method) → is_reading m ≡ true → (if is_reading m then true else is_writing m) ≡ true
  reading_call m h = ap (λ x. if x then true else is_writing m) h

  pub writing_call : (m : Method) → is_writing m ≡ true → (if is_reading m then true else is_writing m) ≡ true
  writing_call m h = elim (is_reading m) as (λ x. (if x then true else is_writing m) ≡ true) [ true ↦ refl | false ↦ h ]

  -- a call without effect is no `read` of a fifo
  no_read : (t : Thing) (m : Method) → is_fifo t ≡ true → has_effect t m ≡ false → m ≡ method.Read → ⊥
  no_read t m fifo none is = no (sym (sym (ap (λ m. has_effect t m) is ∙ fifo) ∙ none))

  -- a call of a thing without effect
  pub quiet_call : (d : Denotation) (t : Thing) (m : Method) → has_effect t m ≡ false → has_method t m ≡ true →
      MeansThing b n l d t → FitsExpr b (bound_method n d m)
  quiet_call d (thing.Signal k) m quiet has mean = signal_call d k m has mean
  quiet_call d (thing.SignalPort dir k) m quiet has mean = signal_call d k m (port_call dir k m has) mean
  quiet_call d (thing.Fifo k) m quiet has mean = fifo_call d k m (no_read (thing.Fifo k) m refl quiet) has mean
  quiet_call d (thing.FifoIn k) m quiet has mean =
      fifo_call d k m (no_read (thing.FifoIn k) m refl quiet) (reading_call m has) mean
  quiet_call d (thing.FifoOut k) m quiet has mean =
      fifo_call d k m (no_read (thing.FifoOut k) m refl quiet) (writing_call m has) mean
  quiet_call d _ m quiet has mean = no has

  -- ---- what is noted of calls

  -- what the notes of a call of a thing tell
  pub record CallNoted (place : CallPlace) (t : Thing) (m : Method) (args : ℕ) (at : Position) : Type 0 where
    pub count : (args == argument_count m) ≡ true
    pub effect : (is_inside place && has_effect t m) ≡ false
    pub wait : MayAllBeNoted l (wait_when (is_blocking t m) at)

  noted_by : (place : CallPlace) (t : Thing) (m : Method) (args : ℕ) (at : Position) → MayAllBeNoted l (
      breach_when (is_used place && gives_nothing m) what.WrongKind at
      ++ breach_when (not (args == argument_count m)) what.WrongCount at
      ++ breach_when (is_inside place && has_effect t m) what.EffectInside at
      ++ wait_when (is_blocking t m) at) → CallNoted place t m args at
  noted_by place t m args at h =
      let used = breach_when (is_used place && gives_nothing m) what.WrongKind at in
      let counted = breach_when (not (args == argument_count m)) what.WrongCount at in
      let inside = breach_when (is_inside place && has_effect t m) what.EffectInside at in
      let waits = wait_when (is_blocking t m) at in
      let h1 = first_noted l (used ++ counted ++ inside) waits h in
      let h2 = first_noted l (used ++ counted) inside h1 in record {
        count = so l _ what.WrongCount at (then_noted l used counted h2);
        effect = not_so l _ what.EffectInside at (then_noted l (used ++ counted) inside h1);
        wait = then_noted l (used ++ counted ++ inside) waits h;
      }

  method_noted : (place : CallPlace) (t : Thing) (m : Method) (args : ℕ) (at : Position) →
      MayAllBeNoted l (method_notes place t m args at) → CallNoted place t m args at
  method_noted place t method.Nothing args at h = absurd h.0
  method_noted place t m args at h = noted_by place t m args at h

  pub member_noted : (place : CallPlace) (t : Thing) (m : Method) (args : ℕ) (at dot : Position) →
      MayAllBeNoted l (member_notes place t m args at dot) → CallNoted place t m args dot
  member_noted place thing.Nothing m args at dot h = absurd h.0
  member_noted place t m args at dot h = method_noted place t m args dot h

  -- a call that is one of the thing's or none
  owned_call : (d : Denotation) (t : Thing) (m : Method) → (m ≡ method.Nothing) ⊎ (has_method t m ≡ true) →
      has_effect t m ≡ false → MeansThing b n l d t → FitsExpr b (bound_method n d m)
  owned_call d t m (inl is) quiet mean = subst (λ m. FitsExpr b (bound_method n d m)) (sym is) (constant_fits b _)
  owned_call d t m (inr has) quiet mean = quiet_call d t m quiet has mean

  -- ---- by induction on the expression

  abbrev pub Good : Checked CheckedExpr → Type 0
  Good c = MayAllBeNoted l c.notes → FitsExpr b (numbered n c.tree)

  abbrev pub Claim : Expr → Type 0
  Claim e = (s : Scope) → Agrees b n l s → Good (expr_of e s)

  -- an expression of which it is shown
  abbrev Shown : Type 0
  Shown = (e : Expr) × Claim e

  pub by_number : (z : CheckedExpr-F CheckedExpr) (t : CheckedExpr) → roll-CheckedExpr z ≡ t →
      FitsExpr b (numbered_step n (map-CheckedExpr CheckedExpr BoundExpr (numbered n) z)) → FitsExpr b (numbered n t)
  unfolding numbered
  by_number z t is h =
      subst (FitsExpr b) (sym (ap (numbered n) (sym is) ∙ fold-roll-CheckedExpr BoundExpr (numbered_step n) z)) h

  at_form : (y : Expr-F Expr) (s : Scope) → Good (expr_step (map-Expr Expr Reading expr_of y) s) → Good (expr_of (roll-Expr y) s)
  unfolding expr_of
  at_form y s h = subst (λ (f : Reading). Good (f s)) (sym (fold-roll-Expr Reading expr_step y)) h

  step : (y : Expr-F Shown) → Claim (roll-Expr (map-Expr Shown Expr (λ e. e.0) y))
  step (layer.Number x) s a =
      at_form (layer.Number x) s (λ h. by_number (form.Number _ x) _ (checked.rolls-Number _ x) (constant_fits b _))
  step (layer.Truth x at) s a =
      at_form (layer.Truth x at) s (λ h. by_number (form.Truth x at) _ (checked.rolls-Truth x at) (constant_fits b _))
  step (layer.Name w) s a =
      at_form (layer.Name w) s (λ h. by_number (form.Name _ (resolved s w)) _ (checked.rolls-Name _ _)
      (name_fits (meaning_of s w.name) _ refl (a w.name)))
  step (layer.Paren at e) s a =
      at_form (layer.Paren at e.0) s (λ h. by_number (form.Paren _ at (expr_of e.0 s).tree) _ (checked.rolls-Paren _ at _)
      (e.1 s a h))
  step (layer.Index w i) s a =
      at_form (layer.Index w i.0) s (λ h.
      let d = meaning_of s w.name in
      let name = index_notes d.thing w.position in
      by_number (form.Index _ (resolved s w) (expr_of i.0 s).tree) _ (checked.rolls-Index _ _ _)
      (element_fits b _ _ (array_there d d.thing w.position (first_noted l name _ h) (a w.name))
      (i.1 s a (then_noted l name _ h))))
  step (layer.Call w es) s a =
      at_form (layer.Call w (map (λ e. e.0) es)) s (λ h.
      by_number (form.Call _ (resolved s w) _) _ (checked.rolls-Call _ _ _) (constant_fits b _))
  step (layer.Member w after None) s a =
      at_form (layer.Member w after None) s (λ h.
      let d = meaning_of s w.name in
      let m = method_of d.thing after.name in
      by_number (form.Member _ (resolved s w) after m None) _ (checked.rolls-Member _ _ after _ None)
      (owned_call d d.thing m (owned d.thing (method_named after.name))
      (member_noted Inside d.thing m 0 w.position after.position
      (first_noted l (member_notes Inside d.thing m 0 w.position after.position) _ h)).effect (a w.name)))
  step (layer.Member w after (Some e)) s a =
      at_form (layer.Member w after (Some e.0)) s (λ h.
      let d = meaning_of s w.name in
      let m = method_of d.thing after.name in
      by_number (form.Member _ (resolved s w) after m (Some (expr_of e.0 s).tree)) _ (checked.rolls-Member _ _ after _ (Some _))
      (owned_call d d.thing m (owned d.thing (method_named after.name))
      (member_noted Inside d.thing m 1 w.position after.position
      (first_noted l (member_notes Inside d.thing m 1 w.position after.position) _ h)).effect (a w.name)))
  step (layer.Prefix at op e) s a =
      at_form (layer.Prefix at op e.0) s (λ h. by_number (form.Prefix _ at op (expr_of e.0 s).tree) _
      (checked.rolls-Prefix _ at op _) (prefixed_fits b op _ (e.1 s a h)))
  step (layer.Cast at t e) s a =
      at_form (layer.Cast at t e.0) s (λ h. by_number (form.Cast _ at t (expr_of e.0 s).tree) _
      (checked.rolls-Cast _ at t _) (convert_fits b _ _ (e.1 s a h)))
  step (layer.Conversion t e) s a =
      at_form (layer.Conversion t e.0) s (λ h. by_number (form.Conversion _ t (expr_of e.0 s).tree) _
      (checked.rolls-Conversion _ t _) (convert_fits b _ _ (e.1 s a h)))
  step (layer.Binary op x y) s a =
      at_form (layer.Binary op x.0 y.0) s (λ h. by_number (form.Binary _ op (expr_of x.0 s).tree (expr_of y.0 s).tree) _
      (checked.rolls-Binary _ op _ _) (operated_fits b op (operator_of op) _ _
      (x.1 s a (first_noted l (expr_of x.0 s).notes _ h)) (y.1 s a (then_noted l (expr_of x.0 s).notes _ h))))
  step (layer.Choose t x y) s a =
      at_form (layer.Choose t.0 x.0 y.0) s (λ h.
      let both = first_noted l ((expr_of t.0 s).notes ++ (expr_of x.0 s).notes) (expr_of y.0 s).notes h in
      by_number (form.Choose _ (expr_of t.0 s).tree (expr_of x.0 s).tree (expr_of y.0 s).tree) _
      (checked.rolls-Choose _ _ _ _) (choose_fits b _ _ _ _
      (t.1 s a (first_noted l (expr_of t.0 s).notes (expr_of x.0 s).notes both))
      (x.1 s a (then_noted l (expr_of t.0 s).notes (expr_of x.0 s).notes both))
      (y.1 s a (then_noted l ((expr_of t.0 s).notes ++ (expr_of x.0 s).notes) (expr_of y.0 s).notes h))))

  -- an expression without breaches fits
  pub expr_fits : (e : Expr) → Claim e
  expr_fits = ind-Expr Claim (λ x y e. subst (λ x. Claim (roll-Expr x)) e (step y))

  -- and expressions one after the other
  pub exprs_fit : (es : List Expr) (s : Scope) → Agrees b n l s → MayAllBeNoted l (all_notes (exprs_of es s)) →
      AllByRecursion (FitsExpr b) (all_numbered n (trees (exprs_of es s)))
  exprs_fit [] s a h = tt
  exprs_fit (e ∷ es) s a h =
      (expr_fits e s a (first_noted l (expr_of e s).notes _ h), exprs_fit es s a (then_noted l (expr_of e s).notes _ h))
