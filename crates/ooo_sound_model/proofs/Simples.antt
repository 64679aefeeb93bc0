-- A simple statement without breaches fits the model, once its names have numbers.
use Rattle.std.proofs.Common.{◌≡◌, ◌∙◌, refl, ap, sym, subst, arith, ℕ, zero, suc, ◌+◌, ◌<◌, ◌≤◌, List, [], ◌∷◌, ◌++◌, length, Bool, true, false, Option, Some, None, ◌⊎◌, inl, inr}
use Rattle.std.specs.Prelude.{IsSome, IsSomeAnd, All, Contains, slice_get, is_some, ◌&&◌, not, ◌==◌, if◌then◌else◌}
use Rattle.std.specs.List.{AllByRecursion}
use Rattle.std.proofs.lemmas.Bool.{eqb-true}
use Rattle.std.proofs.lemmas.List.Elements.{All-from_recursion, All-nil, All-cons}
use Rattle.ooo_lexer.specs.declared.position.Position.{Position}
use Rattle.ooo_time.specs.declared.time.Scale.{Scale}
use Rattle.ooo_value.specs.declared.bound.BoundEvent.{BoundEvent}
use Rattle.ooo_value.specs.declared.kinds.Kind.{Kind}
use Rattle.ooo_value.specs.declared.kinds.Kind.TheVariants as kind
use Rattle.ooo_syntax.specs.declared.leaves.Word.{Word}
use Rattle.ooo_syntax.specs.declared.expr.Expr.{Expr, Expr-F, map-Expr, roll-Expr, out-Expr, roll-out-Expr, fold-roll-Expr}
use Rattle.ooo_syntax.specs.declared.expr.Expr.TheOpen as layer
use Rattle.ooo_syntax.specs.declared.stat.TimeForm.{TimeForm}
use Rattle.ooo_syntax.specs.declared.stat.TimeForm.TheVariants as time
use Rattle.ooo_syntax.specs.declared.stat.Event.{Event}
use Rattle.ooo_syntax.specs.declared.stat.Awaited.{Awaited}
use Rattle.ooo_syntax.specs.declared.stat.Awaited.TheVariants as awaited
use Rattle.ooo_syntax.specs.declared.stat.AssignOp.{AssignOp}
use Rattle.ooo_syntax.specs.declared.stat.AssignOp.TheVariants as assign
use Rattle.ooo_syntax.specs.declared.stat.StepOp.{StepOp}
use Rattle.ooo_syntax.specs.declared.stat.StepOp.TheVariants as step
use Rattle.ooo_syntax.specs.declared.stat.Target.{Target}
use Rattle.ooo_syntax.specs.declared.stat.PrintItem.{PrintItem}
use Rattle.ooo_syntax.specs.declared.stat.PrintItem.TheVariants as item
use Rattle.ooo_syntax.specs.declared.stat.Simple.{Simple}
use Rattle.ooo_syntax.specs.declared.stat.Simple.TheVariants as simple
use Rattle.ooo_code.specs.Sound.{IsOwn, variable_kind, signal_kind, fifo_kind}
use Rattle.ooo_bound.specs.declared.expr.BoundExpr.{BoundExpr}
use Rattle.ooo_bound.specs.declared.expr.BoundExpr.TheVariants as bound
use Rattle.ooo_bound.specs.declared.model.Bound.{Bound}
use Rattle.ooo_bound.specs.declared.model.BoundFunction.{BoundFunction}
use Rattle.ooo_bound.specs.declared.stat.BoundRight.{BoundRight}
use Rattle.ooo_bound.specs.declared.stat.BoundRight.TheVariants as right
use Rattle.ooo_bound.specs.declared.stat.BoundSimple.{BoundSimple}
use Rattle.ooo_bound.specs.declared.stat.BoundSimple.TheVariants as bound_simple
use Rattle.ooo_bound.specs.declared.stat.BoundTarget.{BoundTarget}
use Rattle.ooo_bound.specs.declared.stat.BoundTarget.TheVariants as target
use Rattle.ooo_checked.specs.declared.breach.TypeBreach.TheVariants as what
use Rattle.ooo_checked.specs.declared.denotation.Denotation.{Denotation}
use Rattle.ooo_checked.specs.declared.denotation.Direction.TheVariants as direction
use Rattle.ooo_checked.specs.declared.denotation.EventForm.{EventForm}
use Rattle.ooo_checked.specs.declared.denotation.EventForm.TheVariants as event
use Rattle.ooo_checked.specs.declared.denotation.EventWord.{EventWord}
use Rattle.ooo_checked.specs.declared.denotation.EventWord.TheVariants as word
use Rattle.ooo_checked.specs.declared.denotation.Method.{Method}
use Rattle.ooo_checked.specs.declared.denotation.Method.TheVariants as method
use Rattle.ooo_checked.specs.declared.denotation.Thing.{Thing}
use Rattle.ooo_checked.specs.declared.denotation.Thing.TheVariants as thing
use Rattle.ooo_checked.specs.declared.expr.CheckedExpr.{CheckedExpr, CheckedExpr-F, roll-CheckedExpr, out-CheckedExpr, the_lemmas}
use Rattle.ooo_checked.specs.declared.expr.CheckedExpr.TheOpen as form
use Rattle.ooo_checked.specs.declared.expr.CheckedExpr.TheVariants as checked
use Rattle.ooo_checked.specs.CallPlaces.{is_inside, is_used}
use Rattle.ooo_checked.specs.declared.place.CallPlace.{CallPlace}
use Rattle.ooo_checked.specs.declared.place.CallPlace.TheVariants.{Statement, Whole}
use Rattle.ooo_checked.specs.declared.stat.CheckedTime.{CheckedTime}
use Rattle.ooo_checked.specs.declared.stat.CheckedTime.TheVariants as checked_time
use Rattle.ooo_checked.specs.Exprs.{expr_of, expr_step, exprs_of, option_of, tree_of, resolved, name_notes, index_notes, call_notes, function_notes, member_notes, argument_notes, count_of, right_of, right_step}
use Rattle.ooo_checked.specs.Notes.{Calls, Checked, trees, all_notes, breach_when}
use Rattle.ooo_checked.specs.Scopes.{Scope, meaning_of}
use Rattle.ooo_checked.specs.Stats.{time_of, event_of, events_of, event_meant, event_notes, event_call_notes, is_call_of, awaited_of, target_of, value_of, is_compound, option_notes, item_of, items_of, simple_of, notify_notes}
use Rattle.ooo_checked.specs.Things.{is_assignable, is_bool, is_event, is_known, is_fifo, is_finder, has_method, of_signal, edge_of, own_event, called_event, named_event, event_named, method_named, method_of}
use Rattle.ooo_constants.specs.Times.{is_fixed}
use Rattle.ooo_numbers.specs.Names.{Numbering, known_in, number_in, channel_of, variable_of, function_of, own_event_of, event_by, event_of as event_number, events_of as event_numbers}
use Rattle.ooo_numbers.specs.Exprs.{expr_of as numbered, exprs_of as all_numbered, amount_of, time_of as bound_time, wait_of}
use Rattle.ooo_numbers.specs.Simples.{name_target, place_of, target_of as bound_target, given_step, given_of, given_target, argument_of, member_right, call_of, right_step as bound_right_step, right_of as bound_right, operator_of, assign_of, step_of, member_of, item_of as bound_item, items_of as bound_items, simple_of as bound_simple_of}
use Rattle.ooo_activation.specs.Kinds.{right_waits, may_wait, right_calls, simple_calls}
use Rattle.ooo_activation.specs.Sound.{FitsExpr, FitsTime, FitsWait, FitsTarget, FitsCall, FitsRight, FitsItem, FitsSimple}
use Rattle.ooo_sound_model.specs.Fitting.{EventsFit}
use Rattle.ooo_sound_model.specs.Naming.{Leave, MeansFunction, MeansThing, Agrees, HasEvents, last_event, MayAllBeNoted}
use Rattle.ooo_sound_model.proofs.Notes.{no, first_noted, then_noted, so}
use Rattle.ooo_sound_model.proofs.Exprs.{constant_fits, signal_fits, CallNoted, expr_fits, exprs_fit, array_there, port_call, member_noted, owned, quiet_call}
use Rattle.ooo_sound_model.proofs.Times.{fixed_within}

-- ---- events

-- the thing has events of this form
abbrev has_form : Thing → EventForm → Bool
has_form thing.Event event.Own = true
has_form (thing.Signal k) event.Changed = true
has_form (thing.Signal k) event.Rise = is_bool k
has_form (thing.Signal k) event.Fall = is_bool k
has_form (thing.SignalPort d k) event.Changed = true
has_form (thing.SignalPort d k) event.Rise = is_bool k
has_form (thing.SignalPort d k) event.Fall = is_bool k
has_form (thing.Fifo k) event.Written = true
has_form (thing.Fifo k) event.Taken = true
has_form (thing.FifoIn k) event.Written = true
has_form (thing.FifoIn k) event.Taken = true
has_form (thing.FifoOut k) event.Written = true
has_form (thing.FifoOut k) event.Taken = true
has_form _ _ = false

-- an event that is meant is one that the thing has
abbrev IsHad : Thing → EventForm → Type 0
IsHad t f = is_event f ≡ true → has_form t f ≡ true

edge_had : (k : Kind) (f : EventForm) (t : Thing) → (is_bool k ≡ true → has_form t f ≡ true) → IsHad t (edge_of k f)
edge_had kind.Bool f t h is = h refl
edge_had kind.Int f t h is = no is
edge_had kind.Uint f t h is = no is
edge_had kind.Long f t h is = no is
edge_had kind.Ulong f t h is = no is

own_had : (t : Thing) (w : EventWord) → IsHad t (own_event t w)
own_had (thing.Signal k) word.ValueChangedEvent is = refl
own_had (thing.Signal k) word.DefaultEvent is = refl
own_had (thing.Signal k) word.PosedgeEvent is = edge_had k event.Rise (thing.Signal k) (λ h. h) is
own_had (thing.Signal k) word.NegedgeEvent is = edge_had k event.Fall (thing.Signal k) (λ h. h) is
own_had (thing.Signal k) _ is = no is
own_had (thing.SignalPort d k) word.ValueChangedEvent is = refl
own_had (thing.SignalPort d k) word.DefaultEvent is = refl
own_had (thing.SignalPort d k) word.PosedgeEvent is = edge_had k event.Rise (thing.SignalPort d k) (λ h. h) is
own_had (thing.SignalPort d k) word.NegedgeEvent is = edge_had k event.Fall (thing.SignalPort d k) (λ h. h) is
own_had (thing.SignalPort d k) word.ValueChanged is = refl
own_had (thing.SignalPort d k) word.Pos is = edge_had k event.Rise (thing.SignalPort d k) (λ h. h) is
own_had (thing.SignalPort d k) word.Neg is = edge_had k event.Fall (thing.SignalPort d k) (λ h. h) is
own_had (thing.SignalPort d k) _ is = no is
own_had (thing.Fifo k) word.DataWrittenEvent is = refl
own_had (thing.Fifo k) word.DataReadEvent is = refl
own_had (thing.Fifo k) _ is = no is
own_had (thing.FifoIn k) word.DataWrittenEvent is = refl
own_had (thing.FifoIn k) word.DataWritten is = refl
own_had (thing.FifoIn k) _ is = no is
own_had (thing.FifoOut k) word.DataReadEvent is = refl
own_had (thing.FifoOut k) word.DataRead is = refl
own_had (thing.FifoOut k) _ is = no is
own_had _ w is = no is

unfound_had : (finder : Bool) (t : Thing) (w : EventWord) → IsHad t (if finder then event.Nothing else own_event t w)
unfound_had true t w is = no is
unfound_had false t w is = own_had t w is

called_had : (in_sensitive : Bool) (t : Thing) (o : Option EventWord) → IsHad t (called_event in_sensitive t o)
called_had true t None is = no is
called_had false t None is = no is
called_had true t (Some w) is = own_had t w is
called_had false t (Some w) is = unfound_had (is_finder w) t w is

named_had : (in_sensitive : Bool) (t : Thing) → IsHad t (named_event in_sensitive t)
named_had true thing.Event is = refl
named_had false thing.Event is = refl
named_had true (thing.Signal k) is = refl
named_had true (thing.SignalPort d k) is = refl
named_had true _ is = no is
named_had false _ is = no is

meant_had : (in_sensitive : Bool) (t : Thing) (o : Option Word) → IsHad t (event_meant in_sensitive t o)
meant_had in_sensitive t None is = named_had in_sensitive t is
meant_had in_sensitive t (Some w) is = called_had in_sensitive t (event_named w.name) is

own_within : (xs : List BoundEvent) (i : ℕ) → IsOwn (slice_get xs i) → i < length xs
own_within [] i h = absurd h
own_within (x ∷ xs) zero h = omega arith
own_within (x ∷ xs) (suc i) h = let g = own_within xs i h in omega (arith, g)

module _ (b : Bound) (n : Numbering) (l : Leave) where
  -- what the notes of a name tell
  passes : (t : Thing) (x : Bool) (at : Position) → MayAllBeNoted l (name_notes t x at) → x ≡ true
  passes thing.Nothing x at h = absurd h.0
  passes _ x at h = so l x what.WrongKind at h

  -- ---- what a value is put into

  name_place : (d : Denotation) (t : Thing) → d.thing ≡ t → MeansThing b n l d t → FitsTarget b (name_target n d)
  name_place d t is m = subst (λ t'. FitsTarget b (elim t' [
    | thing.Variable k ↦ target.Variable (variable_of n d)
    | thing.Parameter k ↦ target.Local k d.number
    | thing.Local k ↦ target.Local k d.number
    | thing.Signal k ↦ target.Signal (channel_of n d)
    | thing.SignalPort direction k ↦ target.Signal (channel_of n d)
    | _ ↦ target.Nothing
  ])) (sym is) (at t m)
    where
      at : (t : Thing) → MeansThing b n l d t → FitsTarget b (elim t [
        | thing.Variable k ↦ target.Variable (variable_of n d)
        | thing.Parameter k ↦ target.Local k d.number
        | thing.Local k ↦ target.Local k d.number
        | thing.Signal k ↦ target.Signal (channel_of n d)
        | thing.SignalPort direction k ↦ target.Signal (channel_of n d)
        | _ ↦ target.Nothing
      ])
      at (thing.Variable k) m = m
      at (thing.Signal k) m = subst IsSome (sym m) refl
      at (thing.SignalPort direction k) m = subst IsSome (sym m) refl
      at _ m = tt

  elements_there : (d : Denotation) (t : Thing) (compound : Bool) (at : Position) →
      MayAllBeNoted l (name_notes t (is_assignable t true compound) at) → MeansThing b n l d t →
      IsSome (variable_kind (slice_get b.variables (variable_of n d)))
  elements_there d (thing.Array k) compound at h m = m
  elements_there d (thing.SignalPort direction.In k) compound at h m = absurd h.0
  elements_there d (thing.SignalPort direction.Out k) compound at h m = absurd h.0
  elements_there d (thing.SignalPort direction.Inout k) compound at h m = absurd h.0
  elements_there d _ compound at h m = absurd h.0

  place_good : (compound : Bool) (w : Word) (i : Option Expr) (s : Scope) → Agrees b n l s → let d = meaning_of s w.name in
      MayAllBeNoted l (name_notes d.thing (is_assignable d.thing (is_some i) compound) w.position ++ option_notes (option_of i s)) →
      FitsTarget b (place_of n d (tree_of (option_of i s)))
  place_good compound w None s a h = name_place (meaning_of s w.name) (meaning_of s w.name).thing refl (a w.name)
  place_good compound w (Some e) s a h =
      let d = meaning_of s w.name in
      let name = name_notes d.thing (is_assignable d.thing true compound) w.position in (
        elements_there d d.thing compound w.position (first_noted l name (expr_of e s).notes h) (a w.name),
        expr_fits b n l e s a (then_noted l name (expr_of e s).notes h),
      )

  target_good : (compound : Bool) (t : Target) (s : Scope) → Agrees b n l s → MayAllBeNoted l (target_of compound t s).notes →
      FitsTarget b (bound_target n (target_of compound t s).tree)
  target_good compound t s a h = place_good compound t.name t.index s a h

  -- ---- times, events and waits

  amount_good : (known : Bool) (t : CheckedTime) (e : CheckedExpr) (scale : Scale) → FitsExpr b (numbered n e) →
      FitsTime b (amount_of n known t e scale)
  amount_good true t e scale h = fixed_within (known_in n) t
  amount_good false t e scale h = h

  time_good : (t : TimeForm) (s : Scope) → Agrees b n l s → MayAllBeNoted l (time_of t s).notes → FitsTime b (bound_time n (time_of t s).tree)
  time_good (time.Zero at) s a h = omega arith
  time_good (time.Made at e scale) s a h =
      let t = (expr_of e s).tree in amount_good (is_fixed t) (checked_time.Made at t scale) t scale (expr_fits b n l e s a h)
  time_good (time.Amount e scale) s a h =
      let t = (expr_of e s).tree in amount_good (is_fixed t) (checked_time.Amount t scale) t scale (expr_fits b n l e s a h)

  module _ (ev : HasEvents b n) where
    signal_below : (c : ℕ) (k : Kind) (f : ℕ) → f ≤ last_event k → signal_kind (slice_get b.channels c) ≡ Some k →
        number_in (slice_get n.events c) + f < length b.events
    signal_below c k f h is = let g = ev.signals c k is in omega (arith, h, g)

    fifo_below : (c : ℕ) (k : Kind) (f : ℕ) → f ≤ 1 → fifo_kind (slice_get b.channels c) ≡ Some k →
        number_in (slice_get n.events c) + f < length b.events
    fifo_below c k f h is = let g = ev.fifos c k is in omega (arith, h, g)

    edge_within : (k : Kind) → is_bool k ≡ true → 2 ≤ last_event k
    edge_within kind.Bool h = omega arith
    edge_within kind.Int h = no h
    edge_within kind.Uint h = no h
    edge_within kind.Long h = no h
    edge_within kind.Ulong h = no h

    event_below : (d : Denotation) (t : Thing) (f : EventForm) → has_form t f ≡ true → MeansThing b n l d t →
        event_by n d f < length b.events
    event_below d thing.Event event.Own h m = own_within b.events (own_event_of n d) m
    event_below d (thing.Signal k) event.Changed h m = signal_below (channel_of n d) k 0 (omega arith) m
    event_below d (thing.Signal k) event.Rise h m =
        let e = edge_within k h in signal_below (channel_of n d) k 1 (omega (arith, e)) m
    event_below d (thing.Signal k) event.Fall h m = signal_below (channel_of n d) k 2 (edge_within k h) m
    event_below d (thing.SignalPort x k) event.Changed h m = signal_below (channel_of n d) k 0 (omega arith) m
    event_below d (thing.SignalPort x k) event.Rise h m =
        let e = edge_within k h in signal_below (channel_of n d) k 1 (omega (arith, e)) m
    event_below d (thing.SignalPort x k) event.Fall h m = signal_below (channel_of n d) k 2 (edge_within k h) m
    event_below d (thing.Fifo k) event.Written h m = fifo_below (channel_of n d) k 0 (omega arith) m
    event_below d (thing.Fifo k) event.Taken h m = fifo_below (channel_of n d) k 1 (omega arith) m
    event_below d (thing.FifoIn k) event.Written h m = fifo_below (channel_of n d) k 0 (omega arith) m
    event_below d (thing.FifoIn k) event.Taken h m = fifo_below (channel_of n d) k 1 (omega arith) m
    event_below d (thing.FifoOut k) event.Written h m = fifo_below (channel_of n d) k 0 (omega arith) m
    event_below d (thing.FifoOut k) event.Taken h m = fifo_below (channel_of n d) k 1 (omega arith) m
    event_below d _ _ h m = no h

    call_meant : (known meant call : Bool) (at name : Position) →
        MayAllBeNoted l (if known then event_call_notes meant call at else breach_when true what.UnknownName name) → meant ≡ true
    call_meant true true call at name h = refl
    call_meant true false true at name h = absurd h.0
    call_meant true false false at name h = absurd h.0
    call_meant false meant call at name h = absurd h.0

    meant_there : (in_sensitive : Bool) (w : Word) (o : Option Word) (s : Scope) →
        MayAllBeNoted l (event_notes in_sensitive (resolved s w) o) → is_event (event_meant in_sensitive (meaning_of s w.name).thing o) ≡ true
    meant_there in_sensitive w None s h = passes (meaning_of s w.name).thing _ w.position h
    meant_there in_sensitive w (Some c) s h =
        call_meant (is_known (meaning_of s w.name).thing) _ (is_call_of (meaning_of s w.name).thing c.name) c.position w.position h

    pub event_good : (in_sensitive : Bool) (e : Event) (s : Scope) → Agrees b n l s → MayAllBeNoted l (event_of in_sensitive e s).notes →
        event_number n (event_of in_sensitive e s).tree < length b.events
    event_good in_sensitive e s a h =
        let d = meaning_of s e.name.name in
        event_below d d.thing (event_meant in_sensitive d.thing e.call)
        (meant_had in_sensitive d.thing e.call (meant_there in_sensitive e.name e.call s h)) (a e.name.name)

    abbrev pub Below : ℕ → Type 0
    Below e = e < length b.events

    pub events_good : (in_sensitive : Bool) (es : List Event) (s : Scope) → Agrees b n l s →
        MayAllBeNoted l (all_notes (events_of in_sensitive es s)) → All Below (event_numbers n (trees (events_of in_sensitive es s)))
    events_good in_sensitive [] s a h = All-nil Below
    events_good in_sensitive (e ∷ es) s a h =
        let ns = (event_of in_sensitive e s).notes in
        let ms = all_notes (events_of in_sensitive es s) in
        All-cons Below (event_number n (event_of in_sensitive e s).tree) (event_numbers n (trees (events_of in_sensitive es s)))
        (event_good in_sensitive e s a (first_noted l ns ms h)) (events_good in_sensitive es s a (then_noted l ns ms h))

    wait_good : (w : Awaited) (s : Scope) → Agrees b n l s → MayAllBeNoted l (awaited_of w s).notes → FitsWait b (wait_of n (awaited_of w s).tree)
    wait_good awaited.Sensitive s a h = record { time = tt; events_are = All-nil Below }
    wait_good (awaited.Delay t) s a h = record { time = time_good t s a h; events_are = All-nil Below }
    wait_good (awaited.Until t es) s a h =
        let ns = (time_of t s).notes in
        let ms = all_notes (events_of false es s) in record {
          time = time_good t s a (first_noted l ns ms h);
          events_are = events_good false es s a (then_noted l ns ms h);
        }
    wait_good (awaited.Events es) s a h = record { time = tt; events_are = events_good false es s a h }

  -- ---- what gives a value

  -- it fits, waits only where it may, and calls only what it may call
  pub record GoodRight (r : BoundRight) : Type 0 where
    pub fits : FitsRight b r
    pub waits : right_waits r ≡ true → l.waits ≡ true
    pub calls : AllByRecursion (Contains l.functions) (right_calls r)

  out_roll : (y : CheckedExpr-F CheckedExpr) → out-CheckedExpr (roll-CheckedExpr y) ≡ y
  out_roll y = search the_lemmas

  right_at : (z : CheckedExpr-F CheckedExpr) (t : CheckedExpr) → roll-CheckedExpr z ≡ t → bound_right n t ≡ bound_right_step n z t
  right_at z t is = ap (λ y. bound_right_step n y t) (ap out-CheckedExpr (sym is) ∙ out_roll z)

  given_at : (z : CheckedExpr-F CheckedExpr) (t : CheckedExpr) → roll-CheckedExpr z ≡ t → given_of n t ≡ given_step n z
  given_at z t is = ap (given_step n) (ap out-CheckedExpr (sym is) ∙ out_roll z)

  -- what an expression of a form is checked to be
  tree_at : (y : Expr-F Expr) (e : Expr) (z : CheckedExpr-F CheckedExpr) (s : Scope) → roll-Expr y ≡ e →
      roll-CheckedExpr z ≡ (expr_step (map-Expr Expr (Scope → Checked CheckedExpr) expr_of y) s).tree → roll-CheckedExpr z ≡ (expr_of e s).tree
  unfolding expr_of
  tree_at y e z s of is =
      is ∙ sym (ap (λ (f : Scope → Checked CheckedExpr). (f s).tree)
      (ap expr_of (sym of) ∙ fold-roll-Expr (Scope → Checked CheckedExpr) expr_step y))

  value_good : (t : CheckedExpr) → bound_right n t ≡ right.Value (numbered n t) → FitsExpr b (numbered n t) → GoodRight (bound_right n t)
  value_good t is h = subst GoodRight (sym is) (record { fits = h; waits = λ e. no e; calls = tt })

  -- an expression of a form that is no call
  plain_good : (y : Expr-F Expr) (e : Expr) (z : CheckedExpr-F CheckedExpr) (s : Scope) → roll-Expr y ≡ e →
      roll-CheckedExpr z ≡ (expr_step (map-Expr Expr (Scope → Checked CheckedExpr) expr_of y) s).tree →
      ((t : CheckedExpr) → bound_right_step n z t ≡ right.Value (numbered n t)) → Agrees b n l s → MayAllBeNoted l (expr_of e s).notes →
      GoodRight (bound_right n (expr_of e s).tree)
  plain_good y e z s of is plain a h =
      let t = (expr_of e s).tree in
      value_good t (right_at z t (tree_at y e z s of is) ∙ plain t) (expr_fits b n l e s a h)

  -- what `nb_read` is given
  place_by : (y : Expr-F Expr) (e : Expr) (z : CheckedExpr-F CheckedExpr) (s : Scope) → roll-Expr y ≡ e →
      roll-CheckedExpr z ≡ (expr_step (map-Expr Expr (Scope → Checked CheckedExpr) expr_of y) s).tree →
      FitsTarget b (given_step n z) → FitsTarget b (given_of n (expr_of e s).tree)
  place_by y e z s of is h =
      subst (FitsTarget b) (sym (given_at z (expr_of e s).tree (tree_at y e z s of is))) h

  whole_at : (y : Expr-F Expr) (e : Expr) (s : Scope) → roll-Expr y ≡ e →
      expr_of e s ≡ expr_step (map-Expr Expr (Scope → Checked CheckedExpr) expr_of y) s
  unfolding expr_of
  whole_at y e s of =
      ap (λ (f : Scope → Checked CheckedExpr). f s) (ap expr_of (sym of) ∙ fold-roll-Expr (Scope → Checked CheckedExpr) expr_step y)

  given_by : (y : Expr-F Expr) (e : Expr) (s : Scope) → roll-Expr y ≡ e → Agrees b n l s → MayAllBeNoted l (expr_of e s).notes →
      FitsTarget b (given_of n (expr_of e s).tree)
  given_by (layer.Name w) e s of a h =
      place_by (layer.Name w) e (form.Name _ (resolved s w)) s of (checked.rolls-Name _ _)
      (name_place (meaning_of s w.name) (meaning_of s w.name).thing refl (a w.name))
  given_by (layer.Index w i) e s of a h =
      let d = meaning_of s w.name in
      let name = index_notes d.thing w.position in
      let g : MayAllBeNoted l (name ++ (expr_of i s).notes) =
      subst (λ (c : Checked CheckedExpr). MayAllBeNoted l c.notes) (whole_at (layer.Index w i) e s of) h in
      place_by (layer.Index w i) e (form.Index _ (resolved s w) (expr_of i s).tree) s of (checked.rolls-Index _ _ _) (
        array_there b n l d d.thing w.position (first_noted l name (expr_of i s).notes g) (a w.name),
        expr_fits b n l i s a (then_noted l name (expr_of i s).notes g),
      )
  given_by (layer.Number x) e s of a h = place_by (layer.Number x) e (form.Number _ x) s of (checked.rolls-Number _ x) tt
  given_by (layer.Truth x at) e s of a h = place_by (layer.Truth x at) e (form.Truth x at) s of (checked.rolls-Truth x at) tt
  given_by (layer.Paren at x) e s of a h =
      place_by (layer.Paren at x) e (form.Paren _ at (expr_of x s).tree) s of (checked.rolls-Paren _ at _) tt
  given_by (layer.Call w es) e s of a h =
      place_by (layer.Call w es) e (form.Call _ (resolved s w) _) s of (checked.rolls-Call _ _ _) tt
  given_by (layer.Member w after None) e s of a h =
      place_by (layer.Member w after None) e (form.Member _ (resolved s w) after _ None) s of (checked.rolls-Member _ _ after _ None) tt
  given_by (layer.Member w after (Some x)) e s of a h =
      place_by (layer.Member w after (Some x)) e (form.Member _ (resolved s w) after _ (Some (expr_of x s).tree)) s of
      (checked.rolls-Member _ _ after _ (Some _)) tt
  given_by (layer.Prefix at op x) e s of a h =
      place_by (layer.Prefix at op x) e (form.Prefix _ at op (expr_of x s).tree) s of (checked.rolls-Prefix _ at op _) tt
  given_by (layer.Cast at t x) e s of a h =
      place_by (layer.Cast at t x) e (form.Cast _ at t (expr_of x s).tree) s of (checked.rolls-Cast _ at t _) tt
  given_by (layer.Conversion t x) e s of a h =
      place_by (layer.Conversion t x) e (form.Conversion _ t (expr_of x s).tree) s of (checked.rolls-Conversion _ t _) tt
  given_by (layer.Binary op x y) e s of a h =
      place_by (layer.Binary op x y) e (form.Binary _ op (expr_of x s).tree (expr_of y s).tree) s of (checked.rolls-Binary _ op _ _) tt
  given_by (layer.Choose t x y) e s of a h =
      place_by (layer.Choose t x y) e (form.Choose _ (expr_of t s).tree (expr_of x s).tree (expr_of y s).tree) s of
      (checked.rolls-Choose _ _ _ _) tt

  given_good : (m : Method) (arg : Option Expr) (s : Scope) → Agrees b n l s → MayAllBeNoted l (argument_notes m (option_of arg s)) →
      FitsTarget b (given_target n (tree_of (option_of arg s)))
  given_good m None s a h = tt
  given_good m (Some e) s a h = given_by (out-Expr e) e s (roll-out-Expr e) a (first_noted l (expr_of e s).notes _ h)

  argument_good : (m : Method) (arg : Option Expr) (s : Scope) → Agrees b n l s → MayAllBeNoted l (argument_notes m (option_of arg s)) →
      FitsExpr b (argument_of n (tree_of (option_of arg s)))
  argument_good m None s a h = constant_fits b _
  argument_good m (Some e) s a h = expr_fits b n l e s a (first_noted l (expr_of e s).notes _ h)

  -- ---- calls of functions

  same_count : (es : List Expr) (s : Scope) → length (all_numbered n (trees (exprs_of es s))) ≡ length es
  same_count [] s = refl
  same_count (e ∷ es) s = ap suc (same_count es s)

  and_weaker : (o : Option BoundFunction) (P Q : BoundFunction → Type 0) → ((f : BoundFunction) → P f → Q f) → IsSomeAnd o P → IsSomeAnd o Q
  and_weaker None P Q h g = g
  and_weaker (Some f) P Q h g = h f g

  function_noted : (place : CallPlace) (gives : Option Kind) (params f args : ℕ) (at : Position) →
      MayAllBeNoted l (function_notes place gives params f args at) → (args ≡ params) × Contains l.calls f
  function_noted place gives params f args at h =
      let used = breach_when (is_used place && not (is_some gives)) what.WrongKind at in
      let inside = breach_when (is_inside place) what.EffectInside at in
      let counted = breach_when (not (args == params)) what.WrongCount at in
      let calls = Calls at f ∷ [] in
      let h1 = first_noted l (used ++ inside ++ counted) calls h in
      let h2 = then_noted l (used ++ inside ++ counted) calls h in
      (eqb-true args params (so l (args == params) what.WrongCount at (then_noted l (used ++ inside) counted h1)), h2.0)

  called : (place : CallPlace) (d : Denotation) (t : Thing) → d.thing ≡ t → (args : ℕ) (at : Position) →
      MayAllBeNoted l (call_notes place d args at) → MeansThing b n l d t → MeansFunction b l (function_of n d) args
  called place d t is args at h m = by t (subst (λ t. MayAllBeNoted l (elim t [
    | thing.Nothing ↦ breach_when true what.UnknownName at
    | thing.Function gives params ↦ function_notes place gives params d.number args at
    | _ ↦ breach_when true what.WrongKind at
  ])) is h) m
    where
      by : (t : Thing) → MayAllBeNoted l (elim t [
        | thing.Nothing ↦ breach_when true what.UnknownName at
        | thing.Function gives params ↦ function_notes place gives params d.number args at
        | _ ↦ breach_when true what.WrongKind at
      ]) → MeansThing b n l d t → MeansFunction b l (function_of n d) args
      by (thing.Function gives params) h m =
          let g = function_noted place gives params d.number args at h in
          subst (λ count. MeansFunction b l (function_of n d) count) (sym g.0) (m g.1)
      by _ h m = absurd h.0

  call_good : (place : CallPlace) (d : Denotation) → MeansThing b n l d d.thing → (es : List Expr) (s : Scope) (count : ℕ) (at : Position) →
      count ≡ length es → Agrees b n l s → MayAllBeNoted l (call_notes place d count at ++ all_notes (exprs_of es s)) →
      GoodRight (call_of n d (trees (exprs_of es s)))
  call_good place d m es s count at is a h =
      let notes = call_notes place d count at in
      let others = all_notes (exprs_of es s) in
      let f = called place d d.thing refl count at (first_noted l notes others h) m in
      let args = all_numbered n (trees (exprs_of es s)) in record {
        fits = and_weaker (slice_get b.functions (function_of n d)) (λ function. length function.params ≡ count) (FitsCall b args)
            (λ function g. (
              same_count es s ∙ sym is ∙ sym g,
              All-from_recursion (FitsExpr b) args (exprs_fit b n l es s a (then_noted l notes others h)),
            )) f.takes;
        waits = λ e. no e;
        calls = (f.within, tt);
      }

  checked_count : (es : List Expr) (s : Scope) → length (exprs_of es s) ≡ length es
  checked_count [] s = refl
  checked_count (e ∷ es) s = ap suc (checked_count es s)

  same_args : (arg : Option Expr) (s : Scope) → count_of arg ≡ count_of (option_of arg s)
  same_args None s = refl
  same_args (Some e) s = refl

  -- ---- calls of channels and ports

  fifo_there : (d : Denotation) (t : Thing) (m : Method) → has_method t m ≡ true → ((k : Kind) → of_signal k m ≡ false) →
      MeansThing b n l d t → IsSome (fifo_kind (slice_get b.channels (channel_of n d)))
  fifo_there d (thing.Signal k) m has other mean = no (sym (other k) ∙ has)
  fifo_there d (thing.SignalPort dir k) m has other mean = no (sym (other k) ∙ port_call b n l dir k m has)
  fifo_there d (thing.Fifo k) m has other mean = subst IsSome (sym mean) refl
  fifo_there d (thing.FifoIn k) m has other mean = subst IsSome (sym mean) refl
  fifo_there d (thing.FifoOut k) m has other mean = subst IsSome (sym mean) refl
  fifo_there d _ m has other mean = no has

  pub quiet_good : (e : BoundExpr) → FitsExpr b e → GoodRight (right.Value e)
  quiet_good e h = record { fits = h; waits = λ e. no e; calls = tt }

  read_good : (place : CallPlace) (d : Denotation) (t : Thing) (args : ℕ) (at : Position) → has_method t method.Read ≡ true →
      CallNoted b n l place t method.Read args at → MeansThing b n l d t →
      GoodRight (if is_fifo t then right.Read (channel_of n d) else right.Value (bound.Signal (channel_of n d)))
  read_good place d (thing.Signal k) args at has noted mean = quiet_good _ (signal_fits b (channel_of n d) k mean)
  read_good place d (thing.SignalPort dir k) args at has noted mean = quiet_good _ (signal_fits b (channel_of n d) k mean)
  read_good place d (thing.Fifo k) args at has noted mean =
      record { fits = subst IsSome (sym mean) refl; waits = λ e. noted.wait.0; calls = tt }
  read_good place d (thing.FifoIn k) args at has noted mean =
      record { fits = subst IsSome (sym mean) refl; waits = λ e. noted.wait.0; calls = tt }
  read_good place d (thing.FifoOut k) args at has noted mean = no has
  read_good place d _ args at has noted mean = no has

  has_good : (place : CallPlace) (d : Denotation) (t : Thing) → d.thing ≡ t → (m : Method) (arg : Option Expr) (s : Scope)
      (at : Position) → Agrees b n l s → has_method t m ≡ true → CallNoted b n l place t m (count_of (option_of arg s)) at →
      MayAllBeNoted l (argument_notes m (option_of arg s)) → MeansThing b n l d t →
      GoodRight (member_right n d m (tree_of (option_of arg s)))
  has_good place d t is method.Read arg s at a has noted h mean =
      subst (λ t. GoodRight (if is_fifo t then right.Read (channel_of n d) else right.Value (bound.Signal (channel_of n d)))) (sym is)
      (read_good place d t _ at has noted mean)
  has_good place d t is method.NbRead arg s at a has noted h mean = record {
    fits = (fifo_there d t method.NbRead has (λ k. refl) mean, given_good method.NbRead arg s a h);
    waits = λ e. no e;
    calls = tt;
  }
  has_good place d t is method.NbWrite arg s at a has noted h mean = record {
    fits = (fifo_there d t method.NbWrite has (λ k. refl) mean, argument_good method.NbWrite arg s a h);
    waits = λ e. no e;
    calls = tt;
  }
  has_good place d t is method.Nothing arg s at a has noted h mean = quiet_good _ (constant_fits b _)
  has_good place d t is method.Write arg s at a has noted h mean = quiet_good _ (constant_fits b _)
  has_good place d t is method.Event arg s at a has noted h mean = quiet_good _ (quiet_call b n l d t method.Event refl has mean)
  has_good place d t is method.Posedge arg s at a has noted h mean = quiet_good _ (quiet_call b n l d t method.Posedge refl has mean)
  has_good place d t is method.Negedge arg s at a has noted h mean = quiet_good _ (quiet_call b n l d t method.Negedge refl has mean)
  has_good place d t is method.NumAvailable arg s at a has noted h mean =
      quiet_good _ (quiet_call b n l d t method.NumAvailable refl has mean)
  has_good place d t is method.NumFree arg s at a has noted h mean =
      quiet_good _ (quiet_call b n l d t method.NumFree refl has mean)

  member_good : (place : CallPlace) (d : Denotation) (m : Method) (arg : Option Expr) (s : Scope) (at : Position) → Agrees b n l s →
      (m ≡ method.Nothing) ⊎ (has_method d.thing m ≡ true) → CallNoted b n l place d.thing m (count_of (option_of arg s)) at →
      MayAllBeNoted l (argument_notes m (option_of arg s)) → MeansThing b n l d d.thing →
      GoodRight (member_right n d m (tree_of (option_of arg s)))
  member_good place d m arg s at a (inl is) noted h mean =
      subst (λ m. GoodRight (member_right n d m (tree_of (option_of arg s)))) (sym is) (quiet_good _ (constant_fits b _))
  member_good place d m arg s at a (inr has) noted h mean = has_good place d d.thing refl m arg s at a has noted h mean

  -- ---- whole right sides

  right_form : (y : Expr-F Expr) (e : Expr) (s : Scope) → roll-Expr y ≡ e → Agrees b n l s → MayAllBeNoted l (right_step y e s).notes →
      GoodRight (bound_right n (right_step y e s).tree)
  right_form (layer.Call w es) e s of a h =
      let args = trees (exprs_of es s) in
      subst GoodRight (sym (right_at (form.Call _ (resolved s w) args) _ (checked.rolls-Call _ _ _)))
      (call_good Whole (meaning_of s w.name) (a w.name) es s (length (exprs_of es s)) w.position (checked_count es s) a h)
  right_form (layer.Member w after arg) e s of a h =
      let d = meaning_of s w.name in
      let m = method_of d.thing after.name in
      let notes = member_notes Whole d.thing m (count_of (option_of arg s)) w.position after.position in
      subst GoodRight (sym (right_at (form.Member _ (resolved s w) after m (tree_of (option_of arg s))) _ (checked.rolls-Member _ _ after _ _)))
      (member_good Whole d m arg s after.position a (owned b n l d.thing (method_named after.name))
      (member_noted b n l Whole d.thing m (count_of (option_of arg s)) w.position after.position
      (first_noted l notes (argument_notes m (option_of arg s)) h))
      (then_noted l notes (argument_notes m (option_of arg s)) h) (a w.name))
  right_form (layer.Name w) e s of a h =
      plain_good (layer.Name w) e (form.Name _ (resolved s w)) s of (checked.rolls-Name _ _) (λ t. refl) a h
  right_form (layer.Index w i) e s of a h =
      plain_good (layer.Index w i) e (form.Index _ (resolved s w) (expr_of i s).tree) s of (checked.rolls-Index _ _ _) (λ t. refl) a h
  right_form (layer.Number x) e s of a h =
      plain_good (layer.Number x) e (form.Number _ x) s of (checked.rolls-Number _ x) (λ t. refl) a h
  right_form (layer.Truth x at) e s of a h =
      plain_good (layer.Truth x at) e (form.Truth x at) s of (checked.rolls-Truth x at) (λ t. refl) a h
  right_form (layer.Paren at x) e s of a h =
      plain_good (layer.Paren at x) e (form.Paren _ at (expr_of x s).tree) s of (checked.rolls-Paren _ at _) (λ t. refl) a h
  right_form (layer.Prefix at op x) e s of a h =
      plain_good (layer.Prefix at op x) e (form.Prefix _ at op (expr_of x s).tree) s of (checked.rolls-Prefix _ at op _) (λ t. refl) a h
  right_form (layer.Cast at t x) e s of a h =
      plain_good (layer.Cast at t x) e (form.Cast _ at t (expr_of x s).tree) s of (checked.rolls-Cast _ at t _) (λ t. refl) a h
  right_form (layer.Conversion t x) e s of a h =
      plain_good (layer.Conversion t x) e (form.Conversion _ t (expr_of x s).tree) s of (checked.rolls-Conversion _ t _) (λ t. refl) a h
  right_form (layer.Binary op x y) e s of a h =
      plain_good (layer.Binary op x y) e (form.Binary _ op (expr_of x s).tree (expr_of y s).tree) s of (checked.rolls-Binary _ op _ _)
      (λ t. refl) a h
  right_form (layer.Choose t x y) e s of a h =
      plain_good (layer.Choose t x y) e (form.Choose _ (expr_of t s).tree (expr_of x s).tree (expr_of y s).tree) s of
      (checked.rolls-Choose _ _ _ _) (λ t. refl) a h

  pub right_good : (e : Expr) (s : Scope) → Agrees b n l s → MayAllBeNoted l (right_of e s).notes → GoodRight (bound_right n (right_of e s).tree)
  right_good e s a h = right_form (out-Expr e) e s (roll-out-Expr e) a h

  -- ---- simple statements

  pub record GoodSimple (x : BoundSimple) : Type 0 where
    pub fits : FitsSimple b x
    pub waits : may_wait x ≡ true → l.waits ≡ true
    pub calls : AllByRecursion (Contains l.functions) (simple_calls x)

  pub assign_good : (t : BoundTarget) (r : BoundRight) → FitsTarget b t → GoodRight r → GoodSimple (bound_simple.Assign t r)
  assign_good t r h g = record { fits = (h, g.fits); waits = g.waits; calls = g.calls }

  still_good : (x : BoundSimple) → FitsSimple b x → may_wait x ≡ false → simple_calls x ≡ [] → GoodSimple x
  still_good x h quiet none = record {
    fits = h;
    waits = λ e. no (sym quiet ∙ e);
    calls = subst (AllByRecursion (Contains l.functions)) (sym none) tt;
  }

  -- an assignment, whose right side is a whole one where its sign is `=`
  op_good : (op : AssignOp) (t : Target) (e : Expr) (s : Scope) → Agrees b n l s →
      MayAllBeNoted l ((target_of (is_compound op) t s).notes ++ (value_of (is_compound op) e s).notes) →
      GoodSimple (assign_of n (bound_target n (target_of (is_compound op) t s).tree) (operator_of op) (value_of (is_compound op) e s).tree)
  op_good assign.Set t e s a h =
      let ns = (target_of false t s).notes in
      assign_good _ _ (target_good false t s a (first_noted l ns (right_of e s).notes h))
      (right_good e s a (then_noted l ns (right_of e s).notes h))
  op_good _ t e s a h =
      let ns = (target_of true t s).notes in
      still_good _ (target_good true t s a (first_noted l ns (expr_of e s).notes h), expr_fits b n l e s a (then_noted l ns (expr_of e s).notes h))
      refl refl

  steps_good : (t : Target) (op : StepOp) (s : Scope) → Agrees b n l s → MayAllBeNoted l (target_of true t s).notes →
      GoodSimple (step_of n (target_of true t s).tree op)
  steps_good t step.Up s a h = still_good _ (target_good true t s a h, constant_fits b _) refl refl
  steps_good t step.Down s a h = still_good _ (target_good true t s a h, constant_fits b _) refl refl

  writes_good : (d : Denotation) (t : Thing) (args : ℕ) (at : Position) (e : BoundExpr) → FitsExpr b e → has_method t method.Write ≡ true →
      CallNoted b n l Statement t method.Write args at → MeansThing b n l d t →
      GoodSimple (if is_fifo t then bound_simple.Write (channel_of n d) e else bound_simple.Assign (target.Signal (channel_of n d)) (right.Value e))
  writes_good d (thing.Signal k) args at e h has noted mean = assign_good _ _ (subst IsSome (sym mean) refl) (quiet_good e h)
  writes_good d (thing.SignalPort dir k) args at e h has noted mean = assign_good _ _ (subst IsSome (sym mean) refl) (quiet_good e h)
  writes_good d (thing.Fifo k) args at e h has noted mean =
      record { fits = (subst IsSome (sym mean) refl, h); waits = λ e. noted.wait.0; calls = tt }
  writes_good d (thing.FifoIn k) args at e h has noted mean = no has
  writes_good d (thing.FifoOut k) args at e h has noted mean =
      record { fits = (subst IsSome (sym mean) refl, h); waits = λ e. noted.wait.0; calls = tt }
  writes_good d _ args at e h has noted mean = no has

  write_good : (d : Denotation) (t : Thing) → d.thing ≡ t → (args : ℕ) (at : Position) (e : BoundExpr) → FitsExpr b e →
      has_method t method.Write ≡ true → CallNoted b n l Statement t method.Write args at → MeansThing b n l d t →
      GoodSimple (if is_fifo d.thing then bound_simple.Write (channel_of n d) e
      else bound_simple.Assign (target.Signal (channel_of n d)) (right.Value e))
  write_good d t is args at e h has noted mean =
      subst (λ t. GoodSimple (if is_fifo t then bound_simple.Write (channel_of n d) e
      else bound_simple.Assign (target.Signal (channel_of n d)) (right.Value e))) (sym is) (writes_good d t args at e h has noted mean)

  member_stat_good : (d : Denotation) (m : Method) (arg : Option Expr) (s : Scope) (at : Position) → Agrees b n l s →
      (m ≡ method.Nothing) ⊎ (has_method d.thing m ≡ true) → CallNoted b n l Statement d.thing m (count_of (option_of arg s)) at →
      MayAllBeNoted l (argument_notes m (option_of arg s)) → MeansThing b n l d d.thing →
      GoodSimple (member_of n d m (tree_of (option_of arg s)))
  member_stat_good d method.Write arg s at a (inl is) noted h mean = absurd cc
  member_stat_good d method.Write arg s at a (inr has) noted h mean =
      write_good d d.thing refl _ at _ (argument_good method.Write arg s a h) has noted mean
  member_stat_good d _ arg s at a owned noted h mean =
      assign_good target.Nothing _ tt (member_good Statement d _ arg s at a owned noted h mean)

  one_item : (x : PrintItem) (s : Scope) → Agrees b n l s → MayAllBeNoted l (item_of x s).notes → FitsItem b (bound_item n (item_of x s).tree)
  one_item (item.Value e) s a h = expr_fits b n l e s a h
  one_item (item.Text t) s a h = tt
  one_item (item.Line at) s a h = tt
  one_item (item.TimeStamp at) s a h = tt

  items_good : (xs : List PrintItem) (s : Scope) → Agrees b n l s → MayAllBeNoted l (all_notes (items_of xs s)) →
      All (FitsItem b) (bound_items n (trees (items_of xs s)))
  items_good [] s a h = All-nil (FitsItem b)
  items_good (x ∷ xs) s a h =
      let ns = (item_of x s).notes in
      let ms = all_notes (items_of xs s) in
      All-cons (FitsItem b) (bound_item n (item_of x s).tree) (bound_items n (trees (items_of xs s)))
      (one_item x s a (first_noted l ns ms h)) (items_good xs s a (then_noted l ns ms h))

  own_there : (d : Denotation) (t : Thing) (at dot : Position) → MayAllBeNoted l (notify_notes t at dot) → MeansThing b n l d t →
      IsOwn (slice_get b.events (own_event_of n d))
  own_there d thing.Event at dot h mean = mean
  own_there d _ at dot h mean = absurd h.0

  module _ (ev : HasEvents b n) where
    pub simple_good : (x : Simple) (s : Scope) → Agrees b n l s → MayAllBeNoted l (simple_of x s).notes →
        GoodSimple (bound_simple_of n (simple_of x s).tree)
    simple_good (simple.Assign t op e) s a h = op_good op t e s a h
    simple_good (simple.StepAfter t op) s a h = steps_good t op s a h
    simple_good (simple.StepBefore at op t) s a h = steps_good t op s a h
    simple_good (simple.Call w es) s a h =
        assign_good target.Nothing _ tt (call_good Statement (meaning_of s w.name) (a w.name) es s (length es) w.position refl a h)
    simple_good (simple.Member w after arg) s a h =
        let d = meaning_of s w.name in
        let m = method_of d.thing after.name in
        let notes = member_notes Statement d.thing m (count_of (option_of arg s)) w.position after.position in
        let others = argument_notes m (option_of arg s) in
        let g : MayAllBeNoted l (notes ++ others) =
        subst (λ count. MayAllBeNoted l (member_notes Statement d.thing m count w.position after.position ++ others)) (same_args arg s) h in
        member_stat_good d m arg s after.position a (owned b n l d.thing (method_named after.name))
        (member_noted b n l Statement d.thing m (count_of (option_of arg s)) w.position after.position (first_noted l notes others g))
        (then_noted l notes others g) (a w.name)
    simple_good (simple.Notify w dot t) s a h =
        let d = meaning_of s w.name in
        let ns = notify_notes d.thing w.position dot in
        still_good _ (
          own_there d d.thing w.position dot (first_noted l ns (time_of t s).notes h) (a w.name),
          time_good t s a (then_noted l ns (time_of t s).notes h),
        ) refl refl
    simple_good (simple.Cancel w dot) s a h =
        let d = meaning_of s w.name in still_good _ (own_there d d.thing w.position dot h (a w.name)) refl refl
    simple_good (simple.Wait at w) s a h = record { fits = wait_good ev w s a h.1; waits = λ e. h.0; calls = tt }
    simple_good (simple.NextTrigger at w) s a h = still_good _ (wait_good ev w s a h.1) refl refl
    simple_good (simple.Stop at) s a h = still_good bound_simple.Stop tt refl refl
    simple_good (simple.Print at xs) s a h = still_good _ (items_good xs s a h) refl refl

pub events_fit : EventsFit
events_fit b n l s in_sensitive es ev a h = events_good b n l ev in_sensitive es s a h
