-- A body that fits a model touches only channels that are there.
use Rattle.std.proofs.Common.{◌≡◌, refl, sym, subst, ℕ, zero, suc, ◌<◌, List, [], ◌∷◌, ◌++◌, map, length, Option, Some, None}
use Rattle.std.specs.Prelude.{All, IsSome, IfSome, IsSomeAnd, option_map, slice_get, ⊤}
use Rattle.std.specs.List.{AllByRecursion}
use Rattle.std.proofs.lemmas.List.Elements.{All-from_recursion, recursion_from_All, All-contains}
use Rattle.std.proofs.lemmas.Option.{slice_get_within, get_or_from_slice_get}
use Rattle.ooo_lemmas.proofs.Each.{of_both, first_part, then_part}
use Rattle.ooo_value.specs.declared.bound.BoundChannel.{BoundChannel}
use Rattle.ooo_value.specs.declared.bound.BoundEvent.{BoundEvent}
use Rattle.ooo_value.specs.declared.kinds.Kind.{Kind}
use Rattle.ooo_code.specs.Sound.{Typed, if_typed, fifo_kind, signal_kind, of_two}
use Rattle.ooo_code.specs.Touches.{Touch, WritesSignal, HoldsReading, HoldsWriting, notified_next, numbers_where, is_of_signal, is_data_written, is_data_read}
use Rattle.ooo_bound.specs.declared.expr.BoundExpr.{BoundExpr, BoundExpr-F, map-BoundExpr, roll-BoundExpr, fold-roll-BoundExpr, ind-BoundExpr}
use Rattle.ooo_bound.specs.declared.expr.BoundExpr.TheOpen as layer
use Rattle.ooo_bound.specs.declared.expr.BoundTime.{BoundTime}
use Rattle.ooo_bound.specs.declared.expr.BoundTime.TheVariants as time
use Rattle.ooo_bound.specs.declared.model.Bound.{Bound}
use Rattle.ooo_bound.specs.declared.model.BoundFunction.{BoundFunction}
use Rattle.ooo_bound.specs.declared.stat.BoundItem.{BoundItem}
use Rattle.ooo_bound.specs.declared.stat.BoundItem.TheVariants as item
use Rattle.ooo_bound.specs.declared.stat.BoundRight.{BoundRight}
use Rattle.ooo_bound.specs.declared.stat.BoundRight.TheVariants as right
use Rattle.ooo_bound.specs.declared.stat.BoundSimple.{BoundSimple}
use Rattle.ooo_bound.specs.declared.stat.BoundSimple.TheVariants as simple
use Rattle.ooo_bound.specs.declared.stat.BoundStat.{BoundStat, BoundStat-F, map-BoundStat, roll-BoundStat, fold-roll-BoundStat, ind-BoundStat}
use Rattle.ooo_bound.specs.declared.stat.BoundStat.TheOpen as stat
use Rattle.ooo_bound.specs.declared.stat.BoundTarget.{BoundTarget}
use Rattle.ooo_bound.specs.declared.stat.BoundTarget.TheVariants as target
use Rattle.ooo_bound.specs.declared.stat.LinedSimple.{LinedSimple}
use Rattle.ooo_activation.specs.Kinds.{expression_kind, kind_step, joined, list_of, simples_step, simples_of, simples_in, values_step, values_of, values_in}
use Rattle.ooo_activation.specs.Sound.{FitsExpr, FitsTime, FitsTarget, FitsCall, FitsRight, FitsItem, FitsSimple, FitsBody, FitsFunction, FitsProcess, Uses}
use Rattle.ooo_activation.specs.Touches.{Touched, Called, Callees, reads_step, reads_of, option_reads, arguments_read, time_reads, wait_reads, target_touches, target_reads, take_touches, put_touches, call_touches, right_touches, item_reads, items_read, simple_touches, simples_touch, after_touches, all_touch, touches_step, touches_of, body_touches, called_by, callees_within, process_touches}
use Rattle.ooo_sound_model.specs.Ends.{EndsAreThere, EndsOfOne}

-- ---- lists and options

first_typed : (a c : Typed) → IsSome (if_typed a c) → IsSome a
first_typed None c h = absurd cc
first_typed (Some k) c h = refl

then_typed : (a c : Typed) → IsSome (if_typed a c) → IsSome c
then_typed None c h = absurd cc
then_typed (Some k) c h = h

mapped_typed : (f : Kind → Kind) (a : Typed) → IsSome (option_map f a) → IsSome a
mapped_typed f None h = absurd cc
mapped_typed f (Some k) h = refl

first_of_two : (f : Kind → Kind → Kind) (a c : Typed) → IsSome (of_two f a c) → IsSome a
first_of_two f None c h = absurd cc
first_of_two f (Some j) c h = refl

then_of_two : (f : Kind → Kind → Kind) (a c : Typed) → IsSome (of_two f a c) → IsSome c
then_of_two f None c h = absurd cc
then_of_two f (Some j) None h = absurd cc
then_of_two f (Some j) (Some k) h = refl

fifo_within : (cs : List BoundChannel) (c : ℕ) → IsSome (fifo_kind (slice_get cs c)) → c < length cs
fifo_within cs c h = at (slice_get cs c) refl h
  where
    at : (o : Option BoundChannel) → slice_get cs c ≡ o → IsSome (fifo_kind o) → c < length cs
    at None of h = absurd cc
    at (Some d) of h = slice_get_within cs c d of

signal_within : (cs : List BoundChannel) (c : ℕ) → IsSome (signal_kind (slice_get cs c)) → c < length cs
signal_within cs c h = at (slice_get cs c) refl h
  where
    at : (o : Option BoundChannel) → slice_get cs c ≡ o → IsSome (signal_kind o) → c < length cs
    at None of h = absurd cc
    at (Some d) of h = slice_get_within cs c d of

module _ (b : Bound) where
  -- the end of a channel that is touched is one of the model
  abbrev IsThere : Touch → Type 0
  IsThere (WritesSignal c) = c < length b.channels
  IsThere (HoldsReading c) = c < length b.channels
  IsThere (HoldsWriting c) = c < length b.channels
  IsThere _ = ⊤

  abbrev AreThere : Touched → Type 0
  AreThere ts = AllByRecursion IsThere ts

  both : (ts us : Touched) → AreThere ts → AreThere us → AreThere (ts ++ us)
  both ts us h g = of_both IsThere ts us h g

  notified_there : (es : List ℕ) → AreThere (notified_next es)
  notified_there [] = tt
  notified_there (e ∷ es) = (tt, notified_there es)

  -- ---- expressions

  abbrev ReadsThere : BoundExpr → Type 0
  ReadsThere e = FitsExpr b e → AreThere (reads_of e)

  abbrev ShownExpr : Type 0
  ShownExpr = (e : BoundExpr) × ReadsThere e

  expr_form : (y : BoundExpr-F BoundExpr) →
      (IsSome (kind_step b (map-BoundExpr BoundExpr Typed (expression_kind b) y)) → AreThere (reads_step (map-BoundExpr BoundExpr Touched reads_of y))) →
      ReadsThere (roll-BoundExpr y)
  unfolding expression_kind reads_of
  expr_form y h fits =
      subst AreThere (sym (fold-roll-BoundExpr Touched reads_step y)) (h (subst IsSome (fold-roll-BoundExpr Typed (kind_step b) y) fits))

  step : (y : BoundExpr-F ShownExpr) → ReadsThere (roll-BoundExpr (map-BoundExpr ShownExpr BoundExpr (λ e. e.0) y))
  step (layer.Constant v) = expr_form (layer.Constant v) (λ h. tt)
  step (layer.Local k n) = expr_form (layer.Local k n) (λ h. tt)
  step (layer.Variable x) = expr_form (layer.Variable x) (λ h. (tt, tt))
  step (layer.Element x i) = expr_form (layer.Element x i.0) (λ h. (tt, i.1 (first_typed _ _ h)))
  step (layer.Signal c) = expr_form (layer.Signal c) (λ h. (tt, tt))
  step (layer.Changed c) = expr_form (layer.Changed c) (λ h. (tt, tt))
  step (layer.Edge c up) = expr_form (layer.Edge c up) (λ h. (tt, tt))
  step (layer.Available c) = expr_form (layer.Available c) (λ h. (fifo_within b.channels c (first_typed _ _ h), tt))
  step (layer.Free c) = expr_form (layer.Free c) (λ h. (fifo_within b.channels c (first_typed _ _ h), tt))
  step (layer.Convert k e) = expr_form (layer.Convert k e.0) (λ h. e.1 (first_typed _ _ h))
  step (layer.Promote e) = expr_form (layer.Promote e.0) (λ h. e.1 (mapped_typed _ _ h))
  step (layer.Negate e) = expr_form (layer.Negate e.0) (λ h. e.1 (mapped_typed _ _ h))
  step (layer.Invert e) = expr_form (layer.Invert e.0) (λ h. e.1 (mapped_typed _ _ h))
  step (layer.Not e) = expr_form (layer.Not e.0) (λ h. e.1 (first_typed _ _ h))
  step (layer.Binary op x y) =
      expr_form (layer.Binary op x.0 y.0) (λ h. both (reads_of x.0) (reads_of y.0) (x.1 (first_of_two _ _ _ h)) (y.1 (then_of_two _ _ _ h)))
  step (layer.Both x y) =
      expr_form (layer.Both x.0 y.0) (λ h. both (reads_of x.0) (reads_of y.0) (x.1 (first_typed _ _ h)) (y.1 (first_typed _ _ (then_typed _ _ h))))
  step (layer.Either x y) =
      expr_form (layer.Either x.0 y.0) (λ h. both (reads_of x.0) (reads_of y.0) (x.1 (first_typed _ _ h)) (y.1 (first_typed _ _ (then_typed _ _ h))))
  step (layer.Choose k c x y) =
      let first : Typed = expression_kind b c.0 in
      let then : Typed = expression_kind b x.0 in
      let other : Typed = expression_kind b y.0 in
      let rest : Typed = if_typed other (Some k) in
      expr_form (layer.Choose k c.0 x.0 y.0) (λ h.
      both (reads_of c.0 ++ reads_of x.0) (reads_of y.0)
      (both (reads_of c.0) (reads_of x.0) (c.1 (first_typed first (if_typed then rest) h))
      (x.1 (first_typed then rest (then_typed first (if_typed then rest) h))))
      (y.1 (first_typed other (Some k) (then_typed then rest (then_typed first (if_typed then rest) h)))))

  expr_there : (e : BoundExpr) → ReadsThere e
  expr_there = ind-BoundExpr ReadsThere (λ x y e. subst (λ x. ReadsThere (roll-BoundExpr x)) e (step y))

  arguments : {A : Type 0} (ks : List A) (es : List BoundExpr) → AllByRecursion (FitsExpr b) es → AreThere (arguments_read ks es)
  arguments [] es h = tt
  arguments (k ∷ ks) [] h = tt
  arguments (k ∷ ks) (e ∷ es) h = both (reads_of e) (arguments_read ks es) (expr_there e h.0) (arguments ks es h.1)

  option_there : (o : Option BoundExpr) → AllByRecursion (FitsExpr b) (list_of o) → AreThere (option_reads o)
  option_there None h = tt
  option_there (Some e) h = expr_there e h.0

  time_there : (t : BoundTime) → FitsTime b t → AreThere (time_reads t)
  time_there (time.Fixed t) h = tt
  time_there (time.Amount e scale) h = expr_there e h

  wait_there : (o : Option BoundTime) → IfSome o (FitsTime b) → AreThere (wait_reads o)
  wait_there None h = tt
  wait_there (Some t) h = time_there t h

  item_there : (x : BoundItem) → FitsItem b x → AreThere (item_reads x)
  item_there (item.Value e) h = expr_there e h
  item_there (item.Text t) h = tt
  item_there item.Time h = tt

  items_there : (xs : List BoundItem) → AllByRecursion (FitsItem b) xs → AreThere (items_read xs)
  items_there [] h = tt
  items_there (x ∷ xs) h = both (item_reads x) (items_read xs) (item_there x h.0) (items_there xs h.1)

  -- ---- simple statements

  target_there : (events : List BoundEvent) (t : BoundTarget) → FitsTarget b t → AreThere (target_touches events t)
  target_there events target.Nothing h = tt
  target_there events (target.Local k n) h = tt
  target_there events (target.Variable x) h = (tt, tt)
  target_there events (target.Element x i) h = (tt, expr_there i h.1)
  target_there events (target.Signal c) h = (signal_within b.channels c h, notified_there (numbers_where (is_of_signal c) 0 events))

  target_read : (t : BoundTarget) → AreThere (target_reads t)
  target_read target.Nothing = tt
  target_read (target.Local k n) = tt
  target_read (target.Variable x) = (tt, tt)
  target_read (target.Element x i) = (tt, tt)
  target_read (target.Signal c) = (tt, tt)

  takes_there : (events : List BoundEvent) (c : ℕ) → IsSome (fifo_kind (slice_get b.channels c)) → AreThere (take_touches events c)
  takes_there events c h = (fifo_within b.channels c h, notified_there (numbers_where (is_data_read c) 0 events))

  puts_there : (events : List BoundEvent) (c : ℕ) → IsSome (fifo_kind (slice_get b.channels c)) → AreThere (put_touches events c)
  puts_there events c h = (fifo_within b.channels c h, notified_there (numbers_where (is_data_written c) 0 events))

  -- the functions that may be called
  module _ (events : List BoundEvent) (callees : Callees)
      (known : (g : ℕ) (f : Called) → callees g ≡ Some f → AreThere f.touched) where
    args_fit : (args : List BoundExpr) (o : Option BoundFunction) → IsSomeAnd o (FitsCall b args) → AllByRecursion (FitsExpr b) args
    args_fit args None h = absurd h
    args_fit args (Some f) h = recursion_from_All (FitsExpr b) args h.1

    call_there : (g : ℕ) (args : List BoundExpr) → AllByRecursion (FitsExpr b) args → (o : Option Called) → callees g ≡ o →
        AreThere (call_touches o args)
    call_there g args h None is = tt
    call_there g args h (Some f) is = both (arguments_read f.function.params args) f.touched (arguments f.function.params args h) (known g f is)

    right_there : (r : BoundRight) → FitsRight b r → AreThere (right_touches events callees r)
    right_there (right.Value e) h = expr_there e h
    right_there (right.Call f args) h = call_there f args (args_fit args (slice_get b.functions f) h) (callees f) refl
    right_there (right.Read c) h = takes_there events c h
    right_there (right.NbRead c t) h = both (take_touches events c) (target_touches events t) (takes_there events c h.0) (target_there events t h.1)
    right_there (right.NbWrite c e) h = both (reads_of e) (put_touches events c) (expr_there e h.1) (puts_there events c h.0)

    simple_there : (x : BoundSimple) → FitsSimple b x → AreThere (simple_touches events callees x)
    simple_there (simple.Assign t r) h =
        both (right_touches events callees r) (target_touches events t) (right_there r h.1) (target_there events t h.0)
    simple_there (simple.Update t o e) h =
        both (reads_of e ++ target_reads t) (target_touches events t) (both (reads_of e) (target_reads t) (expr_there e h.1) (target_read t))
        (target_there events t h.0)
    simple_there (simple.Write c e) h = both (reads_of e) (put_touches events c) (expr_there e h.1) (puts_there events c h.0)
    simple_there (simple.Notify e t) h = (tt, time_there t h.1)
    simple_there (simple.Cancel e) h = (tt, tt)
    simple_there (simple.Wait w) h = wait_there w.time h.time
    simple_there (simple.NextTrigger w) h = wait_there w.time h.time
    simple_there simple.Stop h = tt
    simple_there (simple.Print xs) h = items_there xs (recursion_from_All (FitsItem b) xs h)

    abbrev AllFit : List LinedSimple → Type 0
    AllFit xs = AllByRecursion (λ x. FitsSimple b x.simple) xs

    abbrev ValuesFit : List BoundExpr → Type 0
    ValuesFit es = AllByRecursion (FitsExpr b) es

    lined_there : (xs : List LinedSimple) → AllFit xs → AreThere (simples_touch events callees xs)
    lined_there [] h = tt
    lined_there (x ∷ xs) h =
        both (simple_touches events callees x.simple) (simples_touch events callees xs) (simple_there x.simple h.0) (lined_there xs h.1)

    after_there : (o : Option LinedSimple) → AllFit (list_of o) → AreThere (after_touches events callees o)
    after_there None h = tt
    after_there (Some x) h = simple_there x.simple h.0

    -- ---- statements

    abbrev Claim : BoundStat → Type 0
    Claim x = AllFit (simples_of x) → ValuesFit (values_of x) → AreThere (touches_of events callees x)

    abbrev Shown : Type 0
    Shown = (x : BoundStat) × Claim x

    stat_form : (y : BoundStat-F BoundStat) →
        (AllFit (simples_step (map-BoundStat BoundStat (List LinedSimple) simples_of y)) →
        ValuesFit (values_step (map-BoundStat BoundStat (List BoundExpr) values_of y)) →
        AreThere (touches_step events callees (map-BoundStat BoundStat Touched (touches_of events callees) y))) → Claim (roll-BoundStat y)
    unfolding touches_of simples_of values_of
    stat_form y h simples values =
        subst AreThere (sym (fold-roll-BoundStat Touched (touches_step events callees) y))
        (h (subst AllFit (fold-roll-BoundStat (List LinedSimple) simples_step y) simples)
        (subst ValuesFit (fold-roll-BoundStat (List BoundExpr) values_step y) values))

    parts_there : (xs : List Shown) → let ys : List BoundStat = map (λ x. x.0) xs in AllFit (joined (map simples_of ys)) →
        ValuesFit (joined (map values_of ys)) → AreThere (all_touch (map (touches_of events callees) ys))
    parts_there [] s v = tt
    parts_there (x ∷ xs) s v =
        let ys : List BoundStat = map (λ x. x.0) xs in
        both (touches_of events callees x.0) (all_touch (map (touches_of events callees) ys))
        (x.1 (first_part _ (simples_of x.0) (joined (map simples_of ys)) s) (first_part _ (values_of x.0) (joined (map values_of ys)) v))
        (parts_there xs (then_part _ (simples_of x.0) (joined (map simples_of ys)) s) (then_part _ (values_of x.0) (joined (map values_of ys)) v))

    stat_steps : (y : BoundStat-F Shown) → Claim (roll-BoundStat (map-BoundStat Shown BoundStat (λ x. x.0) y))
    stat_steps (stat.Block xs) = stat_form (stat.Block (map (λ x. x.0) xs)) (λ s v. parts_there xs s v)
    stat_steps (stat.Simple x) = stat_form (stat.Simple x) (λ s v. simple_there x.simple s.0)
    stat_steps (stat.If line e x None) = stat_form (stat.If line e x.0 None) (λ s v.
        both (reads_of e ++ touches_of events callees x.0) []
        (both (reads_of e) (touches_of events callees x.0) (expr_there e v.0)
        (x.1 (first_part _ (simples_of x.0) [] s) (first_part _ (values_of x.0) [] v.1))) tt)
    stat_steps (stat.If line e x (Some y)) = stat_form (stat.If line e x.0 (Some y.0)) (λ s v.
        both (reads_of e ++ touches_of events callees x.0) (touches_of events callees y.0)
        (both (reads_of e) (touches_of events callees x.0) (expr_there e v.0)
        (x.1 (first_part _ (simples_of x.0) (simples_of y.0) s) (first_part _ (values_of x.0) (values_of y.0) v.1)))
        (y.1 (then_part _ (simples_of x.0) (simples_of y.0) s) (then_part _ (values_of x.0) (values_of y.0) v.1)))
    stat_steps (stat.While line e x) = stat_form (stat.While line e x.0) (λ s v.
        both (reads_of e) (touches_of events callees x.0) (expr_there e v.0) (x.1 s v.1))
    stat_steps (stat.Do line x e) = stat_form (stat.Do line x.0 e) (λ s v.
        both (touches_of events callees x.0) (reads_of e) (x.1 s (first_part _ (values_of x.0) (e ∷ []) v))
        (expr_there e ((then_part _ (values_of x.0) (e ∷ []) v).0)))
    stat_steps (stat.For line begin e after x) = stat_form (stat.For line begin e after x.0) (λ s v.
        let ts = simples_touch events callees begin in
        let us = after_touches events callees after in
        let head = first_part _ (begin ++ list_of after) (simples_of x.0) s in
        both (ts ++ us ++ option_reads e) (touches_of events callees x.0)
        (both (ts ++ us) (option_reads e)
        (both ts us (lined_there begin (first_part _ begin (list_of after) head)) (after_there after (then_part _ begin (list_of after) head)))
        (option_there e (first_part _ (list_of e) (values_of x.0) v)))
        (x.1 (then_part _ (begin ++ list_of after) (simples_of x.0) s) (then_part _ (list_of e) (values_of x.0) v)))
    stat_steps (stat.Break line) = stat_form (stat.Break line) (λ s v. tt)
    stat_steps (stat.Continue line) = stat_form (stat.Continue line) (λ s v. tt)
    stat_steps (stat.Return line e) = stat_form (stat.Return line e) (λ s v. option_there e v)

    stat_there : (x : BoundStat) → Claim x
    stat_there = ind-BoundStat Claim (λ x y e. subst (λ x. Claim (roll-BoundStat x)) e (stat_steps y))

    all_there : (xs : List BoundStat) → AllFit (simples_in xs) → ValuesFit (values_in xs) → AreThere (body_touches events callees xs)
    all_there [] s v = tt
    all_there (x ∷ xs) s v =
        both (touches_of events callees x) (body_touches events callees xs)
        (stat_there x (first_part _ (simples_of x) (simples_in xs) s) (first_part _ (values_of x) (values_in xs) v))
        (all_there xs (then_part _ (simples_of x) (simples_in xs) s) (then_part _ (values_of x) (values_in xs) v))

    body_there : (xs : List BoundStat) → FitsBody b xs → AreThere (body_touches events callees xs)
    body_there xs h =
        all_there xs (recursion_from_All (λ (x : LinedSimple). FitsSimple b x.simple) (simples_in xs) h.simples)
        (recursion_from_All (FitsExpr b) (values_in xs) h.values)

  -- ---- processes

  module _ (functions : (g : ℕ) (f : BoundFunction) → slice_get b.functions g ≡ Some f → FitsBody b f.body) where
    abbrev AreKnown : Callees → Type 0
    AreKnown callees = (g : ℕ) (c : Called) → callees g ≡ Some c → AreThere c.touched

    known_at : (callees : Callees) → AreKnown callees → (g : ℕ) (c : Called) (o : Option BoundFunction) → slice_get b.functions g ≡ o →
        called_by (body_touches b.events callees) o ≡ Some c → AreThere c.touched
    known_at callees known g c None of is = absurd cc
    known_at callees known g c (Some f) of is =
        let same : record { function = f; touched = body_touches b.events callees f.body } ≡ c = cc in
        subst (λ (c : Called). AreThere c.touched) same (body_there b.events callees known f.body (functions g f of))

    known_within : (depth : ℕ) → AreKnown (callees_within depth b.events b.functions)
    known_within zero g c is = absurd cc
    known_within (suc depth) g c is =
        known_at (callees_within depth b.events b.functions) (known_within depth) g c (slice_get b.functions g) refl is

    touch_there : (t : Touch) (p : ℕ) → All (FitsProcess b) b.processes → Uses b p t → IsThere t
    touch_there t p processes u =
        All-contains IsThere (process_touches b u.process) t (All-from_recursion IsThere _
        (body_there b.events (callees_within (length b.functions) b.events b.functions) (known_within (length b.functions)) u.process.body
        (All-contains (FitsProcess b) b.processes u.process processes
        (p, slice_get_within b.processes p u.process u.is, get_or_from_slice_get b.processes p u.process u.process u.is)).body)) u.touches

  none_holds : (c : ℕ) → (c < length b.channels → EndsOfOne b c) →
      ((t : Touch) (p : ℕ) → Uses b p t → IsThere t) → EndsOfOne b c
  none_holds c h there = record {
    writer = λ p q a d. (h (there (WritesSignal c) p a)).writer p q a d;
    reading = λ p q a d. (h (there (HoldsReading c) p a)).reading p q a d;
    writing = λ p q a d. (h (there (HoldsWriting c) p a)).writing p q a d;
  }

pub ends_are_there : EndsAreThere
ends_are_there b functions processes h c =
    none_holds b c (h c) (λ t p u. touch_there b (λ g f is.
    (All-contains (FitsFunction b) b.functions f functions (g, slice_get_within b.functions g f is, get_or_from_slice_get b.functions g f f is)).body)
    t p processes u)
