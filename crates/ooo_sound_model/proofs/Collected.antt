-- What a body touches is among what is collected of who holds which ends.
use Rattle.std.proofs.Common.{◌≡◌, refl, sym, subst, ℕ, List, [], ◌∷◌, ◌++◌, map, append_assoc, Option, Some, None}
use Rattle.std.specs.List.{AllByRecursion}
use Rattle.ooo_lemmas.proofs.Each.{of_both, first_part, then_part}
use Rattle.ooo_value.specs.declared.bound.BoundEvent.{BoundEvent}
use Rattle.ooo_code.specs.Touches.{Touch, Reads, Writes, ReadsSignal, WritesSignal, HoldsReading, HoldsWriting, Notifies, Cancels, notified_next, numbers_where, is_of_signal, is_data_written, is_data_read}
use Rattle.ooo_bound.specs.declared.expr.BoundExpr.{BoundExpr, BoundExpr-F, map-BoundExpr, roll-BoundExpr, fold-roll-BoundExpr, ind-BoundExpr}
use Rattle.ooo_bound.specs.declared.expr.BoundExpr.TheOpen as layer
use Rattle.ooo_bound.specs.declared.expr.BoundTime.{BoundTime}
use Rattle.ooo_bound.specs.declared.expr.BoundTime.TheVariants as time
use Rattle.ooo_bound.specs.declared.stat.BoundItem.{BoundItem}
use Rattle.ooo_bound.specs.declared.stat.BoundItem.TheVariants as item
use Rattle.ooo_bound.specs.declared.stat.BoundRight.{BoundRight}
use Rattle.ooo_bound.specs.declared.stat.BoundRight.TheVariants as right
use Rattle.ooo_bound.specs.declared.stat.BoundSimple.{BoundSimple}
use Rattle.ooo_bound.specs.declared.stat.BoundSimple.TheVariants as simple
use Rattle.ooo_bound.specs.declared.stat.BoundStat.{BoundStat, BoundStat-F, map-BoundStat, roll-BoundStat, fold-roll-BoundStat, ind-BoundStat}
use Rattle.ooo_bound.specs.declared.stat.BoundStat.TheOpen as stat
use Rattle.ooo_bound.specs.declared.stat.BoundTarget.{BoundTarget}
use Rattle.ooo_bound.specs.declared.stat.BoundTarget.TheVariants as target
use Rattle.ooo_bound.specs.declared.stat.LinedSimple.{LinedSimple}
use Rattle.ooo_elaborate.specs.declared.holders.End.TheVariants.{Reading, Writing}
use Rattle.ooo_elaborate.specs.declared.holders.Held.{Held}
use Rattle.ooo_elaborate.specs.Holding.{holds}
use Rattle.ooo_elaborate.specs.Ends.{Holding, expr_step, expr_holds, exprs_hold, option_holds, time_holds, some_time_holds, target_holds, right_holds, item_holds, items_hold, simple_holds, lined_hold, after_holds, all_hold, stat_step, stat_holds, body_holds}
use Rattle.ooo_activation.specs.Kinds.{joined, list_of, simples_step, simples_of, simples_in, right_calls, simple_calls}
use Rattle.ooo_activation.specs.Touches.{Touched, Called, Callees, reads_step, reads_of, option_reads, arguments_read, time_reads, wait_reads, target_touches, target_reads, take_touches, put_touches, call_touches, right_touches, item_reads, items_read, simple_touches, simples_touch, after_touches, all_touch, touches_step, touches_of, body_touches, constant_delay}
use Rattle.ooo_sound_model.proofs.Grown.{Covered, Grows, stays, grows_on, holds_grows, writing_holds, reading_holds, writer_goes_on, reader_goes_on}

-- process p, and what is known of called functions where all has been collected
module _ (p : ℕ) (K : List Held → Type 0) where
  -- a part leads from what is collected before to what is collected behind it, and touches so much
  pub record Step (hs gs : List Held) (ts : Touched) : Type 0 where
    pub grows : Grows hs gs
    pub covers : (fs : List Held) → Grows gs fs → K fs → AllByRecursion (Covered p fs) ts

  nothing : (hs : List Held) → Step hs hs []
  nothing hs = record { grows = stays hs; covers = λ fs more k. tt }

  both : (hs gs fs : List Held) (ts us : Touched) → Step hs gs ts → Step gs fs us → Step hs fs (ts ++ us)
  both hs gs fs ts us a b = record {
    grows = grows_on hs gs fs a.grows b.grows;
    covers = λ es more k. of_both (Covered p es) ts us (a.covers es (grows_on gs fs es b.grows more) k) (b.covers es more k);
  }

  turned : (hs gs fs : List Held) (ts us : Touched) → Step hs gs ts → Step gs fs us → Step hs fs (us ++ ts)
  turned hs gs fs ts us a b = record {
    grows = grows_on hs gs fs a.grows b.grows;
    covers = λ es more k. of_both (Covered p es) us ts (b.covers es more k) (a.covers es (grows_on gs fs es b.grows more) k);
  }

  free : (hs gs : List Held) (t : Touch) (ts : Touched) → ((fs : List Held) → Covered p fs t) → Step hs gs ts → Step hs gs (t ∷ ts)
  free hs gs t ts h a = record { grows = a.grows; covers = λ fs more k. (h fs, a.covers fs more k) }

  nothing_more : (hs gs : List Held) → Grows hs gs → Step hs gs []
  nothing_more hs gs more = record { grows = more; covers = λ fs more k. tt }

  all_notified : (es : List ℕ) (fs : List Held) → AllByRecursion (Covered p fs) (notified_next es)
  all_notified [] fs = tt
  all_notified (e ∷ es) fs = (tt, all_notified es fs)

  notifies : (es : List ℕ) (hs gs : List Held) → Grows hs gs → Step hs gs (notified_next es)
  notifies es hs gs more = record { grows = more; covers = λ fs more k. all_notified es fs }

  writes : (c : ℕ) (es : List ℕ) (hs : List Held) → Step hs (holds p (Writing c) hs) (WritesSignal c ∷ notified_next es)
  writes c es hs = record {
    grows = holds_grows p (Writing c) hs;
    covers = λ fs more k. (writer_goes_on p c _ fs more (writing_holds p c hs), all_notified es fs);
  }

  puts : (c : ℕ) (es : List ℕ) (hs : List Held) → Step hs (holds p (Writing c) hs) (HoldsWriting c ∷ notified_next es)
  puts c es hs = record {
    grows = holds_grows p (Writing c) hs;
    covers = λ fs more k. (writer_goes_on p c _ fs more (writing_holds p c hs), all_notified es fs);
  }

  takes : (c : ℕ) (es : List ℕ) (hs : List Held) → Step hs (holds p (Reading c) hs) (HoldsReading c ∷ notified_next es)
  takes c es hs = record {
    grows = holds_grows p (Reading c) hs;
    covers = λ fs more k. (reader_goes_on p c _ fs more (reading_holds p c hs), all_notified es fs);
  }

  -- ---- expressions

  abbrev ReadsAll : BoundExpr → Type 0
  ReadsAll e = (hs : List Held) → Step hs (expr_holds p e hs) (reads_of e)

  abbrev ShownExpr : Type 0
  ShownExpr = (e : BoundExpr) × ReadsAll e

  expr_form : (y : BoundExpr-F BoundExpr) →
      ((hs : List Held) → Step hs (expr_step p (map-BoundExpr BoundExpr Holding (expr_holds p) y) hs)
      (reads_step (map-BoundExpr BoundExpr Touched reads_of y))) → ReadsAll (roll-BoundExpr y)
  unfolding expr_holds reads_of
  expr_form y h hs =
      subst (λ ts. Step hs (expr_holds p (roll-BoundExpr y) hs) ts) (sym (fold-roll-BoundExpr Touched reads_step y))
      (subst (λ (f : Holding). Step hs (f hs) (reads_step (map-BoundExpr BoundExpr Touched reads_of y)))
      (sym (fold-roll-BoundExpr Holding (expr_step p) y)) (h hs))

  step : (y : BoundExpr-F ShownExpr) → ReadsAll (roll-BoundExpr (map-BoundExpr ShownExpr BoundExpr (λ e. e.0) y))
  step (layer.Constant v) = expr_form (layer.Constant v) (λ hs. nothing hs)
  step (layer.Local k n) = expr_form (layer.Local k n) (λ hs. nothing hs)
  step (layer.Variable x) = expr_form (layer.Variable x) (λ hs. free hs hs (Reads x) [] (λ fs. tt) (nothing hs))
  step (layer.Element x i) = expr_form (layer.Element x i.0) (λ hs. free hs _ (Reads x) (reads_of i.0) (λ fs. tt) (i.1 hs))
  step (layer.Signal c) = expr_form (layer.Signal c) (λ hs. free hs hs (ReadsSignal c) [] (λ fs. tt) (nothing hs))
  step (layer.Changed c) = expr_form (layer.Changed c) (λ hs. free hs hs (ReadsSignal c) [] (λ fs. tt) (nothing hs))
  step (layer.Edge c up) = expr_form (layer.Edge c up) (λ hs. free hs hs (ReadsSignal c) [] (λ fs. tt) (nothing hs))
  step (layer.Available c) = expr_form (layer.Available c) (λ hs. takes c [] hs)
  step (layer.Free c) = expr_form (layer.Free c) (λ hs. puts c [] hs)
  step (layer.Convert k e) = expr_form (layer.Convert k e.0) (λ hs. e.1 hs)
  step (layer.Promote e) = expr_form (layer.Promote e.0) (λ hs. e.1 hs)
  step (layer.Negate e) = expr_form (layer.Negate e.0) (λ hs. e.1 hs)
  step (layer.Invert e) = expr_form (layer.Invert e.0) (λ hs. e.1 hs)
  step (layer.Not e) = expr_form (layer.Not e.0) (λ hs. e.1 hs)
  step (layer.Binary op a b) =
      expr_form (layer.Binary op a.0 b.0) (λ hs. both hs (expr_holds p a.0 hs) _ (reads_of a.0) (reads_of b.0) (a.1 hs) (b.1 _))
  step (layer.Both a b) =
      expr_form (layer.Both a.0 b.0) (λ hs. both hs (expr_holds p a.0 hs) _ (reads_of a.0) (reads_of b.0) (a.1 hs) (b.1 _))
  step (layer.Either a b) =
      expr_form (layer.Either a.0 b.0) (λ hs. both hs (expr_holds p a.0 hs) _ (reads_of a.0) (reads_of b.0) (a.1 hs) (b.1 _))
  step (layer.Choose k c a b) =
      expr_form (layer.Choose k c.0 a.0 b.0) (λ hs.
      let h1 = expr_holds p c.0 hs in
      let h2 = expr_holds p a.0 h1 in
      both hs h2 (expr_holds p b.0 h2) (reads_of c.0 ++ reads_of a.0) (reads_of b.0)
      (both hs h1 h2 (reads_of c.0) (reads_of a.0) (c.1 hs) (a.1 h1)) (b.1 h2))

  expr_reads : (e : BoundExpr) → ReadsAll e
  expr_reads = ind-BoundExpr ReadsAll (λ x y e. subst (λ x. ReadsAll (roll-BoundExpr x)) e (step y))

  exprs_grow : (es : List BoundExpr) (hs : List Held) → Grows hs (exprs_hold p es hs)
  exprs_grow [] hs = stays hs
  exprs_grow (e ∷ es) hs = grows_on hs (expr_holds p e hs) _ (expr_reads e hs).grows (exprs_grow es (expr_holds p e hs))

  arguments : {A : Type 0} (ks : List A) (es : List BoundExpr) (hs : List Held) → Step hs (exprs_hold p es hs) (arguments_read ks es)
  arguments [] es hs = nothing_more hs _ (exprs_grow es hs)
  arguments (k ∷ ks) [] hs = nothing hs
  arguments (k ∷ ks) (e ∷ es) hs =
      both hs (expr_holds p e hs) _ (reads_of e) (arguments_read ks es) (expr_reads e hs) (arguments ks es (expr_holds p e hs))

  option_step : (o : Option BoundExpr) (hs : List Held) → Step hs (option_holds p o hs) (option_reads o)
  option_step None hs = nothing hs
  option_step (Some e) hs = expr_reads e hs

  time_step : (t : BoundTime) (hs : List Held) → Step hs (time_holds p t hs) (time_reads t)
  time_step (time.Fixed t) hs = nothing hs
  time_step (time.Amount e scale) hs = expr_reads e hs

  wait_step : (o : Option BoundTime) (hs : List Held) → Step hs (some_time_holds p o hs) (wait_reads o)
  wait_step None hs = nothing hs
  wait_step (Some t) hs = time_step t hs

  item_step : (x : BoundItem) (hs : List Held) → Step hs (item_holds p x hs) (item_reads x)
  item_step (item.Value e) hs = expr_reads e hs
  item_step (item.Text t) hs = nothing hs
  item_step item.Time hs = nothing hs

  items_step : (xs : List BoundItem) (hs : List Held) → Step hs (items_hold p xs hs) (items_read xs)
  items_step [] hs = nothing hs
  items_step (x ∷ xs) hs =
      both hs (item_holds p x hs) _ (item_reads x) (items_read xs) (item_step x hs) (items_step xs (item_holds p x hs))

  -- ---- simple statements

  target_step : (events : List BoundEvent) (t : BoundTarget) (hs : List Held) → Step hs (target_holds p t hs) (target_touches events t)
  target_step events target.Nothing hs = nothing hs
  target_step events (target.Local k n) hs = nothing hs
  target_step events (target.Variable x) hs = free hs hs (Writes x) [] (λ fs. tt) (nothing hs)
  target_step events (target.Element x i) hs = free hs _ (Writes x) (reads_of i) (λ fs. tt) (expr_reads i hs)
  target_step events (target.Signal c) hs = writes c (numbers_where (is_of_signal c) 0 events) hs

  target_read : (t : BoundTarget) (hs : List Held) → Step hs hs (target_reads t)
  target_read target.Nothing hs = nothing hs
  target_read (target.Local k n) hs = nothing hs
  target_read (target.Variable x) hs = free hs hs (Reads x) [] (λ fs. tt) (nothing hs)
  target_read (target.Element x i) hs = free hs hs (Reads x) [] (λ fs. tt) (nothing hs)
  target_read (target.Signal c) hs = free hs hs (ReadsSignal c) [] (λ fs. tt) (nothing hs)

  -- the functions that may be called, and what is known of what they touch
  module _ (events : List BoundEvent) (callees : Callees) (I : ℕ → Type 0)
      (known : (fs : List Held) → K fs → (g : ℕ) → I g → (f : Called) → callees g ≡ Some f → AllByRecursion (Covered p fs) f.touched) where
    call_step : (g : ℕ) → I g → (o : Option Called) → callees g ≡ o → (args : List BoundExpr) (hs : List Held) →
        Step hs (exprs_hold p args hs) (call_touches o args)
    call_step g i None is args hs = nothing_more hs _ (exprs_grow args hs)
    call_step g i (Some f) is args hs =
        let a = arguments f.function.params args hs in record {
          grows = a.grows;
          covers = λ fs more k. of_both (Covered p fs) (arguments_read f.function.params args) f.touched (a.covers fs more k) (known fs k g i f is);
        }

    right_step : (r : BoundRight) → AllByRecursion I (right_calls r) → (hs : List Held) →
        Step hs (right_holds p r hs) (right_touches events callees r)
    right_step (right.Value e) i hs = expr_reads e hs
    right_step (right.Call f args) i hs = call_step f i.0 (callees f) refl args hs
    right_step (right.Read c) i hs = takes c (numbers_where (is_data_read c) 0 events) hs
    right_step (right.NbRead c t) i hs =
        both hs (holds p (Reading c) hs) _ (take_touches events c) (target_touches events t)
        (takes c (numbers_where (is_data_read c) 0 events) hs) (target_step events t _)
    right_step (right.NbWrite c e) i hs =
        turned hs (holds p (Writing c) hs) _ (put_touches events c) (reads_of e)
        (puts c (numbers_where (is_data_written c) 0 events) hs) (expr_reads e _)

    simple_step : (x : BoundSimple) → AllByRecursion I (simple_calls x) → (hs : List Held) →
        Step hs (simple_holds p x hs) (simple_touches events callees x)
    simple_step (simple.Assign t r) i hs =
        turned hs (target_holds p t hs) _ (target_touches events t) (right_touches events callees r) (target_step events t hs) (right_step r i _)
    simple_step (simple.Update t o e) i hs =
        let h1 = target_holds p t hs in
        let h2 = expr_holds p e h1 in
        turned hs h1 h2 (target_touches events t) (reads_of e ++ target_reads t) (target_step events t hs)
        (both h1 h2 h2 (reads_of e) (target_reads t) (expr_reads e h1) (target_read t h2))
    simple_step (simple.Write c e) i hs =
        turned hs (holds p (Writing c) hs) _ (put_touches events c) (reads_of e)
        (puts c (numbers_where (is_data_written c) 0 events) hs) (expr_reads e _)
    simple_step (simple.Notify e t) i hs = free hs _ (Notifies e (constant_delay t)) (time_reads t) (λ fs. tt) (time_step t hs)
    simple_step (simple.Cancel e) i hs = free hs hs (Cancels e) [] (λ fs. tt) (nothing hs)
    simple_step (simple.Wait w) i hs = wait_step w.time hs
    simple_step (simple.NextTrigger w) i hs = wait_step w.time hs
    simple_step simple.Stop i hs = nothing hs
    simple_step (simple.Print xs) i hs = items_step xs hs

    -- all that simple statements call
    abbrev CallsIn : List LinedSimple → Type 0
    CallsIn xs = AllByRecursion (λ x. AllByRecursion I (simple_calls x.simple)) xs

    lined_step : (xs : List LinedSimple) → CallsIn xs → (hs : List Held) → Step hs (lined_hold p xs hs) (simples_touch events callees xs)
    lined_step [] i hs = nothing hs
    lined_step (x ∷ xs) i hs =
        both hs (simple_holds p x.simple hs) _ (simple_touches events callees x.simple) (simples_touch events callees xs)
        (simple_step x.simple i.0 hs) (lined_step xs i.1 _)

    after_step : (o : Option LinedSimple) → CallsIn (list_of o) → (hs : List Held) → Step hs (after_holds p o hs) (after_touches events callees o)
    after_step None i hs = nothing hs
    after_step (Some x) i hs = simple_step x.simple i.0 hs

    -- ---- statements

    abbrev Claim : BoundStat → Type 0
    Claim x = CallsIn (simples_of x) → (hs : List Held) → Step hs (stat_holds p x hs) (touches_of events callees x)

    abbrev Shown : Type 0
    Shown = (x : BoundStat) × Claim x

    stat_form : (y : BoundStat-F BoundStat) →
        (CallsIn (simples_step (map-BoundStat BoundStat (List LinedSimple) simples_of y)) → (hs : List Held) →
        Step hs (stat_step p (map-BoundStat BoundStat Holding (stat_holds p) y) hs)
        (touches_step events callees (map-BoundStat BoundStat Touched (touches_of events callees) y))) → Claim (roll-BoundStat y)
    unfolding stat_holds touches_of simples_of
    stat_form y h i hs =
        subst (λ ts. Step hs (stat_holds p (roll-BoundStat y) hs) ts) (sym (fold-roll-BoundStat Touched (touches_step events callees) y))
        (subst (λ (f : Holding). Step hs (f hs) (touches_step events callees (map-BoundStat BoundStat Touched (touches_of events callees) y)))
        (sym (fold-roll-BoundStat Holding (stat_step p) y))
        (h (subst CallsIn (fold-roll-BoundStat (List LinedSimple) simples_step y) i) hs))

    parts_step : (xs : List Shown) → let ys : List BoundStat = map (λ x. x.0) xs in CallsIn (joined (map simples_of ys)) → (hs : List Held) →
        Step hs (all_hold (map (stat_holds p) ys) hs) (all_touch (map (touches_of events callees) ys))
    parts_step [] i hs = nothing hs
    parts_step (x ∷ xs) i hs =
        let ys : List BoundStat = map (λ x. x.0) xs in
        both hs (stat_holds p x.0 hs) _ (touches_of events callees x.0) (all_touch (map (touches_of events callees) ys))
        (x.1 (first_part _ (simples_of x.0) (joined (map simples_of ys)) i) hs)
        (parts_step xs (then_part _ (simples_of x.0) (joined (map simples_of ys)) i) (stat_holds p x.0 hs))

    stat_steps : (y : BoundStat-F Shown) → Claim (roll-BoundStat (map-BoundStat Shown BoundStat (λ x. x.0) y))
    stat_steps (stat.Block xs) = stat_form (stat.Block (map (λ x. x.0) xs)) (λ i hs. parts_step xs i hs)
    stat_steps (stat.Simple x) = stat_form (stat.Simple x) (λ i hs. simple_step x.simple i.0 hs)
    stat_steps (stat.If line e x None) = stat_form (stat.If line e x.0 None) (λ i hs.
        let h1 = expr_holds p e hs in
        let h2 = stat_holds p x.0 h1 in
        both hs h2 h2 (reads_of e ++ touches_of events callees x.0) []
        (both hs h1 h2 (reads_of e) (touches_of events callees x.0) (expr_reads e hs) (x.1 (first_part _ (simples_of x.0) [] i) h1))
        (nothing h2))
    stat_steps (stat.If line e x (Some y)) = stat_form (stat.If line e x.0 (Some y.0)) (λ i hs.
        let h1 = expr_holds p e hs in
        let h2 = stat_holds p x.0 h1 in
        both hs h2 (stat_holds p y.0 h2) (reads_of e ++ touches_of events callees x.0) (touches_of events callees y.0)
        (both hs h1 h2 (reads_of e) (touches_of events callees x.0) (expr_reads e hs) (x.1 (first_part _ (simples_of x.0) (simples_of y.0) i) h1))
        (y.1 (then_part _ (simples_of x.0) (simples_of y.0) i) h2))
    stat_steps (stat.While line e x) = stat_form (stat.While line e x.0) (λ i hs.
        both hs (expr_holds p e hs) _ (reads_of e) (touches_of events callees x.0) (expr_reads e hs) (x.1 i _))
    stat_steps (stat.Do line x e) = stat_form (stat.Do line x.0 e) (λ i hs.
        both hs (stat_holds p x.0 hs) _ (touches_of events callees x.0) (reads_of e) (x.1 i hs) (expr_reads e _))
    stat_steps (stat.For line begin e after x) = stat_form (stat.For line begin e after x.0) (λ i hs.
        let h1 = lined_hold p begin hs in
        let h2 = option_holds p e h1 in
        let h3 = after_holds p after h2 in
        let ts = simples_touch events callees begin in
        let us = after_touches events callees after in
        let head = first_part _ (begin ++ list_of after) (simples_of x.0) i in
        both hs h3 _ (ts ++ us ++ option_reads e) (touches_of events callees x.0)
        (subst (λ vs. Step hs h3 vs) (sym (append_assoc ts us (option_reads e)))
        (both hs h1 h3 ts (us ++ option_reads e) (lined_step begin (first_part _ begin (list_of after) head) hs)
        (turned h1 h2 h3 (option_reads e) us (option_step e h1) (after_step after (then_part _ begin (list_of after) head) h2))))
        (x.1 (then_part _ (begin ++ list_of after) (simples_of x.0) i) h3))
    stat_steps (stat.Break line) = stat_form (stat.Break line) (λ i hs. nothing hs)
    stat_steps (stat.Continue line) = stat_form (stat.Continue line) (λ i hs. nothing hs)
    stat_steps (stat.Return line e) = stat_form (stat.Return line e) (λ i hs. option_step e hs)

    stat_touches : (x : BoundStat) → Claim x
    stat_touches = ind-BoundStat Claim (λ x y e. subst (λ x. Claim (roll-BoundStat x)) e (stat_steps y))

    -- what a body touches
    pub body_step : (xs : List BoundStat) → AllByRecursion (λ x. AllByRecursion I (simple_calls x.simple)) (simples_in xs) → (hs : List Held) →
        Step hs (body_holds p xs hs) (body_touches events callees xs)
    body_step [] i hs = nothing hs
    body_step (x ∷ xs) i hs =
        both hs (stat_holds p x hs) _ (touches_of events callees x) (body_touches events callees xs)
        (stat_touches x (first_part _ (simples_of x) (simples_in xs) i) hs)
        (body_step xs (then_part _ (simples_of x) (simples_in xs) i) (stat_holds p x hs))
