-- The calls that are noted of a body are those that stand in it as whole right sides or as statements.
use Rattle.std.proofs.Common.{◌≡◌, ◌∙◌, ap, sym, subst, ℕ, List, [], ◌∷◌, ◌++◌, map, length, Bool, true, false, Option, Some, None}
use Rattle.std.specs.Prelude.{Contains, ◌&&◌, not, ◌==◌, is_some, if◌then◌else◌}
use Rattle.std.specs.List.{AllByRecursion}
use Rattle.std.proofs.lemmas.List.Elements.{recursion_from_All}
use Rattle.ooo_lemmas.proofs.Each.{of_both, first_part, then_part}
use Rattle.ooo_lexer.specs.declared.position.Position.{Position}
use Rattle.ooo_value.specs.declared.kinds.Kind.{Kind}
use Rattle.ooo_syntax.specs.declared.leaves.Word.{Word}
use Rattle.ooo_syntax.specs.declared.expr.Expr.{Expr, Expr-F, map-Expr, roll-Expr, out-Expr, fold-roll-Expr, ind-Expr}
use Rattle.ooo_syntax.specs.declared.expr.Expr.TheOpen as layer
use Rattle.ooo_syntax.specs.declared.stat.TimeForm.{TimeForm}
use Rattle.ooo_syntax.specs.declared.stat.TimeForm.TheVariants as time
use Rattle.ooo_syntax.specs.declared.stat.Event.{Event}
use Rattle.ooo_syntax.specs.declared.stat.Awaited.{Awaited}
use Rattle.ooo_syntax.specs.declared.stat.Awaited.TheVariants as awaited
use Rattle.ooo_syntax.specs.declared.stat.Target.{Target}
use Rattle.ooo_syntax.specs.declared.stat.Declarator.{Declarator}
use Rattle.ooo_syntax.specs.declared.stat.PrintItem.{PrintItem}
use Rattle.ooo_syntax.specs.declared.stat.PrintItem.TheVariants as item
use Rattle.ooo_syntax.specs.declared.stat.Simple.{Simple}
use Rattle.ooo_syntax.specs.declared.stat.Simple.TheVariants as simple
use Rattle.ooo_syntax.specs.declared.stat.ForStart.{ForStart}
use Rattle.ooo_syntax.specs.declared.stat.ForStart.TheVariants as start
use Rattle.ooo_syntax.specs.declared.stat.Stat.{Stat, Stat-F, map-Stat, roll-Stat, fold-roll-Stat, ind-Stat}
use Rattle.ooo_syntax.specs.declared.stat.Stat.TheOpen as stat
use Rattle.ooo_checked.specs.declared.breach.TypeBreach.{TypeBreach}
use Rattle.ooo_checked.specs.declared.breach.TypeBreach.TheVariants as what
use Rattle.ooo_checked.specs.declared.context.Context.{Context}
use Rattle.ooo_checked.specs.declared.denotation.Denotation.{Denotation}
use Rattle.ooo_checked.specs.declared.denotation.Method.{Method}
use Rattle.ooo_checked.specs.declared.denotation.Method.TheVariants as method
use Rattle.ooo_checked.specs.declared.denotation.Resolved.{Resolved}
use Rattle.ooo_checked.specs.declared.denotation.Thing.{Thing}
use Rattle.ooo_checked.specs.declared.denotation.Thing.TheVariants as thing
use Rattle.ooo_checked.specs.declared.expr.CheckedExpr.{CheckedExpr, CheckedExpr-F, roll-CheckedExpr, out-CheckedExpr, the_lemmas}
use Rattle.ooo_checked.specs.declared.expr.CheckedExpr.TheOpen as form
use Rattle.ooo_checked.specs.declared.expr.CheckedExpr.TheVariants as checked
use Rattle.ooo_checked.specs.declared.place.CallPlace.{CallPlace}
use Rattle.ooo_checked.specs.declared.place.CallPlace.TheVariants.{Inside, Whole, Statement}
use Rattle.ooo_checked.specs.declared.stat.CheckedStat.{CheckedStat, CheckedStat-F, map-CheckedStat, roll-CheckedStat, fold-roll-CheckedStat}
use Rattle.ooo_checked.specs.declared.stat.CheckedStat.TheOpen as shape
use Rattle.ooo_checked.specs.declared.stat.CheckedStat.TheVariants as tree
use Rattle.ooo_checked.specs.CallPlaces.{is_inside, is_used}
use Rattle.ooo_checked.specs.Exprs.{expr_of, expr_step, exprs_of, option_of, tree_of, kind_written, resolved, name_notes, call_notes, function_notes, member_notes, method_notes, argument_notes, target_notes, count_of, wait_when, right_of, right_step}
use Rattle.ooo_checked.specs.Notes.{Note, Breaks, Calls, Checked, breach_when, trees, all_notes}
use Rattle.ooo_checked.specs.Places.{first_of, is_target}
use Rattle.ooo_checked.specs.Scopes.{Scope, entered, is_declared_here, meaning_of}
use Rattle.ooo_checked.specs.Stats.{Reading, time_of, event_of, events_of, event_notes, event_call_notes, is_call_of, awaited_of, target_of, value_of, is_compound, option_notes, item_of, items_of, notify_notes, is_own_event, simple_of, initial_of, declarator_of, declarators_of, option_start_of, step_of, readings_of, inner, looped, return_notes, stat_of, stat_step, stats_of}
use Rattle.ooo_checked.specs.Things.{argument_count, gives_nothing, has_effect, is_blocking, is_known, method_of}
use Rattle.ooo_constants.specs.Bodies.{all_of, right_calls, initial_calls, declarator_calls, simple_calls, step_calls, start_calls, stat_calls, stat_calls_step, body_calls, right_step as calls_step}
use Rattle.ooo_sound_model.specs.Naming.{Leave, MayBeNoted, MayAllBeNoted}
use Rattle.ooo_sound_model.specs.Written.{MayBeWritten, MayAllBeWritten, CallsAreWritten}

module _ (l : Leave) where
  -- what may be written may be noted, where these calls may be made
  abbrev Fine : List Note → List ℕ → Type 0
  Fine ns cs = MayAllBeWritten l ns → AllByRecursion (Contains l.calls) cs → MayAllBeNoted l ns

  -- whatever is called
  abbrev Plain : List Note → Type 0
  Plain ns = MayAllBeWritten l ns → MayAllBeNoted l ns

  both_plain : (xs ys : List Note) → Plain xs → Plain ys → Plain (xs ++ ys)
  both_plain xs ys f g h =
      of_both (MayBeNoted l) xs ys (f (first_part (MayBeWritten l) xs ys h)) (g (then_part (MayBeWritten l) xs ys h))

  both_fine : (xs ys : List Note) (cs ds : List ℕ) → Fine xs cs → Fine ys ds → Fine (xs ++ ys) (cs ++ ds)
  both_fine xs ys cs ds f g h c =
      of_both (MayBeNoted l) xs ys (f (first_part (MayBeWritten l) xs ys h) (first_part (Contains l.calls) cs ds c))
      (g (then_part (MayBeWritten l) xs ys h) (then_part (Contains l.calls) cs ds c))

  -- a part without calls before, and behind
  plain_first : (xs ys : List Note) (cs : List ℕ) → Plain xs → Fine ys cs → Fine (xs ++ ys) cs
  plain_first xs ys cs f g = both_fine xs ys [] cs (λ h c. f h) g

  plain_then : (xs ys : List Note) (cs : List ℕ) → Fine xs cs → Plain ys → Fine (xs ++ ys) cs
  plain_then xs ys cs f g h c =
      of_both (MayBeNoted l) xs ys (f (first_part (MayBeWritten l) xs ys h) c) (g (then_part (MayBeWritten l) xs ys h))

  breach_plain : (b : Bool) (breach : TypeBreach) (at : Position) → Plain (breach_when b breach at)
  breach_plain true breach at h = absurd h.0
  breach_plain false breach at h = tt

  wait_plain : (b : Bool) (at : Position) → Plain (wait_when b at)
  wait_plain true at h = h
  wait_plain false at h = tt

  name_plain : (t : Thing) (b : Bool) (at : Position) → Plain (name_notes t b at)
  name_plain thing.Nothing b at h = absurd h.0
  name_plain _ b at h = breach_plain (not b) what.WrongKind at h

  -- ---- calls

  function_fine : (place : CallPlace) (gives : Option Kind) (params f args : ℕ) (at : Position) → Fine (function_notes place gives params f args at) (f ∷ [])
  function_fine place gives params f args at =
      let used = breach_when (is_used place && not (is_some gives)) what.WrongKind at in
      let inside = breach_when (is_inside place) what.EffectInside at in
      let counted = breach_when (not (args == params)) what.WrongCount at in
      plain_first (used ++ inside ++ counted) (Calls at f ∷ []) (f ∷ [])
      (both_plain (used ++ inside) counted (both_plain used inside (breach_plain _ what.WrongKind at) (breach_plain _ what.EffectInside at))
      (breach_plain _ what.WrongCount at)) (λ h c. (c.0, tt))

  -- inside an expression no call of a function may be written
  no_function : (gives : Option Kind) (params f args : ℕ) (at : Position) → MayAllBeWritten l (function_notes Inside gives params f args at) → ⊥
  no_function gives params f args at h =
      let used = breach_when (is_used Inside && not (is_some gives)) what.WrongKind at in
      let inside = breach_when (is_inside Inside) what.EffectInside at in
      let counted = breach_when (not (args == params)) what.WrongCount at in
      (then_part (MayBeWritten l) used inside (first_part (MayBeWritten l) (used ++ inside) counted
      (first_part (MayBeWritten l) (used ++ inside ++ counted) (Calls at f ∷ []) h))).0

  abbrev call_notes_by : CallPlace → Denotation → ℕ → Position → Thing → List Note
  call_notes_by place d args at t = elim t [
    | thing.Nothing ↦ Breaks what.UnknownName at ∷ []
    | thing.Function gives params ↦ function_notes place gives params d.number args at
    | _ ↦ Breaks what.WrongKind at ∷ []
  ]

  call_by : (place : CallPlace) (d : Denotation) (args : ℕ) (at : Position) (t : Thing) → Fine (call_notes_by place d args at t) (d.number ∷ [])
  call_by place d args at (thing.Function gives params) = function_fine place gives params d.number args at
  call_by place d args at _ = λ h c. absurd h.0

  call_fine : (place : CallPlace) (d : Denotation) (args : ℕ) (at : Position) → Fine (call_notes place d args at) (d.number ∷ [])
  call_fine place d args at = call_by place d args at d.thing

  no_call_by : (d : Denotation) (args : ℕ) (at : Position) (t : Thing) → MayAllBeWritten l (call_notes_by Inside d args at t) → ⊥
  no_call_by d args at (thing.Function gives params) h = no_function gives params d.number args at h
  no_call_by d args at _ h = h.0

  no_call : (d : Denotation) (args : ℕ) (at : Position) → MayAllBeWritten l (call_notes Inside d args at) → ⊥
  no_call d args at h = no_call_by d args at d.thing h

  noted_plain : (place : CallPlace) (t : Thing) (m : Method) (args : ℕ) (at : Position) → Plain (
      breach_when (is_used place && gives_nothing m) what.WrongKind at
      ++ breach_when (not (args == argument_count m)) what.WrongCount at
      ++ breach_when (is_inside place && has_effect t m) what.EffectInside at
      ++ wait_when (is_blocking t m) at)
  noted_plain place t m args at =
      let used = breach_when (is_used place && gives_nothing m) what.WrongKind at in
      let counted = breach_when (not (args == argument_count m)) what.WrongCount at in
      let inside = breach_when (is_inside place && has_effect t m) what.EffectInside at in
      both_plain (used ++ counted ++ inside) (wait_when (is_blocking t m) at)
      (both_plain (used ++ counted) inside (both_plain used counted (breach_plain _ what.WrongKind at) (breach_plain _ what.WrongCount at))
      (breach_plain _ what.EffectInside at)) (wait_plain (is_blocking t m) at)

  method_plain : (place : CallPlace) (t : Thing) (m : Method) (args : ℕ) (at : Position) → Plain (method_notes place t m args at)
  method_plain place t method.Nothing args at = λ h. absurd h.0
  method_plain place t m args at = noted_plain place t m args at

  member_plain : (place : CallPlace) (t : Thing) (m : Method) (args : ℕ) (at dot : Position) → Plain (member_notes place t m args at dot)
  member_plain place thing.Nothing m args at dot = λ h. absurd h.0
  member_plain place t m args at dot = method_plain place t m args dot

  target_plain : (m : Method) (e : CheckedExpr) → Plain (target_notes m e)
  target_plain method.NbRead e = breach_plain (not (is_target e)) what.WrongKind (first_of e)
  target_plain _ e = λ h. tt

  -- ---- expressions

  abbrev PlainExpr : Expr → Type 0
  PlainExpr e = (s : Scope) → Plain (expr_of e s).notes

  abbrev Shown : Type 0
  Shown = (e : Expr) × PlainExpr e

  at_form : (y : Expr-F Expr) (s : Scope) → Plain (expr_step (map-Expr Expr (Scope → Checked CheckedExpr) expr_of y) s).notes →
      Plain (expr_of (roll-Expr y) s).notes
  unfolding expr_of
  at_form y s h = subst (λ (f : Scope → Checked CheckedExpr). Plain (f s).notes) (sym (fold-roll-Expr (Scope → Checked CheckedExpr) expr_step y)) h

  step : (y : Expr-F Shown) → PlainExpr (roll-Expr (map-Expr Shown Expr (λ e. e.0) y))
  step (layer.Number x) s = at_form (layer.Number x) s (λ h. tt)
  step (layer.Truth x at) s = at_form (layer.Truth x at) s (λ h. tt)
  step (layer.Name w) s = at_form (layer.Name w) s (name_plain (meaning_of s w.name).thing _ w.position)
  step (layer.Paren at e) s = at_form (layer.Paren at e.0) s (e.1 s)
  step (layer.Index w i) s =
      at_form (layer.Index w i.0) s (both_plain _ (expr_of i.0 s).notes (name_plain (meaning_of s w.name).thing _ w.position) (i.1 s))
  step (layer.Call w es) s =
      at_form (layer.Call w (map (λ e. e.0) es)) s (λ h.
      absurd (no_call (meaning_of s w.name) _ w.position (first_part (MayBeWritten l) (call_notes Inside (meaning_of s w.name) _ w.position) _ h)))
  step (layer.Member w after None) s =
      let t = (meaning_of s w.name).thing in
      let m = method_of t after.name in
      at_form (layer.Member w after None) s (both_plain (member_notes Inside t m 0 w.position after.position) []
      (member_plain Inside t m 0 w.position after.position) (λ h. tt))
  step (layer.Member w after (Some e)) s =
      let t = (meaning_of s w.name).thing in
      let m = method_of t after.name in
      let r = expr_of e.0 s in
      at_form (layer.Member w after (Some e.0)) s (both_plain (member_notes Inside t m 1 w.position after.position) (r.notes ++ target_notes m r.tree)
      (member_plain Inside t m 1 w.position after.position) (both_plain r.notes (target_notes m r.tree) (e.1 s) (target_plain m r.tree)))
  step (layer.Prefix at op e) s = at_form (layer.Prefix at op e.0) s (e.1 s)
  step (layer.Cast at t e) s = at_form (layer.Cast at t e.0) s (e.1 s)
  step (layer.Conversion t e) s = at_form (layer.Conversion t e.0) s (e.1 s)
  step (layer.Binary op x y) s =
      at_form (layer.Binary op x.0 y.0) s (both_plain (expr_of x.0 s).notes (expr_of y.0 s).notes (x.1 s) (y.1 s))
  step (layer.Choose t x y) s =
      at_form (layer.Choose t.0 x.0 y.0) s (both_plain ((expr_of t.0 s).notes ++ (expr_of x.0 s).notes) (expr_of y.0 s).notes
      (both_plain (expr_of t.0 s).notes (expr_of x.0 s).notes (t.1 s) (x.1 s)) (y.1 s))

  expr_plain : (e : Expr) → PlainExpr e
  expr_plain = ind-Expr PlainExpr (λ x y e. subst (λ x. PlainExpr (roll-Expr x)) e (step y))

  exprs_plain : (es : List Expr) (s : Scope) → Plain (all_notes (exprs_of es s))
  exprs_plain [] s = λ h. tt
  exprs_plain (e ∷ es) s = both_plain (expr_of e s).notes (all_notes (exprs_of es s)) (expr_plain e s) (exprs_plain es s)

  option_plain : (o : Option Expr) (s : Scope) → Plain (option_notes (option_of o s))
  option_plain None s = λ h. tt
  option_plain (Some e) s = expr_plain e s

  argument_plain : (m : Method) (o : Option Expr) (s : Scope) → Plain (argument_notes m (option_of o s))
  argument_plain m None s = λ h. tt
  argument_plain m (Some e) s =
      both_plain (expr_of e s).notes (target_notes m (expr_of e s).tree) (expr_plain e s) (target_plain m (expr_of e s).tree)

  -- ---- whole right sides

  out_roll : (y : CheckedExpr-F CheckedExpr) → out-CheckedExpr (roll-CheckedExpr y) ≡ y
  out_roll y = search the_lemmas

  calls_at : (z : CheckedExpr-F CheckedExpr) (t : CheckedExpr) → roll-CheckedExpr z ≡ t → right_calls t ≡ calls_step z
  calls_at z t is = ap calls_step (ap out-CheckedExpr (sym is) ∙ out_roll z)

  right_by : (y : Expr-F Expr) (e : Expr) (s : Scope) → Fine (right_step y e s).notes (right_calls (right_step y e s).tree)
  right_by (layer.Call w es) e s =
      let d = meaning_of s w.name in
      let args = trees (exprs_of es s) in
      subst (Fine (right_step (layer.Call w es) e s).notes) (sym (calls_at (form.Call _ (resolved s w) args) _ (checked.rolls-Call _ _ _)))
      (plain_then (call_notes Whole d (length (exprs_of es s)) w.position) (all_notes (exprs_of es s)) (d.number ∷ [])
      (call_fine Whole d (length (exprs_of es s)) w.position) (exprs_plain es s))
  right_by (layer.Member w after arg) e s = λ h c.
      let t = (meaning_of s w.name).thing in
      let m = method_of t after.name in
      both_plain (member_notes Whole t m (count_of (option_of arg s)) w.position after.position) (argument_notes m (option_of arg s))
      (member_plain Whole t m (count_of (option_of arg s)) w.position after.position) (argument_plain m arg s) h
  right_by _ e s = λ h c. expr_plain e s h

  right_fine : (e : Expr) (s : Scope) → Fine (right_of e s).notes (right_calls (right_of e s).tree)
  right_fine e s = right_by (out-Expr e) e s

  -- ---- simple statements

  target_of_plain : (compound : Bool) (t : Target) (s : Scope) → Plain (target_of compound t s).notes
  target_of_plain compound t s =
      both_plain _ (option_notes (option_of t.index s)) (name_plain (meaning_of s t.name.name).thing _ t.name.position) (option_plain t.index s)

  time_plain : (t : TimeForm) (s : Scope) → Plain (time_of t s).notes
  time_plain (time.Zero at) s = λ h. tt
  time_plain (time.Made at e scale) s = expr_plain e s
  time_plain (time.Amount e scale) s = expr_plain e s

  call_event_plain : (meant call : Bool) (at : Position) → Plain (event_call_notes meant call at)
  call_event_plain true call at = λ h. tt
  call_event_plain false true at = λ h. absurd h.0
  call_event_plain false false at = λ h. absurd h.0

  known_plain : (known meant call : Bool) (at name : Position) →
      Plain (if known then event_call_notes meant call at else Breaks what.UnknownName name ∷ [])
  known_plain true meant call at name = call_event_plain meant call at
  known_plain false meant call at name = λ h. absurd h.0

  event_plain_by : (r : Resolved) (o : Option Word) → Plain (event_notes false r o)
  event_plain_by r None = name_plain r.denotes.thing _ r.word.position
  event_plain_by r (Some w) = known_plain (is_known r.denotes.thing) _ (is_call_of r.denotes.thing w.name) w.position r.word.position

  events_plain : (es : List Event) (s : Scope) → Plain (all_notes (events_of false es s))
  events_plain [] s = λ h. tt
  events_plain (e ∷ es) s =
      both_plain (event_of false e s).notes (all_notes (events_of false es s)) (event_plain_by (resolved s e.name) e.call) (events_plain es s)

  awaited_plain : (w : Awaited) (s : Scope) → Plain (awaited_of w s).notes
  awaited_plain awaited.Sensitive s = λ h. tt
  awaited_plain (awaited.Delay t) s = time_plain t s
  awaited_plain (awaited.Until t es) s =
      both_plain (time_of t s).notes (all_notes (events_of false es s)) (time_plain t s) (events_plain es s)
  awaited_plain (awaited.Events es) s = events_plain es s

  item_plain : (x : PrintItem) (s : Scope) → Plain (item_of x s).notes
  item_plain (item.Value e) s = expr_plain e s
  item_plain (item.Text t) s = λ h. tt
  item_plain (item.Line at) s = λ h. tt
  item_plain (item.TimeStamp at) s = λ h. tt

  items_plain : (xs : List PrintItem) (s : Scope) → Plain (all_notes (items_of xs s))
  items_plain [] s = λ h. tt
  items_plain (x ∷ xs) s = both_plain (item_of x s).notes (all_notes (items_of xs s)) (item_plain x s) (items_plain xs s)

  notify_plain_by : (known own : Bool) (at dot : Position) →
      Plain (if known then breach_when (not own) what.UnknownName dot else Breaks what.UnknownName at ∷ [])
  notify_plain_by true own at dot = breach_plain (not own) what.UnknownName dot
  notify_plain_by false own at dot = λ h. absurd h.0

  notify_plain : (t : Thing) (at dot : Position) → Plain (notify_notes t at dot)
  notify_plain t at dot = notify_plain_by (is_known t) (is_own_event t) at dot

  value_fine : (compound : Bool) (e : Expr) (s : Scope) → Fine (value_of compound e s).notes (right_calls (value_of compound e s).tree)
  value_fine true e s = λ h c. expr_plain e s h
  value_fine false e s = right_fine e s

  simple_fine : (x : Simple) (s : Scope) → Fine (simple_of x s).notes (simple_calls (simple_of x s).tree)
  simple_fine (simple.Assign t op e) s =
      plain_first (target_of (is_compound op) t s).notes (value_of (is_compound op) e s).notes _ (target_of_plain (is_compound op) t s)
      (value_fine (is_compound op) e s)
  simple_fine (simple.StepAfter t op) s = λ h c. target_of_plain true t s h
  simple_fine (simple.StepBefore at op t) s = λ h c. target_of_plain true t s h
  simple_fine (simple.Call w es) s =
      let d = meaning_of s w.name in
      plain_then (call_notes Statement d (length es) w.position) (all_notes (exprs_of es s)) (d.number ∷ [])
      (call_fine Statement d (length es) w.position) (exprs_plain es s)
  simple_fine (simple.Member w after arg) s = λ h c.
      let t = (meaning_of s w.name).thing in
      let m = method_of t after.name in
      both_plain (member_notes Statement t m (count_of arg) w.position after.position) (argument_notes m (option_of arg s))
      (member_plain Statement t m (count_of arg) w.position after.position) (argument_plain m arg s) h
  simple_fine (simple.Notify w dot t) s = λ h c.
      both_plain (notify_notes (meaning_of s w.name).thing w.position dot) (time_of t s).notes
      (notify_plain (meaning_of s w.name).thing w.position dot) (time_plain t s) h
  simple_fine (simple.Cancel w dot) s = λ h c. notify_plain (meaning_of s w.name).thing w.position dot h
  simple_fine (simple.Wait at w) s = λ h c. (h.0, awaited_plain w s h.1)
  simple_fine (simple.NextTrigger at w) s = λ h c. (tt, awaited_plain w s h.1)
  simple_fine (simple.Stop at) s = λ h c. tt
  simple_fine (simple.Print at xs) s = λ h c. items_plain xs s h

  -- ---- statements

  initial_fine : (o : Option Expr) (s : Scope) → Fine (option_notes (initial_of o s)) (initial_calls (tree_of (initial_of o s)))
  initial_fine None s = λ h c. tt
  initial_fine (Some e) s = right_fine e s

  declarators_fine : (k : Kind) (cx : Context) (ds : List Declarator) (s : Scope) →
      Fine (declarators_of k cx ds s).notes (declarator_calls (declarators_of k cx ds s).tree)
  declarators_fine k cx [] s = λ h c. tt
  declarators_fine k cx (d ∷ ds) s =
      let first = declarator_of k cx d s in
      let again = breach_when (is_declared_here s d.name.name) what.DeclaredTwice d.name.position in
      both_fine first.notes (declarators_of k cx ds first.scope).notes (initial_calls first.tree.value)
      (declarator_calls (declarators_of k cx ds first.scope).tree)
      (plain_first again (option_notes (initial_of d.value s)) (initial_calls first.tree.value)
      (breach_plain (is_declared_here s d.name.name) what.DeclaredTwice d.name.position) (initial_fine d.value s))
      (declarators_fine k cx ds first.scope)

  start_fine : (cx : Context) (o : Option ForStart) (s : Scope) → Fine (option_start_of cx o s).notes (start_calls (option_start_of cx o s).tree)
  start_fine cx None s = λ h c. tt
  start_fine cx (Some (start.Local x)) s = declarators_fine (kind_written x.form.form) cx x.names s
  start_fine cx (Some (start.Simple x)) s = simple_fine x s

  after_fine : (o : Option Simple) (s : Scope) → Fine (step_of o s).notes (step_calls (step_of o s).tree)
  after_fine None s = λ h c. tt
  after_fine (Some x) s = simple_fine x s

  abbrev FineStat : Stat → Type 0
  FineStat x = (cx : Context) (s : Scope) → Fine (stat_of x cx s).notes (stat_calls (stat_of x cx s).tree)

  abbrev ShownStat : Type 0
  ShownStat = (x : Stat) × FineStat x

  calls_of_form : (z : CheckedStat-F CheckedStat) (t : CheckedStat) → roll-CheckedStat z ≡ t →
      stat_calls t ≡ stat_calls_step (map-CheckedStat CheckedStat (List ℕ) stat_calls z)
  unfolding stat_calls
  calls_of_form z t is = ap stat_calls (sym is) ∙ fold-roll-CheckedStat (List ℕ) stat_calls_step z

  stat_at : (y : Stat-F Stat) (z : CheckedStat-F CheckedStat) (cx : Context) (s : Scope) →
      roll-CheckedStat z ≡ (stat_step (map-Stat Stat Reading stat_of y) cx s).tree →
      Fine (stat_step (map-Stat Stat Reading stat_of y) cx s).notes (stat_calls_step (map-CheckedStat CheckedStat (List ℕ) stat_calls z)) →
      Fine (stat_of (roll-Stat y) cx s).notes (stat_calls (stat_of (roll-Stat y) cx s).tree)
  unfolding stat_of
  stat_at y z cx s is h =
      let r = stat_step (map-Stat Stat Reading stat_of y) cx s in
      subst (λ (f : Reading). Fine (f cx s).notes (stat_calls (f cx s).tree)) (sym (fold-roll-Stat Reading stat_step y))
      (subst (Fine r.notes) (sym (calls_of_form z r.tree is)) h)

  readings_fine : (xs : List ShownStat) (cx : Context) (s : Scope) →
      let r = readings_of (map stat_of (map (λ x. x.0) xs)) cx s in Fine r.notes (all_of (map stat_calls r.tree))
  readings_fine [] cx s = λ h c. tt
  readings_fine (x ∷ xs) cx s =
      let first = stat_of x.0 cx s in
      let others = readings_of (map stat_of (map (λ x. x.0) xs)) cx first.scope in
      both_fine first.notes others.notes (stat_calls first.tree) (all_of (map stat_calls others.tree)) (x.1 cx s) (readings_fine xs cx first.scope)

  return_plain : (gives : Option Kind) (e : Option Expr) (at : Position) → Plain (return_notes gives e at)
  return_plain None None at = λ h. tt
  return_plain (Some k) (Some e) at = λ h. tt
  return_plain None (Some e) at = λ h. absurd h.0
  return_plain (Some k) None at = λ h. absurd h.0

  stat_steps : (y : Stat-F ShownStat) → FineStat (roll-Stat (map-Stat ShownStat Stat (λ x. x.0) y))
  stat_steps (stat.Block at xs) cx s =
      stat_at (stat.Block at (map (λ x. x.0) xs)) (shape.Block at _) cx s (tree.rolls-Block at _) (readings_fine xs cx (entered s))
  stat_steps (stat.Empty at) cx s = stat_at (stat.Empty at) (shape.Empty at) cx s (tree.rolls-Empty at) (λ h c. tt)
  stat_steps (stat.Local x) cx s =
      stat_at (stat.Local x) (shape.Local _) cx s (tree.rolls-Local _) (declarators_fine (kind_written x.form.form) cx x.names s)
  stat_steps (stat.Simple x) cx s = stat_at (stat.Simple x) (shape.Simple _) cx s (tree.rolls-Simple _) (simple_fine x s)
  stat_steps (stat.If at e x None) cx s =
      let test = expr_of e s in
      let yes = inner (stat_of x.0) cx s in
      stat_at (stat.If at e x.0 None) (shape.If at test.tree yes.tree None) cx s (tree.rolls-If at _ _ None)
      (both_fine (test.notes ++ yes.notes) [] (stat_calls yes.tree) []
      (plain_first test.notes yes.notes (stat_calls yes.tree) (expr_plain e s) (x.1 cx (entered s))) (λ h c. tt))
  stat_steps (stat.If at e x (Some y)) cx s =
      let test = expr_of e s in
      let yes = inner (stat_of x.0) cx s in
      let other = inner (stat_of y.0) cx yes.scope in
      stat_at (stat.If at e x.0 (Some y.0)) (shape.If at test.tree yes.tree (Some other.tree)) cx s (tree.rolls-If at _ _ (Some _))
      (both_fine (test.notes ++ yes.notes) other.notes (stat_calls yes.tree) (stat_calls other.tree)
      (plain_first test.notes yes.notes (stat_calls yes.tree) (expr_plain e s) (x.1 cx (entered s))) (y.1 cx (entered yes.scope)))
  stat_steps (stat.While at e x) cx s =
      let test = expr_of e s in
      let body = inner (stat_of x.0) (looped cx) s in
      stat_at (stat.While at e x.0) (shape.While at test.tree body.tree) cx s (tree.rolls-While at _ _)
      (plain_first test.notes body.notes (stat_calls body.tree) (expr_plain e s) (x.1 (looped cx) (entered s)))
  stat_steps (stat.Do at x e) cx s =
      let body = inner (stat_of x.0) (looped cx) s in
      let test = expr_of e body.scope in
      stat_at (stat.Do at x.0 e) (shape.Do at body.tree test.tree) cx s (tree.rolls-Do at _ _)
      (plain_then body.notes test.notes (stat_calls body.tree) (x.1 (looped cx) (entered s)) (expr_plain e body.scope))
  stat_steps (stat.For at begin e after x) cx s =
      let first = option_start_of cx begin (entered s) in
      let test = option_notes (option_of e first.scope) in
      let ends = step_of after first.scope in
      let body = inner (stat_of x.0) (looped cx) first.scope in
      stat_at (stat.For at begin e after x.0) (shape.For at first.tree (tree_of (option_of e first.scope)) ends.tree body.tree) cx s
      (tree.rolls-For at _ _ _ _)
      (both_fine (first.notes ++ test ++ ends.notes) body.notes (start_calls first.tree ++ step_calls ends.tree) (stat_calls body.tree)
      (both_fine (first.notes ++ test) ends.notes (start_calls first.tree) (step_calls ends.tree)
      (plain_then first.notes test (start_calls first.tree) (start_fine cx begin (entered s)) (option_plain e first.scope))
      (after_fine after first.scope)) (x.1 (looped cx) (entered first.scope)))
  stat_steps (stat.Break at) cx s =
      stat_at (stat.Break at) (shape.Break at) cx s (tree.rolls-Break at) (λ h c. breach_plain (not cx.in_loop) what.WrongKind at h)
  stat_steps (stat.Continue at) cx s =
      stat_at (stat.Continue at) (shape.Continue at) cx s (tree.rolls-Continue at) (λ h c. breach_plain (not cx.in_loop) what.WrongKind at h)
  stat_steps (stat.Return at e) cx s =
      stat_at (stat.Return at e) (shape.Return at (tree_of (option_of e s))) cx s (tree.rolls-Return at _) (λ h c.
      both_plain (return_notes cx.result e at) (option_notes (option_of e s)) (return_plain cx.result e at) (option_plain e s) h)

  stat_fine : (x : Stat) → FineStat x
  stat_fine = ind-Stat FineStat (λ x y e. subst (λ x. FineStat (roll-Stat x)) e (stat_steps y))

  stats_fine : (xs : List Stat) (cx : Context) (s : Scope) → Fine (stats_of xs cx s).notes (body_calls (stats_of xs cx s).tree)
  stats_fine [] cx s = λ h c. tt
  stats_fine (x ∷ xs) cx s =
      let first = stat_of x cx s in
      both_fine first.notes (stats_of xs cx first.scope).notes (stat_calls first.tree) (body_calls (stats_of xs cx first.scope).tree)
      (stat_fine x cx s) (stats_fine xs cx first.scope)

pub calls_are_written : CallsAreWritten
calls_are_written l s cx xs h c = stats_fine l xs cx s h (recursion_from_All (Contains l.calls) _ c)
