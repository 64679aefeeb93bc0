-- The calls that stand in a body without breaches, as whole right sides or as statements, are noted.
use Rattle.std.proofs.Common.{◌≡◌, refl, ◌∙◌, ap, sym, subst, ℕ, List, [], ◌∷◌, ◌++◌, map, length, Bool, true, false, Option, Some, None}
use Rattle.std.specs.Prelude.{Contains, ◌&&◌, not, ◌==◌, is_some}
use Rattle.std.specs.List.{AllByRecursion}
use Rattle.std.proofs.lemmas.List.Elements.{All-from_recursion}
use Rattle.ooo_lemmas.proofs.Each.{of_both, first_part, then_part}
use Rattle.ooo_lexer.specs.declared.position.Position.{Position}
use Rattle.ooo_value.specs.declared.kinds.Kind.{Kind}
use Rattle.ooo_syntax.specs.declared.expr.Expr.{Expr, Expr-F, map-Expr, roll-Expr, out-Expr, fold-roll-Expr, ind-Expr}
use Rattle.ooo_syntax.specs.declared.expr.Expr.TheOpen as layer
use Rattle.ooo_syntax.specs.declared.stat.Declarator.{Declarator}
use Rattle.ooo_syntax.specs.declared.stat.Simple.{Simple}
use Rattle.ooo_syntax.specs.declared.stat.Simple.TheVariants as simple
use Rattle.ooo_syntax.specs.declared.stat.ForStart.{ForStart}
use Rattle.ooo_syntax.specs.declared.stat.ForStart.TheVariants as start
use Rattle.ooo_syntax.specs.declared.stat.Stat.{Stat, Stat-F, map-Stat, roll-Stat, fold-roll-Stat, ind-Stat}
use Rattle.ooo_syntax.specs.declared.stat.Stat.TheOpen as stat
use Rattle.ooo_checked.specs.declared.breach.TypeBreach.TheVariants as what
use Rattle.ooo_checked.specs.declared.context.Context.{Context}
use Rattle.ooo_checked.specs.declared.denotation.Denotation.{Denotation}
use Rattle.ooo_checked.specs.declared.denotation.Thing.{Thing}
use Rattle.ooo_checked.specs.declared.denotation.Thing.TheVariants as thing
use Rattle.ooo_checked.specs.declared.expr.CheckedExpr.{CheckedExpr, CheckedExpr-F, roll-CheckedExpr, out-CheckedExpr, the_lemmas}
use Rattle.ooo_checked.specs.declared.expr.CheckedExpr.TheOpen as form
use Rattle.ooo_checked.specs.declared.expr.CheckedExpr.TheVariants as checked
use Rattle.ooo_checked.specs.declared.place.CallPlace.{CallPlace}
use Rattle.ooo_checked.specs.declared.place.CallPlace.TheVariants.{Inside, Whole, Statement}
use Rattle.ooo_checked.specs.declared.stat.CheckedStat.{CheckedStat, CheckedStat-F, map-CheckedStat, roll-CheckedStat, fold-roll-CheckedStat}
use Rattle.ooo_checked.specs.declared.stat.CheckedStat.TheOpen as shape
use Rattle.ooo_checked.specs.declared.stat.CheckedStat.TheVariants as tree
use Rattle.ooo_checked.specs.CallPlaces.{is_inside, is_used}
use Rattle.ooo_checked.specs.Exprs.{expr_of, expr_step, exprs_of, option_of, tree_of, kind_written, resolved, call_notes, function_notes, right_of, right_step}
use Rattle.ooo_checked.specs.Notes.{Note, Breaks, Calls, Checked, breach_when, trees, all_notes}
use Rattle.ooo_checked.specs.Scopes.{Scope, entered, is_declared_here, meaning_of}
use Rattle.ooo_checked.specs.Stats.{Reading, target_of, value_of, is_compound, option_notes, simple_of, initial_of, declarator_of, declarators_of, option_start_of, step_of, readings_of, inner, looped, stat_of, stat_step, stats_of}
use Rattle.ooo_constants.specs.Bodies.{all_of, right_calls, initial_calls, declarator_calls, simple_calls, step_calls, start_calls, stat_calls, stat_calls_step, body_calls, right_step as calls_step}
use Rattle.ooo_sound_model.specs.Naming.{Leave, MayBeNoted, MayAllBeNoted}
use Rattle.ooo_sound_model.specs.Noted.{CallsAreNoted}

module _ (l : Leave) where
  -- where these may be noted, these functions may be called
  abbrev Fine : List Note → List ℕ → Type 0
  Fine ns cs = MayAllBeNoted l ns → AllByRecursion (Contains l.calls) cs

  both_fine : (xs ys : List Note) (cs ds : List ℕ) → Fine xs cs → Fine ys ds → Fine (xs ++ ys) (cs ++ ds)
  both_fine xs ys cs ds f g h =
      of_both (Contains l.calls) cs ds (f (first_part (MayBeNoted l) xs ys h)) (g (then_part (MayBeNoted l) xs ys h))

  -- a part before, and behind, that has no calls
  plain_first : (xs ys : List Note) (cs : List ℕ) → Fine ys cs → Fine (xs ++ ys) cs
  plain_first xs ys cs g h = g (then_part (MayBeNoted l) xs ys h)

  plain_then : (xs ys : List Note) (cs : List ℕ) → Fine xs cs → Fine (xs ++ ys) cs
  plain_then xs ys cs f h = f (first_part (MayBeNoted l) xs ys h)

  -- ---- calls

  function_fine : (place : CallPlace) (gives : Option Kind) (params f args : ℕ) (at : Position) → Fine (function_notes place gives params f args at) (f ∷ [])
  function_fine place gives params f args at =
      let used = breach_when (is_used place && not (is_some gives)) what.WrongKind at in
      let inside = breach_when (is_inside place) what.EffectInside at in
      let counted = breach_when (not (args == params)) what.WrongCount at in
      plain_first (used ++ inside ++ counted) (Calls at f ∷ []) (f ∷ []) (λ h. (h.0, tt))

  -- inside an expression no call of a function may be written
  no_function : (gives : Option Kind) (params f args : ℕ) (at : Position) → MayAllBeNoted l (function_notes Inside gives params f args at) → ⊥
  no_function gives params f args at h =
      let used = breach_when (is_used Inside && not (is_some gives)) what.WrongKind at in
      let inside = breach_when (is_inside Inside) what.EffectInside at in
      let counted = breach_when (not (args == params)) what.WrongCount at in
      (then_part (MayBeNoted l) used inside (first_part (MayBeNoted l) (used ++ inside) counted
      (first_part (MayBeNoted l) (used ++ inside ++ counted) (Calls at f ∷ []) h))).0

  abbrev call_notes_by : CallPlace → Denotation → ℕ → Position → Thing → List Note
  call_notes_by place d args at t = elim t [
    | thing.Nothing ↦ Breaks what.UnknownName at ∷ []
    | thing.Function gives params ↦ function_notes place gives params d.number args at
    | _ ↦ Breaks what.WrongKind at ∷ []
  ]

  call_by : (place : CallPlace) (d : Denotation) (args : ℕ) (at : Position) (t : Thing) → Fine (call_notes_by place d args at t) (d.number ∷ [])
  call_by place d args at (thing.Function gives params) = function_fine place gives params d.number args at
  call_by place d args at _ = λ h. absurd h.0

  call_fine : (place : CallPlace) (d : Denotation) (args : ℕ) (at : Position) → Fine (call_notes place d args at) (d.number ∷ [])
  call_fine place d args at = call_by place d args at d.thing

  no_call_by : (d : Denotation) (args : ℕ) (at : Position) (t : Thing) → MayAllBeNoted l (call_notes_by Inside d args at t) → ⊥
  no_call_by d args at (thing.Function gives params) h = no_function gives params d.number args at h
  no_call_by d args at _ h = h.0

  no_call : (d : Denotation) (args : ℕ) (at : Position) → MayAllBeNoted l (call_notes Inside d args at) → ⊥
  no_call d args at h = no_call_by d args at d.thing h

  -- ---- expressions

  out_roll : (y : CheckedExpr-F CheckedExpr) → out-CheckedExpr (roll-CheckedExpr y) ≡ y
  out_roll y = search the_lemmas

  calls_at : (z : CheckedExpr-F CheckedExpr) (t : CheckedExpr) → roll-CheckedExpr z ≡ t → right_calls t ≡ calls_step z
  calls_at z t is = ap calls_step (ap out-CheckedExpr (sym is) ∙ out_roll z)

  -- an expression that is no call has none
  none_at : (z : CheckedExpr-F CheckedExpr) (t : CheckedExpr) → roll-CheckedExpr z ≡ t → calls_step z ≡ [] → AllByRecursion (Contains l.calls) (right_calls t)
  none_at z t is none = subst (AllByRecursion (Contains l.calls)) (sym (calls_at z t is ∙ none)) tt

  abbrev step_at : Expr-F Expr → Scope → Checked CheckedExpr
  step_at y s = expr_step (map-Expr Expr (Scope → Checked CheckedExpr) expr_of y) s

  silent_step : (y : Expr-F Expr) (s : Scope) → MayAllBeNoted l (step_at y s).notes → AllByRecursion (Contains l.calls) (right_calls (step_at y s).tree)
  silent_step (layer.Number x) s h = none_at (form.Number _ _) _ (checked.rolls-Number _ _) refl
  silent_step (layer.Truth x at) s h = none_at (form.Truth _ _) _ (checked.rolls-Truth _ _) refl
  silent_step (layer.Name w) s h = none_at (form.Name _ _) _ (checked.rolls-Name _ _) refl
  silent_step (layer.Paren at e) s h = none_at (form.Paren _ _ _) _ (checked.rolls-Paren _ _ _) refl
  silent_step (layer.Index w i) s h = none_at (form.Index _ _ _) _ (checked.rolls-Index _ _ _) refl
  silent_step (layer.Call w es) s h =
      absurd (no_call (meaning_of s w.name) _ w.position (first_part (MayBeNoted l) (call_notes Inside (meaning_of s w.name) _ w.position) _ h))
  silent_step (layer.Member w after None) s h = none_at (form.Member _ _ _ _ None) _ (checked.rolls-Member _ _ _ _ _) refl
  silent_step (layer.Member w after (Some e)) s h =
      none_at (form.Member _ _ _ _ (Some (expr_of e s).tree)) _ (checked.rolls-Member _ _ _ _ _) refl
  silent_step (layer.Prefix at op e) s h = none_at (form.Prefix _ _ _ _) _ (checked.rolls-Prefix _ _ _ _) refl
  silent_step (layer.Cast at t e) s h = none_at (form.Cast _ _ _ _) _ (checked.rolls-Cast _ _ _ _) refl
  silent_step (layer.Conversion t e) s h = none_at (form.Conversion _ _ _) _ (checked.rolls-Conversion _ _ _) refl
  silent_step (layer.Binary op x y) s h = none_at (form.Binary _ _ _ _) _ (checked.rolls-Binary _ _ _ _) refl
  silent_step (layer.Choose t x y) s h = none_at (form.Choose _ _ _ _) _ (checked.rolls-Choose _ _ _ _) refl

  silent_at : (y : Expr-F Expr) (s : Scope) → MayAllBeNoted l (expr_of (roll-Expr y) s).notes → AllByRecursion (Contains l.calls) (right_calls (expr_of (roll-Expr y) s).tree)
  unfolding expr_of
  silent_at y s =
      subst (λ (f : Scope → Checked CheckedExpr). MayAllBeNoted l (f s).notes → AllByRecursion (Contains l.calls) (right_calls (f s).tree))
      (sym (fold-roll-Expr (Scope → Checked CheckedExpr) expr_step y)) (silent_step y s)

  abbrev Silent : Expr → Type 0
  Silent e = (s : Scope) → MayAllBeNoted l (expr_of e s).notes → AllByRecursion (Contains l.calls) (right_calls (expr_of e s).tree)

  abbrev Shown : Type 0
  Shown = (e : Expr) × Silent e

  silent : (e : Expr) → Silent e
  silent = ind-Expr Silent (λ x y e. subst (λ x. Silent (roll-Expr x)) e (silent_at (map-Expr Shown Expr (λ e. e.0) y)))

  -- ---- whole right sides

  right_by : (y : Expr-F Expr) (e : Expr) (s : Scope) → Fine (right_step y e s).notes (right_calls (right_step y e s).tree)
  right_by (layer.Call w es) e s =
      let d = meaning_of s w.name in
      let args = trees (exprs_of es s) in
      subst (Fine (right_step (layer.Call w es) e s).notes) (sym (calls_at (form.Call _ (resolved s w) args) _ (checked.rolls-Call _ _ _)))
      (plain_then (call_notes Whole d (length (exprs_of es s)) w.position) (all_notes (exprs_of es s)) (d.number ∷ [])
      (call_fine Whole d (length (exprs_of es s)) w.position))
  right_by (layer.Member w after arg) e s = λ h. none_at (form.Member _ _ _ _ (tree_of (option_of arg s))) _ (checked.rolls-Member _ _ _ _ _) refl
  right_by _ e s = λ h. silent e s h

  right_fine : (e : Expr) (s : Scope) → Fine (right_of e s).notes (right_calls (right_of e s).tree)
  right_fine e s = right_by (out-Expr e) e s

  -- ---- simple statements

  value_fine : (compound : Bool) (e : Expr) (s : Scope) → Fine (value_of compound e s).notes (right_calls (value_of compound e s).tree)
  value_fine true e s = λ h. silent e s h
  value_fine false e s = right_fine e s

  simple_fine : (x : Simple) (s : Scope) → Fine (simple_of x s).notes (simple_calls (simple_of x s).tree)
  simple_fine (simple.Assign t op e) s =
      plain_first (target_of (is_compound op) t s).notes (value_of (is_compound op) e s).notes _ (value_fine (is_compound op) e s)
  simple_fine (simple.Call w es) s =
      let d = meaning_of s w.name in
      plain_then (call_notes Statement d (length es) w.position) (all_notes (exprs_of es s)) (d.number ∷ [])
      (call_fine Statement d (length es) w.position)
  simple_fine _ s = λ h. tt

  -- ---- statements

  initial_fine : (o : Option Expr) (s : Scope) → Fine (option_notes (initial_of o s)) (initial_calls (tree_of (initial_of o s)))
  initial_fine None s = λ h. tt
  initial_fine (Some e) s = right_fine e s

  declarators_fine : (k : Kind) (cx : Context) (ds : List Declarator) (s : Scope) →
      Fine (declarators_of k cx ds s).notes (declarator_calls (declarators_of k cx ds s).tree)
  declarators_fine k cx [] s = λ h. tt
  declarators_fine k cx (d ∷ ds) s =
      let first = declarator_of k cx d s in
      let again = breach_when (is_declared_here s d.name.name) what.DeclaredTwice d.name.position in
      both_fine first.notes (declarators_of k cx ds first.scope).notes (initial_calls first.tree.value)
      (declarator_calls (declarators_of k cx ds first.scope).tree)
      (plain_first again (option_notes (initial_of d.value s)) (initial_calls first.tree.value) (initial_fine d.value s))
      (declarators_fine k cx ds first.scope)

  start_fine : (cx : Context) (o : Option ForStart) (s : Scope) → Fine (option_start_of cx o s).notes (start_calls (option_start_of cx o s).tree)
  start_fine cx None s = λ h. tt
  start_fine cx (Some (start.Local x)) s = declarators_fine (kind_written x.form.form) cx x.names s
  start_fine cx (Some (start.Simple x)) s = simple_fine x s

  after_fine : (o : Option Simple) (s : Scope) → Fine (step_of o s).notes (step_calls (step_of o s).tree)
  after_fine None s = λ h. tt
  after_fine (Some x) s = simple_fine x s

  abbrev FineStat : Stat → Type 0
  FineStat x = (cx : Context) (s : Scope) → Fine (stat_of x cx s).notes (stat_calls (stat_of x cx s).tree)

  abbrev ShownStat : Type 0
  ShownStat = (x : Stat) × FineStat x

  calls_of_form : (z : CheckedStat-F CheckedStat) (t : CheckedStat) → roll-CheckedStat z ≡ t →
      stat_calls t ≡ stat_calls_step (map-CheckedStat CheckedStat (List ℕ) stat_calls z)
  unfolding stat_calls
  calls_of_form z t is = ap stat_calls (sym is) ∙ fold-roll-CheckedStat (List ℕ) stat_calls_step z

  stat_at : (y : Stat-F Stat) (z : CheckedStat-F CheckedStat) (cx : Context) (s : Scope) →
      roll-CheckedStat z ≡ (stat_step (map-Stat Stat Reading stat_of y) cx s).tree →
      Fine (stat_step (map-Stat Stat Reading stat_of y) cx s).notes (stat_calls_step (map-CheckedStat CheckedStat (List ℕ) stat_calls z)) →
      Fine (stat_of (roll-Stat y) cx s).notes (stat_calls (stat_of (roll-Stat y) cx s).tree)
  unfolding stat_of
  stat_at y z cx s is h =
      let r = stat_step (map-Stat Stat Reading stat_of y) cx s in
      subst (λ (f : Reading). Fine (f cx s).notes (stat_calls (f cx s).tree)) (sym (fold-roll-Stat Reading stat_step y))
      (subst (Fine r.notes) (sym (calls_of_form z r.tree is)) h)

  readings_fine : (xs : List ShownStat) (cx : Context) (s : Scope) →
      let r = readings_of (map stat_of (map (λ x. x.0) xs)) cx s in Fine r.notes (all_of (map stat_calls r.tree))
  readings_fine [] cx s = λ h. tt
  readings_fine (x ∷ xs) cx s =
      let first = stat_of x.0 cx s in
      let others = readings_of (map stat_of (map (λ x. x.0) xs)) cx first.scope in
      both_fine first.notes others.notes (stat_calls first.tree) (all_of (map stat_calls others.tree)) (x.1 cx s) (readings_fine xs cx first.scope)

  stat_steps : (y : Stat-F ShownStat) → FineStat (roll-Stat (map-Stat ShownStat Stat (λ x. x.0) y))
  stat_steps (stat.Block at xs) cx s =
      stat_at (stat.Block at (map (λ x. x.0) xs)) (shape.Block at _) cx s (tree.rolls-Block at _) (readings_fine xs cx (entered s))
  stat_steps (stat.Empty at) cx s = stat_at (stat.Empty at) (shape.Empty at) cx s (tree.rolls-Empty at) (λ h. tt)
  stat_steps (stat.Local x) cx s =
      stat_at (stat.Local x) (shape.Local _) cx s (tree.rolls-Local _) (declarators_fine (kind_written x.form.form) cx x.names s)
  stat_steps (stat.Simple x) cx s = stat_at (stat.Simple x) (shape.Simple _) cx s (tree.rolls-Simple _) (simple_fine x s)
  stat_steps (stat.If at e x None) cx s =
      let test = expr_of e s in
      let yes = inner (stat_of x.0) cx s in
      stat_at (stat.If at e x.0 None) (shape.If at test.tree yes.tree None) cx s (tree.rolls-If at _ _ None)
      (both_fine (test.notes ++ yes.notes) [] (stat_calls yes.tree) []
      (plain_first test.notes yes.notes (stat_calls yes.tree) (x.1 cx (entered s))) (λ h. tt))
  stat_steps (stat.If at e x (Some y)) cx s =
      let test = expr_of e s in
      let yes = inner (stat_of x.0) cx s in
      let other = inner (stat_of y.0) cx yes.scope in
      stat_at (stat.If at e x.0 (Some y.0)) (shape.If at test.tree yes.tree (Some other.tree)) cx s (tree.rolls-If at _ _ (Some _))
      (both_fine (test.notes ++ yes.notes) other.notes (stat_calls yes.tree) (stat_calls other.tree)
      (plain_first test.notes yes.notes (stat_calls yes.tree) (x.1 cx (entered s))) (y.1 cx (entered yes.scope)))
  stat_steps (stat.While at e x) cx s =
      let test = expr_of e s in
      let body = inner (stat_of x.0) (looped cx) s in
      stat_at (stat.While at e x.0) (shape.While at test.tree body.tree) cx s (tree.rolls-While at _ _)
      (plain_first test.notes body.notes (stat_calls body.tree) (x.1 (looped cx) (entered s)))
  stat_steps (stat.Do at x e) cx s =
      let body = inner (stat_of x.0) (looped cx) s in
      let test = expr_of e body.scope in
      stat_at (stat.Do at x.0 e) (shape.Do at body.tree test.tree) cx s (tree.rolls-Do at _ _)
      (plain_then body.notes test.notes (stat_calls body.tree) (x.1 (looped cx) (entered s)))
  stat_steps (stat.For at begin e after x) cx s =
      let first = option_start_of cx begin (entered s) in
      let test = option_notes (option_of e first.scope) in
      let ends = step_of after first.scope in
      let body = inner (stat_of x.0) (looped cx) first.scope in
      stat_at (stat.For at begin e after x.0) (shape.For at first.tree (tree_of (option_of e first.scope)) ends.tree body.tree) cx s
      (tree.rolls-For at _ _ _ _)
      (both_fine (first.notes ++ test ++ ends.notes) body.notes (start_calls first.tree ++ step_calls ends.tree) (stat_calls body.tree)
      (both_fine (first.notes ++ test) ends.notes (start_calls first.tree) (step_calls ends.tree)
      (plain_then first.notes test (start_calls first.tree) (start_fine cx begin (entered s)))
      (after_fine after first.scope)) (x.1 (looped cx) (entered first.scope)))
  stat_steps (stat.Break at) cx s =
      stat_at (stat.Break at) (shape.Break at) cx s (tree.rolls-Break at) (λ h. tt)
  stat_steps (stat.Continue at) cx s =
      stat_at (stat.Continue at) (shape.Continue at) cx s (tree.rolls-Continue at) (λ h. tt)
  stat_steps (stat.Return at e) cx s =
      stat_at (stat.Return at e) (shape.Return at (tree_of (option_of e s))) cx s (tree.rolls-Return at _) (λ h. tt)

  stat_fine : (x : Stat) → FineStat x
  stat_fine = ind-Stat FineStat (λ x y e. subst (λ x. FineStat (roll-Stat x)) e (stat_steps y))

  stats_fine : (xs : List Stat) (cx : Context) (s : Scope) → Fine (stats_of xs cx s).notes (body_calls (stats_of xs cx s).tree)
  stats_fine [] cx s = λ h. tt
  stats_fine (x ∷ xs) cx s =
      let first = stat_of x cx s in
      both_fine first.notes (stats_of xs cx first.scope).notes (stat_calls first.tree) (body_calls (stats_of xs cx first.scope).tree)
      (stat_fine x cx s) (stats_fine xs cx first.scope)

pub calls_are_noted : CallsAreNoted
calls_are_noted l s cx xs h = All-from_recursion (Contains l.calls) _ (stats_fine l xs cx s h)
