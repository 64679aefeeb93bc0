-- What a right side or a simple statement without breaches calls is among the functions of its scope.
use Rattle.std.proofs.Common.{◌≡◌, refl, ◌∙◌, ap, sym, subst, ℕ, List, [], ◌∷◌, ◌++◌, length, Bool, true, false, Option, Some, None}
use Rattle.std.specs.Prelude.{Contains, ◌&&◌, not, ◌==◌, is_some}
use Rattle.std.specs.List.{AllByRecursion}
use Rattle.ooo_lemmas.proofs.Each.{first_part, then_part}
use Rattle.ooo_lexer.specs.declared.position.Position.{Position}
use Rattle.ooo_value.specs.declared.kinds.Kind.{Kind}
use Rattle.ooo_syntax.specs.declared.expr.Expr.{Expr, Expr-F, map-Expr, roll-Expr, out-Expr, fold-roll-Expr, ind-Expr}
use Rattle.ooo_syntax.specs.declared.expr.Expr.TheOpen as layer
use Rattle.ooo_syntax.specs.declared.stat.Simple.{Simple}
use Rattle.ooo_syntax.specs.declared.stat.Simple.TheVariants as simple
use Rattle.ooo_checked.specs.declared.breach.TypeBreach.TheVariants as what
use Rattle.ooo_checked.specs.declared.denotation.Denotation.{Denotation}
use Rattle.ooo_checked.specs.declared.denotation.Thing.{Thing}
use Rattle.ooo_checked.specs.declared.denotation.Thing.TheVariants as thing
use Rattle.ooo_checked.specs.declared.expr.CheckedExpr.{CheckedExpr, CheckedExpr-F, roll-CheckedExpr, out-CheckedExpr, the_lemmas}
use Rattle.ooo_checked.specs.declared.expr.CheckedExpr.TheOpen as form
use Rattle.ooo_checked.specs.declared.expr.CheckedExpr.TheVariants as checked
use Rattle.ooo_checked.specs.declared.place.CallPlace.{CallPlace}
use Rattle.ooo_checked.specs.declared.place.CallPlace.TheVariants.{Inside, Whole, Statement}
use Rattle.ooo_checked.specs.CallPlaces.{is_inside, is_used}
use Rattle.ooo_checked.specs.Exprs.{expr_of, expr_step, exprs_of, option_of, tree_of, resolved, call_notes, function_notes, right_of, right_step}
use Rattle.ooo_checked.specs.Notes.{Note, Breaks, Calls, Checked, breach_when, trees, all_notes}
use Rattle.ooo_checked.specs.Scopes.{Scope, meaning_of}
use Rattle.ooo_checked.specs.Stats.{target_of, value_of, is_compound, option_notes, simple_of, initial_of, step_of}
use Rattle.ooo_constants.specs.Bodies.{right_calls, initial_calls, simple_calls, step_calls, right_step as calls_step}
use Rattle.ooo_sound_text.specs.Right.{IsRight, AreRight}
use Rattle.ooo_sound_text.specs.Calls.{IsAmong, FunctionsAreAmong}

-- ---- inside an expression stands no call

abbrev call_notes_by : CallPlace → Denotation → ℕ → Position → Thing → List Note
call_notes_by place d args at t = elim t [
  | thing.Nothing ↦ Breaks what.UnknownName at ∷ []
  | thing.Function gives params ↦ function_notes place gives params d.number args at
  | _ ↦ Breaks what.WrongKind at ∷ []
]

no_function : (gives : Option Kind) (params f args : ℕ) (at : Position) →
    AreRight (function_notes Inside gives params f args at) → ⊥
no_function gives params f args at h =
    let used = breach_when (is_used Inside && not (is_some gives)) what.WrongKind at in
    let inside = breach_when (is_inside Inside) what.EffectInside at in
    let counted = breach_when (not (args == params)) what.WrongCount at in
    (then_part IsRight used inside (first_part IsRight (used ++ inside) counted
    (first_part IsRight (used ++ inside ++ counted) (Calls at f ∷ []) h))).0

no_call_by : (d : Denotation) (args : ℕ) (at : Position) (t : Thing) → AreRight (call_notes_by Inside d args at t) → ⊥
no_call_by d args at (thing.Function gives params) h = no_function gives params d.number args at h
no_call_by d args at _ h = h.0

no_call : (d : Denotation) (args : ℕ) (at : Position) → AreRight (call_notes Inside d args at) → ⊥
no_call d args at h = no_call_by d args at d.thing h

out_roll : (y : CheckedExpr-F CheckedExpr) → out-CheckedExpr (roll-CheckedExpr y) ≡ y
out_roll y = search the_lemmas

calls_at : (z : CheckedExpr-F CheckedExpr) (t : CheckedExpr) → roll-CheckedExpr z ≡ t → right_calls t ≡ calls_step z
calls_at z t is = ap calls_step (ap out-CheckedExpr (sym is) ∙ out_roll z)

-- an expression that is no call has none
none_at : (z : CheckedExpr-F CheckedExpr) (t : CheckedExpr) → roll-CheckedExpr z ≡ t → calls_step z ≡ [] → right_calls t ≡ []
none_at z t is none = calls_at z t is ∙ none

abbrev step_at : Expr-F Expr → Scope → Checked CheckedExpr
step_at y s = expr_step (map-Expr Expr (Scope → Checked CheckedExpr) expr_of y) s

silent_step : (y : Expr-F Expr) (s : Scope) → AreRight (step_at y s).notes → right_calls (step_at y s).tree ≡ []
silent_step (layer.Number x) s h = none_at (form.Number _ _) _ (checked.rolls-Number _ _) refl
silent_step (layer.Truth x at) s h = none_at (form.Truth _ _) _ (checked.rolls-Truth _ _) refl
silent_step (layer.Name w) s h = none_at (form.Name _ _) _ (checked.rolls-Name _ _) refl
silent_step (layer.Paren at e) s h = none_at (form.Paren _ _ _) _ (checked.rolls-Paren _ _ _) refl
silent_step (layer.Index w i) s h = none_at (form.Index _ _ _) _ (checked.rolls-Index _ _ _) refl
silent_step (layer.Call w es) s h =
    let d = meaning_of s w.name in
    absurd (no_call d _ w.position (first_part IsRight (call_notes Inside d _ w.position) _ h))
silent_step (layer.Member w after None) s h = none_at (form.Member _ _ _ _ None) _ (checked.rolls-Member _ _ _ _ _) refl
silent_step (layer.Member w after (Some e)) s h =
    none_at (form.Member _ _ _ _ (Some (expr_of e s).tree)) _ (checked.rolls-Member _ _ _ _ _) refl
silent_step (layer.Prefix at op e) s h = none_at (form.Prefix _ _ _ _) _ (checked.rolls-Prefix _ _ _ _) refl
silent_step (layer.Cast at t e) s h = none_at (form.Cast _ _ _ _) _ (checked.rolls-Cast _ _ _ _) refl
silent_step (layer.Conversion t e) s h = none_at (form.Conversion _ _ _) _ (checked.rolls-Conversion _ _ _) refl
silent_step (layer.Binary op x y) s h = none_at (form.Binary _ _ _ _) _ (checked.rolls-Binary _ _ _ _) refl
silent_step (layer.Choose t x y) s h = none_at (form.Choose _ _ _ _) _ (checked.rolls-Choose _ _ _ _) refl

abbrev Silent : Expr → Type 0
Silent e = (s : Scope) → AreRight (expr_of e s).notes → right_calls (expr_of e s).tree ≡ []

silent_at : (y : Expr-F Expr) → Silent (roll-Expr y)
unfolding expr_of
silent_at y s =
    subst (λ (f : Scope → Checked CheckedExpr). AreRight (f s).notes → right_calls (f s).tree ≡ [])
    (sym (fold-roll-Expr (Scope → Checked CheckedExpr) expr_step y)) (silent_step y s)

abbrev Shown : Type 0
Shown = (e : Expr) × Silent e

silent : (e : Expr) → Silent e
silent = ind-Expr Silent (λ x y e. subst (λ x. Silent (roll-Expr x)) e (silent_at (map-Expr Shown Expr (λ e. e.0) y)))

-- ---- whole right sides and simple statements

module _ (functions : List ℕ) where
  -- each of these is one of the functions
  abbrev pub Among : List ℕ → Type 0
  Among cs = AllByRecursion (Contains functions) cs

  silent_among : (e : Expr) (s : Scope) → AreRight (expr_of e s).notes → Among (right_calls (expr_of e s).tree)
  silent_among e s h = subst Among (sym (silent e s h)) tt

  call_by : (place : CallPlace) (d : Denotation) (args : ℕ) (at : Position) (t : Thing) → IsAmong functions d t →
      AreRight (call_notes_by place d args at t) → Among (d.number ∷ [])
  call_by place d args at (thing.Function gives params) a h = (a, tt)
  call_by place d args at _ a h = absurd h.0

  call_among : (place : CallPlace) (d : Denotation) (args : ℕ) (at : Position) → IsAmong functions d d.thing →
      AreRight (call_notes place d args at) → Among (d.number ∷ [])
  call_among place d args at a h = call_by place d args at d.thing a h

  right_by : (y : Expr-F Expr) (e : Expr) (s : Scope) → FunctionsAreAmong functions s → AreRight (right_step y e s).notes →
      Among (right_calls (right_step y e s).tree)
  right_by (layer.Call w es) e s a h =
      let d = meaning_of s w.name in
      let args = trees (exprs_of es s) in
      let notes = call_notes Whole d (length (exprs_of es s)) w.position in
      subst Among (sym (calls_at (form.Call _ (resolved s w) args) _ (checked.rolls-Call _ _ _)))
      (call_among Whole d (length (exprs_of es s)) w.position (a w.name) (first_part IsRight notes (all_notes (exprs_of es s)) h))
  right_by (layer.Member w after arg) e s a h =
      subst Among (sym (none_at (form.Member _ _ _ _ (tree_of (option_of arg s))) _ (checked.rolls-Member _ _ _ _ _) refl)) tt
  right_by _ e s a h = silent_among e s h

  right_among : (e : Expr) (s : Scope) → FunctionsAreAmong functions s → AreRight (right_of e s).notes →
      Among (right_calls (right_of e s).tree)
  right_among e s a h = right_by (out-Expr e) e s a h

  value_among : (compound : Bool) (e : Expr) (s : Scope) → FunctionsAreAmong functions s →
      AreRight (value_of compound e s).notes → Among (right_calls (value_of compound e s).tree)
  value_among true e s a h = silent_among e s h
  value_among false e s a h = right_among e s a h

  pub simple_among : (x : Simple) (s : Scope) → FunctionsAreAmong functions s → AreRight (simple_of x s).notes →
      Among (simple_calls (simple_of x s).tree)
  simple_among (simple.Assign t op e) s a h =
      let compound = is_compound op in
      value_among compound e s a (then_part IsRight (target_of compound t s).notes (value_of compound e s).notes h)
  simple_among (simple.Call w es) s a h =
      let d = meaning_of s w.name in
      let notes = call_notes Statement d (length es) w.position in
      call_among Statement d (length es) w.position (a w.name) (first_part IsRight notes (all_notes (exprs_of es s)) h)
  simple_among _ s a h = tt

  pub step_among : (o : Option Simple) (s : Scope) → FunctionsAreAmong functions s → AreRight (step_of o s).notes →
      Among (step_calls (step_of o s).tree)
  step_among None s a h = tt
  step_among (Some x) s a h = simple_among x s a h

  pub initial_among : (o : Option Expr) (s : Scope) → FunctionsAreAmong functions s → AreRight (option_notes (initial_of o s)) →
      Among (initial_calls (tree_of (initial_of o s)))
  initial_among None s a h = tt
  initial_among (Some e) s a h = right_among e s a h
