-- A checked tree without its additions is the tree that was checked.
use Rattle.std.specs.Prelude.{◌≡◌, List, map, Bool}
use Rattle.ooo_syntax.specs.declared.expr.Expr.{Expr}
use Rattle.ooo_syntax.specs.declared.stat.TimeForm.{TimeForm}
use Rattle.ooo_syntax.specs.declared.stat.Event.{Event}
use Rattle.ooo_syntax.specs.declared.stat.Awaited.{Awaited}
use Rattle.ooo_syntax.specs.declared.stat.Simple.{Simple}
use Rattle.ooo_syntax.specs.declared.stat.Stat.{Stat}
use Rattle.ooo_syntax.specs.declared.unit.Unit.{Unit as Text}
use Rattle.ooo_checked.specs.declared.context.Context.{Context}
use Rattle.ooo_checked.specs.declared.unit.CheckedUnit.{CheckedUnit}
use Rattle.ooo_checked.specs.Exprs.{expr_of, exprs_of, right_of}
use Rattle.ooo_checked.specs.Notes.{trees}
use Rattle.ooo_checked.specs.Scopes.{Scope}
use Rattle.ooo_checked.specs.Stats.{time_of, events_of, awaited_of, simple_of, stat_of, stats_of}
use Rattle.ooo_erasure.specs.Exprs.{erased_expr}
use Rattle.ooo_erasure.specs.Stats.{erased_time, erased_event, erased_awaited, erased_simple, erased_stat}
use Rattle.ooo_erasure.specs.Units.{erased_unit}

-- expressions, in any scope: one inside another, several, and the right side of an assignment
pub record ErasesExprs : Type 0 where
  pub expr : (e : Expr) (s : Scope) → erased_expr (expr_of e s).tree ≡ e
  pub exprs : (es : List Expr) (s : Scope) → map erased_expr (trees (exprs_of es s)) ≡ es
  pub right : (e : Expr) (s : Scope) → erased_expr (right_of e s).tree ≡ e

-- times, events and simple statements, in any scope
pub record ErasesSimples : Type 0 where
  pub time : (t : TimeForm) (s : Scope) → erased_time (time_of t s).tree ≡ t
  pub events : (in_sensitive : Bool) (es : List Event) (s : Scope) →
      map erased_event (trees (events_of in_sensitive es s)) ≡ es
  pub awaited : (w : Awaited) (s : Scope) → erased_awaited (awaited_of w s).tree ≡ w
  pub simple : (x : Simple) (s : Scope) → erased_simple (simple_of x s).tree ≡ x

-- statements, in any context and scope
pub record ErasesStats : Type 0 where
  pub stat : (x : Stat) (cx : Context) (s : Scope) → erased_stat (stat_of x cx s).tree ≡ x
  pub stats : (xs : List Stat) (cx : Context) (s : Scope) → map erased_stat (stats_of xs cx s).tree ≡ xs

-- each text is what some checked text is without additions
abbrev pub CoversTexts : Type 0
CoversTexts = (u : Text) → (c : CheckedUnit) × (erased_unit c ≡ u)
