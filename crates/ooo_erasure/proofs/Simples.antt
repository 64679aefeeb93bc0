-- Times, events, what is waited for and simple statements are what their checked trees are without additions.
use Rattle.std.proofs.Common.{◌≡◌, refl, ap, List, map, Bool, true, false}
use Rattle.std.proofs.Math.Path.{ap₂}
use Rattle.ooo_syntax.specs.declared.expr.Expr.{Expr}
use Rattle.ooo_syntax.specs.declared.stat.TimeForm.{TimeForm}
use Rattle.ooo_syntax.specs.declared.stat.TimeForm.TheVariants as time
use Rattle.ooo_syntax.specs.declared.stat.Event.{Event}
use Rattle.ooo_syntax.specs.declared.stat.Awaited.{Awaited}
use Rattle.ooo_syntax.specs.declared.stat.Awaited.TheVariants as awaited
use Rattle.ooo_syntax.specs.declared.stat.Target.{Target}
use Rattle.ooo_syntax.specs.declared.stat.PrintItem.{PrintItem}
use Rattle.ooo_syntax.specs.declared.stat.PrintItem.TheVariants as item
use Rattle.ooo_syntax.specs.declared.stat.Simple.{Simple}
use Rattle.ooo_syntax.specs.declared.stat.Simple.TheVariants as simple
use Rattle.ooo_checked.specs.Notes.{trees}
use Rattle.ooo_checked.specs.Scopes.{Scope}
use Rattle.ooo_checked.specs.Stats.{time_of, event_of, events_of, awaited_of, is_compound, target_of, value_of, item_of, items_of, simple_of}
use Rattle.ooo_erasure.specs.Exprs.{erased_expr}
use Rattle.ooo_erasure.specs.Stats.{erased_time, erased_event, erased_awaited, erased_target, erased_item, erased_simple}
use Rattle.ooo_erasure.proofs.Exprs.{expr_same, exprs_same, option_same, right_same}
use Rattle.ooo_erasure.specs.Parts.{all_trees}

-- ---- times and events

pub time_same : (t : TimeForm) (s : Scope) → erased_time (time_of t s).tree ≡ t
time_same (time.Zero at) s = refl
time_same (time.Made at e scale) s = ap (λ x. time.Made at x scale) (expr_same e s)
time_same (time.Amount e scale) s = ap (λ x. time.Amount x scale) (expr_same e s)

pub events_same : (b : Bool) (es : List Event) (s : Scope) → map erased_event (trees (events_of b es s)) ≡ es
events_same b es s = all_trees (λ e. event_of b e s) erased_event (λ e. refl) es

pub awaited_same : (w : Awaited) (s : Scope) → erased_awaited (awaited_of w s).tree ≡ w
awaited_same awaited.Sensitive s = refl
awaited_same (awaited.Delay t) s = ap awaited.Delay (time_same t s)
awaited_same (awaited.Until t es) s = ap₂ awaited.Until (time_same t s) (events_same false es s)
awaited_same (awaited.Events es) s = ap awaited.Events (events_same false es s)

-- ---- simple statements

target_same : (b : Bool) (t : Target) (s : Scope) → erased_target (target_of b t s).tree ≡ t
target_same b t s = ap {B = Target} (λ i. record { name = t.name; index = i }) (option_same t.index s)

value_same : (b : Bool) (e : Expr) (s : Scope) → erased_expr (value_of b e s).tree ≡ e
value_same true e s = expr_same e s
value_same false e s = right_same e s

item_same : (i : PrintItem) (s : Scope) → erased_item (item_of i s).tree ≡ i
item_same (item.Value e) s = ap item.Value (expr_same e s)
item_same (item.Text t) s = refl
item_same (item.Line at) s = refl
item_same (item.TimeStamp at) s = refl

items_same : (is : List PrintItem) (s : Scope) → map erased_item (trees (items_of is s)) ≡ is
items_same is s = all_trees (λ i. item_of i s) erased_item (λ i. item_same i s) is

pub simple_same : (x : Simple) (s : Scope) → erased_simple (simple_of x s).tree ≡ x
simple_same (simple.Assign t op e) s =
    ap₂ (λ u v. simple.Assign u op v) (target_same (is_compound op) t s) (value_same (is_compound op) e s)
simple_same (simple.StepAfter t op) s = ap (λ u. simple.StepAfter u op) (target_same true t s)
simple_same (simple.StepBefore at op t) s = ap (simple.StepBefore at op) (target_same true t s)
simple_same (simple.Call w es) s = ap (simple.Call w) (exprs_same es s)
simple_same (simple.Member w after arg) s = ap (simple.Member w after) (option_same arg s)
simple_same (simple.Notify w dot t) s = ap (simple.Notify w dot) (time_same t s)
simple_same (simple.Cancel w dot) s = refl
simple_same (simple.Wait at w) s = ap (simple.Wait at) (awaited_same w s)
simple_same (simple.NextTrigger at w) s = ap (simple.NextTrigger at) (awaited_same w s)
simple_same (simple.Stop at) s = refl
simple_same (simple.Print at is) s = ap (simple.Print at) (items_same is s)
