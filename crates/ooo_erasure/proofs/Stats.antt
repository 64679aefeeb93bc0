-- A statement is what its checked tree is without additions.
use Rattle.std.proofs.Common.{◌≡◌, ◌∙◌, refl, ap, sym, subst, List, [], ◌∷◌, map, Option, Some, None}
use Rattle.std.specs.Option.{option_map}
use Rattle.std.proofs.Math.Path.{ap₂}
use Rattle.ooo_value.specs.declared.kinds.Kind.{Kind}
use Rattle.ooo_syntax.specs.declared.expr.Expr.{Expr}
use Rattle.ooo_syntax.specs.declared.stat.Declarator.{Declarator}
use Rattle.ooo_syntax.specs.declared.stat.Local.{Local}
use Rattle.ooo_syntax.specs.declared.stat.Simple.{Simple}
use Rattle.ooo_syntax.specs.declared.stat.ForStart.{ForStart}
use Rattle.ooo_syntax.specs.declared.stat.ForStart.TheVariants as start
use Rattle.ooo_syntax.specs.declared.stat.Stat.{Stat, Stat-F, map-Stat, roll-Stat, fold-roll-Stat, ind-Stat}
use Rattle.ooo_syntax.specs.declared.stat.Stat.TheOpen as layer
use Rattle.ooo_syntax.specs.declared.stat.Stat.TheVariants as tree
use Rattle.ooo_checked.specs.declared.context.Context.{Context}
use Rattle.ooo_checked.specs.declared.stat.CheckedStat.{CheckedStat, CheckedStat-F, map-CheckedStat, roll-CheckedStat, fold-roll-CheckedStat}
use Rattle.ooo_checked.specs.declared.stat.CheckedStat.TheOpen as form
use Rattle.ooo_checked.specs.declared.stat.CheckedStat.TheVariants as checked
use Rattle.ooo_checked.specs.Exprs.{tree_of, kind_written}
use Rattle.ooo_checked.specs.Scopes.{Scope, entered}
use Rattle.ooo_checked.specs.Stats.{Reading, initial_of, declarator_of, local_of, start_of, option_start_of, step_of, readings_of, looped, stat_of, stat_step, stats_of}
use Rattle.ooo_erasure.specs.Exprs.{erased_expr}
use Rattle.ooo_erasure.specs.Stats.{erased_declarator, erased_local, erased_start, erased_simple, erased_stat, erased_stat_step}
use Rattle.ooo_erasure.proofs.Exprs.{expr_same, option_same, right_same}
use Rattle.ooo_erasure.specs.Parts.{ordered_trees}
use Rattle.ooo_erasure.proofs.Simples.{simple_same}

-- ---- locals, and what stands in the parentheses of a `for`

initial_same : (o : Option Expr) (s : Scope) → option_map erased_expr (tree_of (initial_of o s)) ≡ o
initial_same None s = refl
initial_same (Some e) s = ap Some (right_same e s)

declarator_same : (k : Kind) (cx : Context) (d : Declarator) (s : Scope) →
    erased_declarator (declarator_of k cx d s).tree ≡ d
declarator_same k cx d s = ap {B = Declarator} (λ v. record { name = d.name; value = v }) (initial_same d.value s)

local_same : (cx : Context) (l : Local) (s : Scope) → erased_local (local_of cx l s).tree ≡ l
local_same cx l s =
    let k = kind_written l.form.form in
    ap {B = Local} (λ names. record { form = l.form; names = names })
    (ordered_trees (λ d s. declarator_of k cx d s) erased_declarator (declarator_same k cx) l.names s)

start_same : (cx : Context) (x : ForStart) (s : Scope) → erased_start (start_of cx x s).tree ≡ x
start_same cx (start.Local l) s = ap start.Local (local_same cx l s)
start_same cx (start.Simple x) s = ap start.Simple (simple_same x s)

option_start_same : (cx : Context) (o : Option ForStart) (s : Scope) →
    option_map erased_start (option_start_of cx o s).tree ≡ o
option_start_same cx None s = refl
option_start_same cx (Some x) s = ap Some (start_same cx x s)

step_same : (o : Option Simple) (s : Scope) → option_map erased_simple (step_of o s).tree ≡ o
step_same None s = refl
step_same (Some x) s = ap Some (simple_same x s)

-- ---- forms

-- a checked statement by its form
checked_form : (z : CheckedStat-F CheckedStat) (t : CheckedStat) → roll-CheckedStat z ≡ t →
    erased_stat t ≡ erased_stat_step (map-CheckedStat CheckedStat Stat erased_stat z)
unfolding erased_stat
checked_form z t is = ap erased_stat (sym is) ∙ fold-roll-CheckedStat Stat erased_stat_step z

-- a statement by its form, where what it is checked to be has this form
at_form : (y : Stat-F Stat) (z : CheckedStat-F CheckedStat) (cx : Context) (s : Scope) (x : Stat) →
    roll-CheckedStat z ≡ (stat_step (map-Stat Stat Reading stat_of y) cx s).tree → roll-Stat y ≡ x →
    erased_stat_step (map-CheckedStat CheckedStat Stat erased_stat z) ≡ x →
    erased_stat (stat_of (roll-Stat y) cx s).tree ≡ roll-Stat y
unfolding stat_of
at_form y z cx s x is of same =
    ap (λ (f : Reading). erased_stat (f cx s).tree) (fold-roll-Stat Reading stat_step y)
    ∙ checked_form z (stat_step (map-Stat Stat Reading stat_of y) cx s).tree is ∙ same ∙ sym of

-- ---- by induction on the statement

abbrev Same : Stat → Type 0
Same x = (cx : Context) (s : Scope) → erased_stat (stat_of x cx s).tree ≡ x

-- a statement of which it is shown
abbrev Shown : Type 0
Shown = (x : Stat) × Same x

-- the statements of a block
readings_same : (xs : List Shown) (cx : Context) (s : Scope) →
    map erased_stat (readings_of (map stat_of (map (λ x. x.0) xs)) cx s).tree ≡ map (λ x. x.0) xs
readings_same [] cx s = refl
readings_same (x ∷ xs) cx s = ap₂ (λ y ys. y ∷ ys) (x.1 cx s) (readings_same xs cx (stat_of x.0 cx s).scope)

-- each form, of whose parts it is shown
step : (y : Stat-F Shown) → Same (roll-Stat (map-Stat Shown Stat (λ x. x.0) y))
step (layer.Block at xs) cx s =
    at_form (layer.Block at (map (λ x. x.0) xs)) (form.Block at _) cx s _ (checked.rolls-Block at _)
    (tree.rolls-Block at _) (ap (tree.Block at) (readings_same xs cx (entered s)))
step (layer.Empty at) cx s =
    at_form (layer.Empty at) (form.Empty at) cx s _ (checked.rolls-Empty at) (tree.rolls-Empty at) refl
step (layer.Local l) cx s =
    at_form (layer.Local l) (form.Local _) cx s _ (checked.rolls-Local _) (tree.rolls-Local l)
    (ap tree.Local (local_same cx l s))
step (layer.Simple x) cx s =
    at_form (layer.Simple x) (form.Simple _) cx s _ (checked.rolls-Simple _) (tree.rolls-Simple x)
    (ap tree.Simple (simple_same x s))
step (layer.If at e x None) cx s =
    at_form (layer.If at e x.0 None) (form.If at _ _ None) cx s _ (checked.rolls-If at _ _ None)
    (tree.rolls-If at e x.0 None) (ap₂ (λ t u. tree.If at t u None) (expr_same e s) (x.1 cx (entered s)))
step (layer.If at e x (Some y)) cx s =
    at_form (layer.If at e x.0 (Some y.0)) (form.If at _ _ (Some _)) cx s _ (checked.rolls-If at _ _ (Some _))
    (tree.rolls-If at e x.0 (Some y.0)) (rw (expr_same e s, x.1 cx (entered s), y.1 cx _) refl)
step (layer.While at e x) cx s =
    at_form (layer.While at e x.0) (form.While at _ _) cx s _ (checked.rolls-While at _ _) (tree.rolls-While at e x.0)
    (ap₂ (tree.While at) (expr_same e s) (x.1 (looped cx) (entered s)))
step (layer.Do at x e) cx s =
    at_form (layer.Do at x.0 e) (form.Do at _ _) cx s _ (checked.rolls-Do at _ _) (tree.rolls-Do at x.0 e)
    (ap₂ (tree.Do at) (x.1 (looped cx) (entered s)) (expr_same e _))
step (layer.For at begin e after x) cx s =
    let first = (option_start_of cx begin (entered s)).scope in
    at_form (layer.For at begin e after x.0) (form.For at _ _ _ _) cx s _ (checked.rolls-For at _ _ _ _)
    (tree.rolls-For at begin e after x.0)
    (rw (option_start_same cx begin (entered s), option_same e first, step_same after first) (
    rw (x.1 (looped cx) (entered first)) refl
    ))
step (layer.Break at) cx s =
    at_form (layer.Break at) (form.Break at) cx s _ (checked.rolls-Break at) (tree.rolls-Break at) refl
step (layer.Continue at) cx s =
    at_form (layer.Continue at) (form.Continue at) cx s _ (checked.rolls-Continue at) (tree.rolls-Continue at) refl
step (layer.Return at e) cx s =
    at_form (layer.Return at e) (form.Return at _) cx s _ (checked.rolls-Return at _) (tree.rolls-Return at e)
    (ap (tree.Return at) (option_same e s))

pub stat_same : (x : Stat) (cx : Context) (s : Scope) → erased_stat (stat_of x cx s).tree ≡ x
stat_same = ind-Stat Same (λ x y e. subst (λ x. Same (roll-Stat x)) e (step y))

pub stats_same : (xs : List Stat) (cx : Context) (s : Scope) → map erased_stat (stats_of xs cx s).tree ≡ xs
stats_same xs cx s = ordered_trees (λ x s. stat_of x cx s) erased_stat (λ x s. stat_same x cx s) xs s
