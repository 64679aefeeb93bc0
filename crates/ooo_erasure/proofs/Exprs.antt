-- An expression is what its checked tree is without additions.
use Rattle.std.proofs.Common.{◌≡◌, ◌∙◌, refl, ap, sym, subst, List, [], ◌∷◌, map, Option, Some, None}
use Rattle.std.specs.Option.{option_map}
use Rattle.std.proofs.Math.Path.{ap₂}
use Rattle.ooo_syntax.specs.declared.expr.Expr.{Expr, Expr-F, map-Expr, roll-Expr, out-Expr, roll-out-Expr, fold-roll-Expr, ind-Expr}
use Rattle.ooo_syntax.specs.declared.expr.Expr.TheOpen as layer
use Rattle.ooo_syntax.specs.declared.expr.Expr.TheVariants as tree
use Rattle.ooo_checked.specs.declared.expr.CheckedExpr.{CheckedExpr, CheckedExpr-F, map-CheckedExpr, roll-CheckedExpr, fold-roll-CheckedExpr}
use Rattle.ooo_checked.specs.declared.expr.CheckedExpr.TheOpen as form
use Rattle.ooo_checked.specs.declared.expr.CheckedExpr.TheVariants as checked
use Rattle.ooo_checked.specs.Exprs.{expr_of, exprs_of, expr_step, right_of, right_step, option_of, tree_of}
use Rattle.ooo_checked.specs.Notes.{Checked, trees}
use Rattle.ooo_checked.specs.Scopes.{Scope}
use Rattle.ooo_erasure.specs.Exprs.{erased_expr, erased_expr_step}
use Rattle.ooo_erasure.specs.Parts.{all_trees}

-- what an expression is in a scope
abbrev Reading : Type 0
Reading = Scope → Checked CheckedExpr

-- a checked expression by its form
pub checked_form : (z : CheckedExpr-F CheckedExpr) (t : CheckedExpr) → roll-CheckedExpr z ≡ t →
    erased_expr t ≡ erased_expr_step (map-CheckedExpr CheckedExpr Expr erased_expr z)
unfolding erased_expr
checked_form z t is = ap erased_expr (sym is) ∙ fold-roll-CheckedExpr Expr erased_expr_step z

-- an expression by its form, where what it is checked to be has this form
at_form : (y : Expr-F Expr) (z : CheckedExpr-F CheckedExpr) (s : Scope) (e : Expr) →
    roll-CheckedExpr z ≡ (expr_step (map-Expr Expr Reading expr_of y) s).tree → roll-Expr y ≡ e →
    erased_expr_step (map-CheckedExpr CheckedExpr Expr erased_expr z) ≡ e →
    erased_expr (expr_of (roll-Expr y) s).tree ≡ roll-Expr y
unfolding expr_of
at_form y z s e is of same =
    ap (λ (f : Reading). erased_expr (f s).tree) (fold-roll-Expr Reading expr_step y)
    ∙ checked_form z (expr_step (map-Expr Expr Reading expr_of y) s).tree is ∙ same ∙ sym of

-- ---- by induction on the expression

abbrev Same : Expr → Type 0
Same e = (s : Scope) → erased_expr (expr_of e s).tree ≡ e

-- an expression of which it is shown
abbrev Shown : Type 0
Shown = (e : Expr) × Same e

-- the tree that an expression is checked to be
abbrev tree_in : Scope → Shown → CheckedExpr
tree_in s e = (expr_of e.0 s).tree

-- the arguments of a call
args_in : (es : List Shown) (s : Scope) →
    map erased_expr (trees (map (λ (f : Reading). f s) (map expr_of (map (λ e. e.0) es)))) ≡ map (λ e. e.0) es
args_in [] s = refl
args_in (e ∷ es) s = ap₂ (λ x xs. x ∷ xs) (e.1 s) (args_in es s)

-- each form, of whose parts it is shown
step : (y : Expr-F Shown) → Same (roll-Expr (map-Expr Shown Expr (λ e. e.0) y))
step (layer.Number n) s =
    at_form (layer.Number n) (form.Number _ n) s _ (checked.rolls-Number _ n) (tree.rolls-Number n) refl
step (layer.Truth b at) s =
    at_form (layer.Truth b at) (form.Truth b at) s _ (checked.rolls-Truth b at) (tree.rolls-Truth b at) refl
step (layer.Name w) s =
    at_form (layer.Name w) (form.Name _ _) s _ (checked.rolls-Name _ _) (tree.rolls-Name w) refl
step (layer.Paren at e) s =
    at_form (layer.Paren at e.0) (form.Paren _ at (tree_in s e)) s _ (checked.rolls-Paren _ at _)
    (tree.rolls-Paren at e.0) (rw (e.1 s) refl)
step (layer.Index w i) s =
    at_form (layer.Index w i.0) (form.Index _ _ (tree_in s i)) s _ (checked.rolls-Index _ _ _) (tree.rolls-Index w i.0)
    (rw (i.1 s) refl)
step (layer.Call w es) s =
    at_form (layer.Call w (map (λ e. e.0) es)) (form.Call _ _ _) s _ (checked.rolls-Call _ _ _) (tree.rolls-Call w _)
    (ap (tree.Call w) (args_in es s))
step (layer.Member w after None) s =
    at_form (layer.Member w after None) (form.Member _ _ after _ None) s _ (checked.rolls-Member _ _ after _ None)
    (tree.rolls-Member w after None) refl
step (layer.Member w after (Some e)) s =
    at_form (layer.Member w after (Some e.0)) (form.Member _ _ after _ (Some (tree_in s e))) s _
    (checked.rolls-Member _ _ after _ (Some _)) (tree.rolls-Member w after (Some e.0)) (rw (e.1 s) refl)
step (layer.Prefix at op e) s =
    at_form (layer.Prefix at op e.0) (form.Prefix _ at op (tree_in s e)) s _ (checked.rolls-Prefix _ at op _)
    (tree.rolls-Prefix at op e.0) (rw (e.1 s) refl)
step (layer.Cast at t e) s =
    at_form (layer.Cast at t e.0) (form.Cast _ at t (tree_in s e)) s _ (checked.rolls-Cast _ at t _)
    (tree.rolls-Cast at t e.0) (rw (e.1 s) refl)
step (layer.Conversion t e) s =
    at_form (layer.Conversion t e.0) (form.Conversion _ t (tree_in s e)) s _ (checked.rolls-Conversion _ t _)
    (tree.rolls-Conversion t e.0) (rw (e.1 s) refl)
step (layer.Binary op a b) s =
    at_form (layer.Binary op a.0 b.0) (form.Binary _ op (tree_in s a) (tree_in s b)) s _ (checked.rolls-Binary _ op _ _)
    (tree.rolls-Binary op a.0 b.0) (rw (a.1 s, b.1 s) refl)
step (layer.Choose c a b) s =
    at_form (layer.Choose c.0 a.0 b.0) (form.Choose _ (tree_in s c) (tree_in s a) (tree_in s b)) s _
    (checked.rolls-Choose _ _ _ _) (tree.rolls-Choose c.0 a.0 b.0) (rw (c.1 s, a.1 s, b.1 s) refl)

pub expr_same : (e : Expr) (s : Scope) → erased_expr (expr_of e s).tree ≡ e
expr_same = ind-Expr Same (λ x y e. subst (λ x. Same (roll-Expr x)) e (step y))

-- ---- several, and the whole right side

pub exprs_same : (es : List Expr) (s : Scope) → map erased_expr (trees (exprs_of es s)) ≡ es
exprs_same es s = all_trees (λ e. expr_of e s) erased_expr (λ e. expr_same e s) es

pub option_same : (o : Option Expr) (s : Scope) → option_map erased_expr (tree_of (option_of o s)) ≡ o
option_same None s = refl
option_same (Some e) s = ap Some (expr_same e s)

right_form : (y : Expr-F Expr) (e : Expr) (s : Scope) → roll-Expr y ≡ e → erased_expr (right_step y e s).tree ≡ e
right_form (layer.Call w es) e s is =
    checked_form (form.Call _ _ _) _ (checked.rolls-Call _ _ _) ∙ ap (tree.Call w) (exprs_same es s)
    ∙ sym (tree.rolls-Call w es) ∙ is
right_form (layer.Member w after None) e s is =
    checked_form (form.Member _ _ after _ None) _ (checked.rolls-Member _ _ after _ None)
    ∙ sym (tree.rolls-Member w after None) ∙ is
right_form (layer.Member w after (Some a)) e s is =
    checked_form (form.Member _ _ after _ (Some _)) _ (checked.rolls-Member _ _ after _ (Some _))
    ∙ ap (λ x. tree.Member w after (Some x)) (expr_same a s) ∙ sym (tree.rolls-Member w after (Some a)) ∙ is
right_form _ e s is = expr_same e s

pub right_same : (e : Expr) (s : Scope) → erased_expr (right_of e s).tree ≡ e
right_same e s = right_form (out-Expr e) e s (roll-out-Expr e)
