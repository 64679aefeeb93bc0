-- What statements have that hold others, by what these have.
use Rattle.std.proofs.Common.{◌≡◌, ◌∙◌, ap, sym, refl, ℕ, List, [], ◌∷◌, ◌++◌, map, Option, Some, None}
use Rattle.ooo_lexer.specs.declared.position.Position.{Position}
use Rattle.ooo_checked.specs.declared.expr.CheckedExpr.{CheckedExpr}
use Rattle.ooo_checked.specs.declared.stat.CheckedLocal.{CheckedLocal}
use Rattle.ooo_checked.specs.declared.stat.CheckedSimple.{CheckedSimple}
use Rattle.ooo_checked.specs.declared.stat.CheckedStart.{CheckedStart}
use Rattle.ooo_checked.specs.declared.stat.CheckedStat.{CheckedStat, CheckedStat-F, map-CheckedStat, roll-CheckedStat, fold-roll-CheckedStat}
use Rattle.ooo_checked.specs.declared.stat.CheckedStat.TheOpen as layer
use Rattle.ooo_checked.specs.declared.stat.CheckedStat.TheVariants as tree
use Rattle.ooo_constants.specs.declared.bodies.TimeRefusal.{TimeRefusal}
use Rattle.ooo_constants.specs.Bodies.{all_of, body_refusals, else_refusals, start_refusals, stat_refusals, stat_refusals_step, step_refusals, told_of}
use Rattle.ooo_constants.specs.Bodies.{body_calls, declarator_calls, else_calls, simple_calls, start_calls, stat_calls, stat_calls_step, step_calls}
use Rattle.ooo_constants.specs.Meanings.{Constants}
use Rattle.ooo_constants.proofs.Told.{told_two, told_three}

-- ---- refusals

refusals_at : (c : Constants) (y : CheckedStat-F CheckedStat) →
    stat_refusals c (roll-CheckedStat y) ≡ stat_refusals_step c (map-CheckedStat CheckedStat (List TimeRefusal) (stat_refusals c) y)
unfolding stat_refusals
refusals_at c y = fold-roll-CheckedStat (List TimeRefusal) (stat_refusals_step c) y

refusals_in_order : (c : Constants) (xs : List CheckedStat) → all_of (map (stat_refusals c) xs) ≡ body_refusals c xs
refusals_in_order c [] = refl
refusals_in_order c (x ∷ xs) = ap (λ others. stat_refusals c x ++ others) (refusals_in_order c xs)

-- those of a block
pub refusals_of_block : (c : Constants) (at : Position) (xs : List CheckedStat) →
    stat_refusals c (tree.Block at xs) ≡ body_refusals c xs
refusals_of_block c at xs =
    ap (λ x. stat_refusals c x) (sym (tree.rolls-Block at xs)) ∙ refusals_at c (layer.Block at xs) ∙ refusals_in_order c xs

-- of an `if`
refusals_of_if : (c : Constants) (at : Position) (e : CheckedExpr) (f : CheckedStat) (g : Option CheckedStat) →
    stat_refusals c (tree.If at e f g) ≡ stat_refusals c f ++ else_refusals c g
refusals_of_if c at e f None =
    ap (λ x. stat_refusals c x) (sym (tree.rolls-If at e f None)) ∙ refusals_at c (layer.If at e f None)
refusals_of_if c at e f (Some g) =
    ap (λ x. stat_refusals c x) (sym (tree.rolls-If at e f (Some g))) ∙ refusals_at c (layer.If at e f (Some g))

-- of a `for`
refusals_of_for : (c : Constants) (at : Position) (b : Option CheckedStart) (e : Option CheckedExpr) (a : Option CheckedSimple)
    (f : CheckedStat) →
    stat_refusals c (tree.For at b e a f) ≡ start_refusals c b ++ step_refusals c a ++ stat_refusals c f
refusals_of_for c at b e a f =
    ap (λ x. stat_refusals c x) (sym (tree.rolls-For at b e a f)) ∙ refusals_at c (layer.For at b e a f)

-- what is told of an `if` is told of both its statements
pub told_of_if : (c : Constants) (x : CheckedStat) (at : Position) (e : CheckedExpr) (f f' : CheckedStat) (g : Option CheckedStat)
    (k m o : Option TimeRefusal) → x ≡ tree.If at e f g → f' ≡ f → m ≡ told_of k (stat_refusals c f') →
    o ≡ told_of m (else_refusals c g) → o ≡ told_of k (stat_refusals c x)
told_of_if c x at e f f' g k m o is same first second =
    second ∙ told_two k m (stat_refusals c f) (else_refusals c g) (first ∙ ap (λ y. told_of k (stat_refusals c y)) same)
    ∙ ap (λ xs. told_of k xs) (sym (ap (λ y. stat_refusals c y) is ∙ refusals_of_if c at e f g))

-- and of a `for` of its parts
pub told_of_for : (c : Constants) (x : CheckedStat) (at : Position) (b : Option CheckedStart) (e : Option CheckedExpr)
    (a : Option CheckedSimple) (f f' : CheckedStat) (k m n o : Option TimeRefusal) → x ≡ tree.For at b e a f → f' ≡ f →
    m ≡ told_of k (start_refusals c b) → n ≡ told_of m (step_refusals c a) → o ≡ told_of n (stat_refusals c f') →
    o ≡ told_of k (stat_refusals c x)
told_of_for c x at b e a f f' k m n o is same first second third =
    third ∙ ap (λ y. told_of n (stat_refusals c y)) same
    ∙ told_three k m n (start_refusals c b) (step_refusals c a) (stat_refusals c f) first second
    ∙ ap (λ xs. told_of k xs) (sym (ap (λ y. stat_refusals c y) is ∙ refusals_of_for c at b e a f))

-- ---- calls

calls_at : (y : CheckedStat-F CheckedStat) →
    stat_calls (roll-CheckedStat y) ≡ stat_calls_step (map-CheckedStat CheckedStat (List ℕ) stat_calls y)
unfolding stat_calls
calls_at y = fold-roll-CheckedStat (List ℕ) stat_calls_step y

calls_in_order : (xs : List CheckedStat) → all_of (map stat_calls xs) ≡ body_calls xs
calls_in_order [] = refl
calls_in_order (x ∷ xs) = ap (λ others. stat_calls x ++ others) (calls_in_order xs)

-- those of a block
pub calls_of_block : (at : Position) (xs : List CheckedStat) → stat_calls (tree.Block at xs) ≡ body_calls xs
calls_of_block at xs =
    ap (λ x. stat_calls x) (sym (tree.rolls-Block at xs)) ∙ calls_at (layer.Block at xs) ∙ calls_in_order xs

-- of a declaration
pub calls_of_local : (l : CheckedLocal) → stat_calls (tree.Local l) ≡ declarator_calls l.names
calls_of_local l = ap (λ x. stat_calls x) (sym (tree.rolls-Local l)) ∙ calls_at (layer.Local l)

-- of a simple statement
pub calls_of_simple : (s : CheckedSimple) → stat_calls (tree.Simple s) ≡ simple_calls s
calls_of_simple s = ap (λ x. stat_calls x) (sym (tree.rolls-Simple s)) ∙ calls_at (layer.Simple s)

-- of an `if`
pub calls_of_if : (at : Position) (e : CheckedExpr) (f : CheckedStat) (g : Option CheckedStat) →
    stat_calls (tree.If at e f g) ≡ stat_calls f ++ else_calls g
calls_of_if at e f None =
    ap (λ x. stat_calls x) (sym (tree.rolls-If at e f None)) ∙ calls_at (layer.If at e f None)
calls_of_if at e f (Some g) =
    ap (λ x. stat_calls x) (sym (tree.rolls-If at e f (Some g))) ∙ calls_at (layer.If at e f (Some g))

-- of a `for`
pub calls_of_for : (at : Position) (b : Option CheckedStart) (e : Option CheckedExpr) (a : Option CheckedSimple) (f : CheckedStat) →
    stat_calls (tree.For at b e a f) ≡ start_calls b ++ step_calls a ++ stat_calls f
calls_of_for at b e a f = ap (λ x. stat_calls x) (sym (tree.rolls-For at b e a f)) ∙ calls_at (layer.For at b e a f)
