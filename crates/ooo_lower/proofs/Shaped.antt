-- The shapes of statements with statements in them.
use Rattle.std.proofs.Common.{◌≡◌, ◌∙◌, ℕ, ap, sym, refl, List, [], ◌∷◌, map, Option, Some, None}
use Rattle.ooo_bound.specs.declared.expr.BoundExpr.{BoundExpr}
use Rattle.ooo_bound.specs.declared.stat.BoundStat.{BoundStat, BoundStat-F, map-BoundStat, roll-BoundStat, fold-roll-BoundStat}
use Rattle.ooo_bound.specs.declared.stat.BoundStat.TheOpen as layer
use Rattle.ooo_bound.specs.declared.stat.BoundStat.TheVariants as tree
use Rattle.ooo_bound.specs.declared.stat.LinedSimple.{LinedSimple}
use Rattle.ooo_code.specs.declared.node.NodeKind.TheVariants as kind
use Rattle.ooo_shapes.specs.Simples.{Home}
use Rattle.ooo_shapes.specs.Shapes.{Shape, Callees, after_shape, all_shapes, body_shape, do_shape, if_shape, jump_shape, lined_shape, lined_shapes, loop_shape, return_kind, shape_of, shape_step, test_or_true, then}
use Rattle.ooo_layout.specs.Extents.{else_shape}

shape_at : (h : Home) (cs : Callees) (y : BoundStat-F BoundStat) → shape_of h cs (roll-BoundStat y) ≡ shape_step h cs (map-BoundStat BoundStat Shape (shape_of h cs) y)
unfolding shape_of
shape_at h cs y = fold-roll-BoundStat Shape (shape_step h cs) y

in_order : (h : Home) (cs : Callees) (xs : List BoundStat) → all_shapes (map (shape_of h cs) xs) ≡ body_shape h cs xs
in_order h cs [] = refl
in_order h cs (x ∷ xs) = ap (then (shape_of h cs x)) (in_order h cs xs)

pub shape_Block : (h : Home) (cs : Callees) (xs : List BoundStat) → shape_of h cs (tree.Block xs) ≡ body_shape h cs xs
shape_Block h cs xs = ap (shape_of h cs) (sym (tree.rolls-Block xs)) ∙ shape_at h cs (layer.Block xs) ∙ in_order h cs xs

pub shape_If : (h : Home) (cs : Callees) (line : ℕ) (e : BoundExpr) (a : BoundStat) (o : Option BoundStat) → shape_of h cs (tree.If line e a o) ≡ if_shape line e (shape_of h cs a) (else_shape h cs o)
shape_If h cs line e a None = ap (shape_of h cs) (sym (tree.rolls-If line e a None)) ∙ shape_at h cs (layer.If line e a None)
shape_If h cs line e a (Some b) = ap (shape_of h cs) (sym (tree.rolls-If line e a (Some b))) ∙ shape_at h cs (layer.If line e a (Some b))

pub shape_While : (h : Home) (cs : Callees) (line : ℕ) (e : BoundExpr) (a : BoundStat) → shape_of h cs (tree.While line e a) ≡ loop_shape line e None (shape_of h cs a)
shape_While h cs line e a = ap (shape_of h cs) (sym (tree.rolls-While line e a)) ∙ shape_at h cs (layer.While line e a)

pub shape_Do : (h : Home) (cs : Callees) (line : ℕ) (a : BoundStat) (e : BoundExpr) → shape_of h cs (tree.Do line a e) ≡ do_shape line e (shape_of h cs a)
shape_Do h cs line a e = ap (shape_of h cs) (sym (tree.rolls-Do line a e)) ∙ shape_at h cs (layer.Do line a e)

pub shape_For : (h : Home) (cs : Callees) (line : ℕ) (begin : List LinedSimple) (e : Option BoundExpr) (after : Option LinedSimple) (a : BoundStat) → shape_of h cs (tree.For line begin e after a) ≡ then (lined_shapes h cs begin) (loop_shape line (test_or_true e) (after_shape h cs after) (shape_of h cs a))
shape_For h cs line begin e after a = ap (shape_of h cs) (sym (tree.rolls-For line begin e after a)) ∙ shape_at h cs (layer.For line begin e after a)

pub shape_Simple : (h : Home) (cs : Callees) (x : LinedSimple) → shape_of h cs (tree.Simple x) ≡ lined_shape h cs x
shape_Simple h cs x = ap (shape_of h cs) (sym (tree.rolls-Simple x)) ∙ shape_at h cs (layer.Simple x)

pub shape_Break : (h : Home) (cs : Callees) (line : ℕ) → shape_of h cs (tree.Break line) ≡ jump_shape line (λ t. kind.Goto) (λ t. t.break_to)
shape_Break h cs line = ap (shape_of h cs) (sym (tree.rolls-Break line)) ∙ shape_at h cs (layer.Break line)

pub shape_Continue : (h : Home) (cs : Callees) (line : ℕ) → shape_of h cs (tree.Continue line) ≡ jump_shape line (λ t. kind.Goto) (λ t. t.continue_to)
shape_Continue h cs line = ap (shape_of h cs) (sym (tree.rolls-Continue line)) ∙ shape_at h cs (layer.Continue line)

pub shape_Return : (h : Home) (cs : Callees) (line : ℕ) (e : Option BoundExpr) → shape_of h cs (tree.Return line e) ≡ jump_shape line (λ t. return_kind t e) (λ t. t.return_to)
shape_Return h cs line e = ap (shape_of h cs) (sym (tree.rolls-Return line e)) ∙ shape_at h cs (layer.Return line e)
