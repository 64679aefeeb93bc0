-- The size of the code, by the weights of bodies.
use Rattle.std.proofs.Common.{◌≡◌, ◌∙◌, refl, ap, sym, subst, append-nil, length, drop, ◌-◌, ◌≤◌, ℕ, zero, suc, ◌+◌, List, [], ◌∷◌, ◌++◌, map, Option, Some, None, arith}
use Rattle.std.specs.Prelude.{slice_get}
use Rattle.std.proofs.Math.ListN.{drop_of_length-le}
use Rattle.ooo_bound.specs.declared.model.BoundFunction.{BoundFunction}
use Rattle.ooo_bound.specs.declared.stat.BoundStat.{BoundStat, BoundStat-F, map-BoundStat, roll-BoundStat, fold-roll-BoundStat}
use Rattle.ooo_bound.specs.declared.expr.BoundExpr.{BoundExpr}
use Rattle.ooo_bound.specs.declared.stat.LinedSimple.{LinedSimple}
use Rattle.ooo_bound.specs.declared.stat.BoundStat.TheOpen as layer
use Rattle.ooo_bound.specs.declared.stat.BoundStat.TheVariants as tree
use Rattle.ooo_layout.specs.declared.sizes.Weight.{Weight}
use Rattle.ooo_layout.specs.Weighing.{AreWeighed, IsLeft, IsWeightOf, calls_size, else_size, found_size, sizes_by, weight_by}
use Rattle.ooo_shapes.specs.Sizes.{Sizes, after_size, body_size, function_size, simple_size, simples_size, size_step, sizes_within, stat_size, sum_of}

pub calls_more : (sizes : Sizes) (fs : List ℕ) (f : ℕ) → calls_size sizes (fs ++ f ∷ []) ≡ calls_size sizes fs + sizes f
calls_more sizes [] f = omega arith
calls_more sizes (g ∷ fs) f = omega (arith, calls_more sizes fs f)

size_at : (sizes : Sizes) (y : BoundStat-F BoundStat) → stat_size sizes (roll-BoundStat y) ≡ size_step sizes (map-BoundStat BoundStat ℕ (stat_size sizes) y)
unfolding stat_size
size_at sizes y = fold-roll-BoundStat ℕ (size_step sizes) y

in_order : (sizes : Sizes) (xs : List BoundStat) → sum_of (map (stat_size sizes) xs) ≡ body_size sizes xs
in_order sizes [] = refl
in_order sizes (x ∷ xs) = ap (λ n. stat_size sizes x + n) (in_order sizes xs)

pub size_Block : (sizes : Sizes) (xs : List BoundStat) → stat_size sizes (tree.Block xs) ≡ body_size sizes xs
size_Block sizes xs = ap (stat_size sizes) (sym (tree.rolls-Block xs)) ∙ size_at sizes (layer.Block xs) ∙ in_order sizes xs

pub size_Simple : (sizes : Sizes) (x : LinedSimple) → stat_size sizes (tree.Simple x) ≡ simple_size sizes x.simple
size_Simple sizes x = ap (stat_size sizes) (sym (tree.rolls-Simple x)) ∙ size_at sizes (layer.Simple x)

pub size_If : (sizes : Sizes) (line : ℕ) (e : BoundExpr) (a : BoundStat) (o : Option BoundStat) → stat_size sizes (tree.If line e a o) ≡ 1 + (stat_size sizes a + else_size sizes o)
size_If sizes line e a None = ap (stat_size sizes) (sym (tree.rolls-If line e a None)) ∙ size_at sizes (layer.If line e a None)
size_If sizes line e a (Some b) = ap (stat_size sizes) (sym (tree.rolls-If line e a (Some b))) ∙ size_at sizes (layer.If line e a (Some b))

pub size_While : (sizes : Sizes) (line : ℕ) (e : BoundExpr) (a : BoundStat) → stat_size sizes (tree.While line e a) ≡ 1 + stat_size sizes a
size_While sizes line e a = ap (stat_size sizes) (sym (tree.rolls-While line e a)) ∙ size_at sizes (layer.While line e a)

pub size_Do : (sizes : Sizes) (line : ℕ) (a : BoundStat) (e : BoundExpr) → stat_size sizes (tree.Do line a e) ≡ stat_size sizes a + 1
size_Do sizes line a e = ap (stat_size sizes) (sym (tree.rolls-Do line a e)) ∙ size_at sizes (layer.Do line a e)

pub size_For : (sizes : Sizes) (line : ℕ) (begin : List LinedSimple) (e : Option BoundExpr) (after : Option LinedSimple) (a : BoundStat) → stat_size sizes (tree.For line begin e after a) ≡ simples_size sizes begin + (1 + (after_size sizes after + stat_size sizes a))
size_For sizes line begin e after a = ap (stat_size sizes) (sym (tree.rolls-For line begin e after a)) ∙ size_at sizes (layer.For line begin e after a)

-- sizes that are the same of each function give the same
same_calls : (a b : Sizes) (fs : List ℕ) → ((f : ℕ) → a f ≡ b f) → calls_size a fs ≡ calls_size b fs
same_calls a b [] h = refl
same_calls a b (f ∷ fs) h = omega (arith, h f, same_calls a b fs h)

same_weight : (a b : Sizes) (w : Weight) → ((f : ℕ) → a f ≡ b f) → weight_by a w ≡ weight_by b w
same_weight a b w h = ap (λ n. w.own + n) (same_calls a b w.calls h)

found : (a b : Sizes) (ws : List Weight) (fs : List BoundFunction) (f : ℕ) → ((g : ℕ) → a g ≡ b g) → AreWeighed ws fs → found_size (weight_by a) (slice_get ws f) ≡ function_size (body_size b) (slice_get fs f)
found a b [] [] f h k = refl
found a b [] (g ∷ fs) f h k = absurd k
found a b (w ∷ ws) [] f h k = absurd k
found a b (w ∷ ws) (g ∷ fs) zero h k = same_weight a b w h ∙ k.0 b
found a b (w ∷ ws) (g ∷ fs) (suc f) h k = found a b ws fs f h k.1

-- the sizes of functions by their weights
pub sizes_are : (depth : ℕ) (ws : List Weight) (fs : List BoundFunction) → AreWeighed ws fs → (f : ℕ) → sizes_by depth ws f ≡ sizes_within depth fs f
sizes_are zero ws fs h f = refl
sizes_are (suc d) ws fs h f = found (sizes_by d ws) (sizes_within d fs) ws fs f (sizes_are d ws fs h) h

-- a body's size is its weight
pub body_is : (depth : ℕ) (ws : List Weight) (fs : List BoundFunction) (w : Weight) (body : List BoundStat) → AreWeighed ws fs → IsWeightOf w body → weight_by (sizes_by depth ws) w ≡ body_size (sizes_within depth fs) body
body_is d ws fs w body h k = same_weight (sizes_by d ws) (sizes_within d fs) w (sizes_are d ws fs h) ∙ k (sizes_within d fs)

-- the size of a function that there is
pub size_found : (depth : ℕ) (ws : List Weight) (f : ℕ) (w : Weight) → (depth ≡ 0 → ⊥) → slice_get ws f ≡ Some w → sizes_by depth ws f ≡ weight_by (sizes_by (depth - 1) ws) w
size_found zero ws f w n e = absurd (n refl)
size_found (suc d) ws f w n e =
    let same : suc d - 1 ≡ d = omega arith in
    ap (found_size (weight_by (sizes_by d ws))) e ∙ ap (λ k. weight_by (sizes_by k ws) w) (sym same)

pub all_weighed : (ws : List Weight) (n : ℕ) (fs : List BoundFunction) → length fs ≤ n → ((rest : List Weight) → AreWeighed rest (drop n fs) → AreWeighed (ws ++ rest) fs) → AreWeighed ws fs
all_weighed ws n fs le h = subst (λ xs. AreWeighed xs fs) (append-nil ws) (h [] (subst (λ xs. AreWeighed [] xs) (sym (drop_of_length-le fs le)) tt))

-- one off a number, and then a size
pub one_less : (size left : ℕ) (end : Option ℕ) → (left ≡ 0 → ⊥) → IsLeft size (left - 1) end → IsLeft (1 + size) left end
one_less size zero end e h = absurd (e refl)
one_less size (suc n) None e h = omega (arith, h)
one_less size (suc n) (Some m) e h = omega (arith, h)
