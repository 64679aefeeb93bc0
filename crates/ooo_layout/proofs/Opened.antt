-- The statements of a block stand one after the other, and alone they come to the same as the block.
use Rattle.std.proofs.Common.{◌≡◌, ℕ, suc, ◌≤◌, ◌<◌, ◌∙◌, ap, sym, refl, subst, List, [], ◌∷◌, map, length, get_or, append-nil, arith}
use Rattle.ooo_bound.specs.declared.stat.BoundStat.{BoundStat, BoundStat-F, map-BoundStat, roll-BoundStat, fold-BoundStat, fold-roll-BoundStat}
use Rattle.ooo_bound.specs.declared.stat.BoundStat.TheOpen as layer
use Rattle.ooo_bound.specs.declared.stat.BoundStat.TheVariants as tree
use Rattle.ooo_layout.specs.Blocks.{GivesSame, IsBare}
use Rattle.ooo_layout.proofs.Joined.{both_nothing}
use Rattle.ooo_layout.proofs.Shaped.{shape_Block}
use Rattle.ooo_layout.proofs.Sized.{size_Block}
use Rattle.std.specs.Prelude.{sum}
use Rattle.ooo_shapes.specs.declared.around.Widths.{Widths}
use Rattle.ooo_shapes.specs.Shapes.{Callees, Shape, body_shape, empty, shape_of, then}
use Rattle.ooo_shapes.specs.Simples.{Home}
use Rattle.ooo_shapes.specs.Widths.{all_widths, body_widths, both, stat_widths, stat_step}

widths_at : (y : BoundStat-F BoundStat) → stat_widths (roll-BoundStat y) ≡ stat_step (map-BoundStat BoundStat Widths stat_widths y)
unfolding stat_widths
widths_at y = fold-roll-BoundStat Widths stat_step y

widths_in_order : (xs : List BoundStat) → all_widths (map stat_widths xs) ≡ body_widths xs
widths_in_order [] = refl
widths_in_order (x ∷ xs) = ap (both (stat_widths x)) (widths_in_order xs)

-- the slots of a block
pub block_widths : (xs : List BoundStat) → stat_widths (tree.Block xs) ≡ body_widths xs
block_widths xs = ap stat_widths (sym (tree.rolls-Block xs)) ∙ widths_at (layer.Block xs) ∙ widths_in_order xs

-- ---- a body that is a block alone

gives_on : (x y z : Shape) → GivesSame x y → GivesSame y z → GivesSame x z
gives_on x y z h k = record {
  nodes_are = λ t free at next. h.nodes_are t free at next ∙ k.nodes_are t free at next;
  slots_are = h.slots_are ∙ k.slots_are;
  size_is = h.size_is ∙ k.size_is;
}

alone : (x : Shape) → GivesSame x (then x empty)
alone x = record {
  nodes_are = λ t free at next. sym (append-nil (x.nodes t free at next));
  slots_are = sym (append-nil x.slots);
  size_is = omega arith;
}

in_block : (h : Home) (cs : Callees) (xs : List BoundStat) → GivesSame (body_shape h cs xs) (body_shape h cs (tree.Block xs ∷ []))
in_block h cs xs =
    subst (λ x. GivesSame x (then (shape_of h cs (tree.Block xs)) empty)) (shape_Block h cs xs) (alone (shape_of h cs (tree.Block xs)))

inside_block : (inside xs : List BoundStat) → IsBare inside xs → IsBare inside (tree.Block xs ∷ [])
inside_block inside xs i = record {
  shape_is =
      λ h cs.
      gives_on (body_shape h cs inside) (body_shape h cs xs) (body_shape h cs (tree.Block xs ∷ [])) (i.shape_is h cs) (in_block h cs xs);
  size_is = λ sizes. omega (arith, i.size_is sizes, size_Block sizes xs);
  widths_are = i.widths_are ∙ sym (block_widths xs) ∙ sym (both_nothing (stat_widths (tree.Block xs)));
}

-- nothing is taken off a body
pub bare_already : (body : List BoundStat) → IsBare body body
bare_already body = record {
  shape_is = λ h cs. record { nodes_are = λ t free at next. refl; slots_are = refl; size_is = refl };
  size_is = λ sizes. refl;
  widths_are = refl;
}

-- a block is taken off
bare_inside : (inside ys xs body : List BoundStat) (stat : BoundStat) → 1 ≤ length body → length body < 2 → stat ≡ get_or body 0 stat → stat ≡ tree.Block xs → ys ≡ xs → IsBare inside ys → IsBare inside body
bare_inside inside ys xs [] stat some few at is ey i = absurd (omega (arith, some))
bare_inside inside ys xs (x ∷ []) stat some few at is ey i =
    subst (λ x. IsBare inside (x ∷ [])) (sym is ∙ at) (inside_block inside xs (subst (IsBare inside) ey i))
bare_inside inside ys xs (x ∷ y ∷ zs) stat some few at is ey i = absurd (omega (arith, few))

bare_further : (a b c : List BoundStat) → IsBare a b → IsBare b c → IsBare a c
bare_further a b c i j = record {
  shape_is =
      λ h cs. gives_on (body_shape h cs a) (body_shape h cs b) (body_shape h cs c) (i.shape_is h cs) (j.shape_is h cs);
  size_is = λ sizes. i.size_is sizes ∙ j.size_is sizes;
  widths_are = i.widths_are ∙ j.widths_are;
}

-- one more block is taken off
pub bare_on : (ys xs inside body : List BoundStat) (stat : BoundStat) → 1 ≤ length inside → length inside < 2 → stat ≡ get_or inside 0 stat → stat ≡ tree.Block xs → ys ≡ xs → IsBare inside body → IsBare ys body
bare_on ys xs inside body stat some few at is ey i =
    bare_further ys inside body (bare_inside ys ys xs inside stat some few at is ey (bare_already ys)) i

-- ---- how deep blocks lie in one another

abbrev nest_step : BoundStat-F ℕ → ℕ
nest_step (layer.Block parts) = suc (sum parts)
nest_step _ = 0

nest : BoundStat → ℕ
nest = fold-BoundStat ℕ nest_step

pub nests : List BoundStat → ℕ
nests xs = sum (map nest xs)

nest_at : (y : BoundStat-F BoundStat) → nest (roll-BoundStat y) ≡ nest_step (map-BoundStat BoundStat ℕ nest y)
unfolding nest
nest_at y = fold-roll-BoundStat ℕ nest_step y

nest_Block : (xs : List BoundStat) → nest (tree.Block xs) ≡ suc (nests xs)
unfolding nests
nest_Block xs = ap nest (sym (tree.rolls-Block xs)) ∙ nest_at (layer.Block xs)

-- a block lies deeper than what it holds
pub nests_less : (ys xs inside : List BoundStat) (stat : BoundStat) → 1 ≤ length inside → length inside < 2 → stat ≡ get_or inside 0 stat → stat ≡ tree.Block xs → ys ≡ xs → nests ys < nests inside
unfolding nests
nests_less ys xs [] stat some few at is ey = absurd (omega (arith, some))
nests_less ys xs (x ∷ []) stat some few at is ey =
    let here : nest x ≡ suc (nests xs) = ap nest (sym at ∙ is) ∙ nest_Block xs in
    let there : nests ys ≡ nests xs = ap nests ey in
    omega (arith, here, there)
nests_less ys xs (x ∷ y ∷ zs) stat some few at is ey = absurd (omega (arith, few))
