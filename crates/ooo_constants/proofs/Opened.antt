-- The statements of a block stand one after the other, and alone they come to the same as the block.
use Rattle.std.proofs.Common.{◌≡◌, ℕ, suc, ◌≤◌, ◌<◌, ◌∙◌, ap, sym, refl, subst, List, [], ◌∷◌, map, length, get_or, append-nil, arith}
use Rattle.std.specs.Prelude.{sum}
use Rattle.ooo_lexer.specs.declared.position.Position.{Position}
use Rattle.ooo_checked.specs.declared.stat.CheckedStat.{CheckedStat, CheckedStat-F, map-CheckedStat, roll-CheckedStat, fold-CheckedStat, fold-roll-CheckedStat}
use Rattle.ooo_checked.specs.declared.stat.CheckedStat.TheOpen as layer
use Rattle.ooo_checked.specs.declared.stat.CheckedStat.TheVariants as tree
use Rattle.ooo_constants.specs.Bodies.{stat_calls, stat_refusals}
use Rattle.ooo_constants.specs.Bare.{IsBare}
use Rattle.ooo_constants.proofs.Blocks.{calls_of_block, refusals_of_block}

-- ---- a body that is a block alone

in_block : (at : Position) (xs : List CheckedStat) → IsBare xs (tree.Block at xs ∷ [])
in_block at xs = record {
  calls_are = sym (calls_of_block at xs) ∙ sym (append-nil (stat_calls (tree.Block at xs)));
  refusals_are = λ c. sym (refusals_of_block c at xs) ∙ sym (append-nil (stat_refusals c (tree.Block at xs)));
}

-- a block is taken off
bare_inside : (at : Position) (xs inside : List CheckedStat) (stat : CheckedStat) → 1 ≤ length inside → length inside < 2 →
    stat ≡ get_or inside 0 stat → stat ≡ tree.Block at xs → IsBare xs inside
bare_inside at xs [] stat some few first is = absurd (omega (arith, some))
bare_inside at xs (x ∷ []) stat some few first is = subst (λ x. IsBare xs (x ∷ [])) (sym is ∙ first) (in_block at xs)
bare_inside at xs (x ∷ y ∷ zs) stat some few first is = absurd (omega (arith, few))

-- nothing is taken off a body
pub bare_already : (body : List CheckedStat) → IsBare body body
bare_already body = record { calls_are = refl; refusals_are = λ c. refl }

-- one more block is taken off
pub bare_on : (at : Position) (ys xs inside body : List CheckedStat) (stat : CheckedStat) → 1 ≤ length inside →
    length inside < 2 → stat ≡ get_or inside 0 stat → stat ≡ tree.Block at xs → ys ≡ xs → IsBare inside body → IsBare ys body
bare_on at ys xs inside body stat some few first is same i =
    let j = bare_inside at xs inside stat some few first is in
    subst (λ ys. IsBare ys body) (sym same)
    (record { calls_are = j.calls_are ∙ i.calls_are; refusals_are = λ c. j.refusals_are c ∙ i.refusals_are c })

-- ---- how deep blocks lie in one another

abbrev nest_step : CheckedStat-F ℕ → ℕ
nest_step (layer.Block at parts) = suc (sum parts)
nest_step _ = 0

nest : CheckedStat → ℕ
nest = fold-CheckedStat ℕ nest_step

pub nests : List CheckedStat → ℕ
nests xs = sum (map nest xs)

nest_at : (y : CheckedStat-F CheckedStat) → nest (roll-CheckedStat y) ≡ nest_step (map-CheckedStat CheckedStat ℕ nest y)
unfolding nest
nest_at y = fold-roll-CheckedStat ℕ nest_step y

nest_Block : (at : Position) (xs : List CheckedStat) → nest (tree.Block at xs) ≡ suc (nests xs)
unfolding nests
nest_Block at xs = ap nest (sym (tree.rolls-Block at xs)) ∙ nest_at (layer.Block at xs)

-- a block lies deeper than what it holds
pub nests_less : (at : Position) (ys xs inside : List CheckedStat) (stat : CheckedStat) → 1 ≤ length inside →
    length inside < 2 → stat ≡ get_or inside 0 stat → stat ≡ tree.Block at xs → ys ≡ xs → nests ys < nests inside
unfolding nests
nests_less at ys xs [] stat some few first is same = absurd (omega (arith, some))
nests_less at ys xs (x ∷ []) stat some few first is same =
    let here : nest x ≡ suc (nests xs) = ap nest (sym first ∙ is) ∙ nest_Block at xs in
    let there : nests ys ≡ nests xs = ap nests same in
    omega (arith, here, there)
nests_less at ys xs (x ∷ y ∷ zs) stat some few first is same = absurd (omega (arith, few))
