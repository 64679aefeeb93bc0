-- The statements of a block hold what they hold one after the other.
use Rattle.std.proofs.Common.{◌≡◌, ◌∙◌, ap, sym, refl, ℕ, List, [], ◌∷◌, map}
use Rattle.ooo_bound.specs.declared.stat.BoundStat.{BoundStat, BoundStat-F, map-BoundStat, roll-BoundStat, fold-roll-BoundStat}
use Rattle.ooo_bound.specs.declared.stat.BoundStat.TheOpen as layer
use Rattle.ooo_bound.specs.declared.stat.BoundStat.TheVariants as tree
use Rattle.ooo_elaborate.specs.declared.holders.Held.{Held}
use Rattle.ooo_elaborate.specs.Ends.{Holding, all_hold, body_holds, stat_holds, stat_step}

holds_at : (p : ℕ) (y : BoundStat-F BoundStat) →
    stat_holds p (roll-BoundStat y) ≡ stat_step p (map-BoundStat BoundStat Holding (stat_holds p) y)
unfolding stat_holds
holds_at p y = fold-roll-BoundStat Holding (stat_step p) y

hold_in_order : (p : ℕ) (xs : List BoundStat) (hs : List Held) → all_hold (map (stat_holds p) xs) hs ≡ body_holds p xs hs
hold_in_order p [] hs = refl
hold_in_order p (x ∷ xs) hs = hold_in_order p xs (stat_holds p x hs)

-- those of a block
pub block_holds : (p : ℕ) (xs : List BoundStat) (hs : List Held) → stat_holds p (tree.Block xs) hs ≡ body_holds p xs hs
block_holds p xs hs =
    ap (λ x. stat_holds p x hs) (sym (tree.rolls-Block xs)) ∙ ap (λ (f : Holding). f hs) (holds_at p (layer.Block xs)) ∙ hold_in_order p xs hs
