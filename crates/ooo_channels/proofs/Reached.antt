-- The place of a stamp among versions in order.
use Rattle.std.proofs.Common.{◌≡◌, ◌<◌, ◌⊎◌, inl, inr, Bool, true, false, not, arith, List, refl, get_or, ℕ}
use Rattle.std.specs.Prelude.{AllPairs}
use Rattle.std.specs.List.Sorted.{IsPartitionPoint, IsPartitionedBy}
use Rattle.std.proofs.lemmas.Bool.{cases_order}
use Rattle.ooo_time.specs.declared.stamp.Stamp.{Stamp}
use Rattle.ooo_time.specs.Stamps.{IsBefore, is_before}
use Rattle.ooo_channels.specs.declared.version.Version.{Version}
use Rattle.ooo_channels.specs.Versions.{IsEarlier}
use Rattle.ooo_channels.proofs.Orders.{Earlier, earlier, not_earlier, earlier_or_not, is_before-no, IsBefore-trans}

not_before-from_test : (s t : Stamp) → not (is_before s t) ≡ true → ¬ IsBefore s t
not_before-from_test s t = go (earlier_or_not s t) where
  go : {b : Bool} → Earlier s t b → not b ≡ true → ¬ IsBefore s t
  go (earlier h) e = absurd cc
  go (not_earlier h) e = h

before-from_test : (s t : Stamp) → not (is_before s t) ≡ false → IsBefore s t
before-from_test s t = go (earlier_or_not s t) where
  go : {b : Bool} → Earlier s t b → not b ≡ false → IsBefore s t
  go (earlier h) e = h
  go (not_earlier h) e = absurd cc

module _ (versions : List Version) (at : Stamp) where
  -- those that aren't after a stamp stand before those that are
  pub reached_first : AllPairs IsEarlier versions → IsPartitionedBy (λ (v : Version). not (is_before at v.stamp)) versions
  reached_first ascending i j d le lt e = go (cases_order i j) where
    later : ¬ IsBefore at (get_or versions j d).stamp
    later = not_before-from_test at (get_or versions j d).stamp e

    test : ¬ IsBefore at (get_or versions i d).stamp → not (is_before at (get_or versions i d).stamp) ≡ true
    test h = let x = is_before-no at (get_or versions i d).stamp h in rw x refl

    go : (i ≡ j) ⊎ ((i < j) ⊎ (j < i)) → not (is_before at (get_or versions i d).stamp) ≡ true
    go (inl same) = rw same e
    go (inr (inl before)) = test (λ h. later (IsBefore-trans at (get_or versions i d).stamp (get_or versions j d).stamp h (ascending i j d before lt)))
    go (inr (inr after)) = absurd (omega (arith, le, after))

  pub split_by_order :
      (i : ℕ) → IsPartitionPoint (λ (v : Version). not (is_before at v.stamp) ≡ true) (λ (v : Version). not (is_before at v.stamp) ≡ false) versions i →
      IsPartitionPoint (λ (v : Version). ¬ IsBefore at v.stamp) (λ (v : Version). IsBefore at v.stamp) versions i
  split_by_order i point = (
    λ k d low high. not_before-from_test at (get_or versions k d).stamp (point.0 k d low high),
    λ k d low high. before-from_test at (get_or versions k d).stamp (point.1 k d low high),
  )
