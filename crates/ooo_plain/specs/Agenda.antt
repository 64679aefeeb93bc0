-- When each process is due, and which of them is the next.
use Rattle.std.specs.Prelude.{◌≡◌, ◌≢◌, ℕ, ◌<◌, List, Option, Some, None, length, slice_set, slice_index_or}
use Rattle.std.specs.declared.cmp.Ordering.{Ordering}
use Rattle.std.specs.Ordering.{nat_cmp, ordering_then}
use Rattle.ooo_time.specs.declared.stamp.Stamp.{Stamp}
use Rattle.ooo_time.specs.Stamps.{IsBefore}
use Rattle.ooo_plain.specs.declared.agenda.Due.{Due}

-- when process p is due, if it is
abbrev pub due_in : List (Option Stamp) → ℕ → Option Stamp
due_in dues p = slice_index_or dues p None

-- first the earlier stamp, then the lower process
abbrev pub due_cmp : Due → Due → Ordering
due_cmp a b = ordering_then (ordering_then (nat_cmp a.stamp.time.0 b.stamp.time.0) (nat_cmp a.stamp.delta b.stamp.delta)) (nat_cmp a.process b.process)

-- no process is due before a stamp
abbrev pub AllFrom : Stamp → List (Option Stamp) → Type 0
AllFrom now dues = (p : ℕ) (t : Stamp) → due_in dues p ≡ Some t → ¬ IsBefore t now

-- the lowest process that is due now is taken off
pub record Takes (p : ℕ) (now : Stamp) (old new : List (Option Stamp)) : Type 0 where
  pub within : p < length old
  pub due : due_in old p ≡ Some now
  pub lowest : (q : ℕ) → q < p → due_in old q ≢ Some now
  pub new_is : new ≡ slice_set old p None

-- no process is due now
pub record TakesNone (now : Stamp) (old new : List (Option Stamp)) : Type 0 where
  pub none : (p : ℕ) → due_in old p ≢ Some now
  pub same : new ≡ old
