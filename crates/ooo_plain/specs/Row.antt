-- A row of processes that are due at one stamp, and what it shares with other collections of keys.
use Rattle.std.specs.Prelude.{◌≡◌, ℕ, ◌<◌, ◌≤◌, ◌==◌, ◌&&◌, ◌⊎◌, Bool, true, false, List, [], Option, Some, None, length, slice_index_or, if◌then◌else◌}
use Rattle.std.specs.List.{list_any}
use Rattle.std.specs.Ordering.{is_eq}
use Rattle.ooo_time.specs.declared.stamp.Stamp.{Stamp}
use Rattle.ooo_time.specs.Stamps.{IsBefore}
use Rattle.ooo_meaning.specs.World.{same_stamp}
use Rattle.ooo_plain.specs.declared.agenda.Due.{Due}
use Rattle.ooo_plain.specs.Agenda.{due_cmp}

-- the stamp, and the processes
pub record RowState : Type 0 where
  pub stamp : Stamp
  pub processes : List ℕ

-- a process is among these
abbrev pub is_among : List ℕ → ℕ → Bool
is_among processes p = list_any (λ q. q == p) processes

-- the row has a process for the stamp at which it is due
abbrev pub stands_in : RowState → Due → Bool
stands_in row k = same_stamp k.stamp row.stamp && is_among row.processes k.process

-- a key may stand at the end of a row: it is due at its stamp, unless that is empty, and all processes there are lower
pub record MayEnd (row : RowState) (k : Due) : Type 0 where
  pub stamp : (row.processes ≡ []) ⊎ (row.stamp ≡ k.stamp)
  pub above : (i d : ℕ) → i < length row.processes → slice_index_or row.processes i d < k.process

-- process p is at this place of so many processes
pub record IsPlaceOf (p count : ℕ) (processes : List ℕ) (at : ℕ) : Type 0 where
  pub counted : at < count
  pub within : at < length processes
  pub is : slice_index_or processes at 0 ≡ p

-- ---- collections, by what they have

-- a key isn't later than another one
pub record IsUpTo (k q : Due) : Type 0 where
  pub stamp : ¬ IsBefore q.stamp k.stamp
  pub process : k.stamp ≡ q.stamp → k.process ≤ q.process

-- the first of all keys that a collection has
pub record IsLowest (has : Due → Bool) (k : Due) : Type 0 where
  pub member : has k ≡ true
  pub lowest : (q : Due) → has q ≡ true → IsUpTo k q

-- the first of its keys, if there is one
abbrev pub IsFirstOf : (Due → Bool) → Option Due → Type 0
IsFirstOf has None = (q : Due) → has q ≡ false
IsFirstOf has (Some k) = IsLowest has k

-- a key was taken out
abbrev pub Loses : Due → (old new : Due → Bool) → Type 0
Loses k old new = (q : Due) → new q ≡ if is_eq (due_cmp k q) then false else old q

-- a key was added
abbrev pub Gains : Due → (old new : Due → Bool) → Type 0
Gains k old new = (q : Due) → new q ≡ if is_eq (due_cmp k q) then true else old q

-- no key is in both collections
abbrev pub AreApart : (a b : Due → Bool) → Type 0
AreApart a b = (k : Due) → a k ≡ true → b k ≡ false

-- the lower of two keys, of those that there are
abbrev pub IsLower : (a b lower : Option Due) → Type 0
IsLower None b lower = lower ≡ b
IsLower (Some x) None lower = lower ≡ Some x
IsLower (Some x) (Some y) lower = ((lower ≡ Some x) × IsUpTo x y) ⊎ ((lower ≡ Some y) × IsUpTo y x)
