-- The segments that clash strictly with a segment.
use Rattle.std.specs.Prelude.{◌≡◌, ℕ, ◌<◌, ◌↔◌, List, true, IsTrue, Some, All, Contains, length, slice_get}
use Rattle.ooo_access.specs.Access.{AreAscending}
use Rattle.ooo_conflicts.specs.declared.kind.ClashKind.{ClashKind}
use Rattle.ooo_conflicts.specs.Kinds.{is_clash, kind_at}

-- segment b clashes with segment g where it comes at an earlier stamp
abbrev pub ClashesStrictly : List (List ClashKind) → (b g : ℕ) → Type 0
ClashesStrictly rows b g = (b < length rows) × IsTrue (is_clash (kind_at rows b g) true)

-- these are just the segments that clash strictly with segment g, ascending
pub record IsListOf (rows : List (List ClashKind)) (g : ℕ) (segments : List ℕ) : Type 0 where
  pub exact : (b : ℕ) → Contains segments b ↔ ClashesStrictly rows b g
  pub ascending : AreAscending segments

-- one list for each segment, of those that clash strictly with it
pub record AreLists (rows : List (List ClashKind)) (lists : List (List ℕ)) : Type 0 where
  pub count : length lists ≡ length rows
  pub each : (g : ℕ) (segments : List ℕ) → slice_get lists g ≡ Some segments → IsListOf rows g segments

-- each row has an entry for each segment, and the lists are those of the rows
pub record IsWhole (rows : List (List ClashKind)) (lists : List (List ℕ)) : Type 0 where
  pub wide : All (λ row. length row ≡ length rows) rows
  pub listed : AreLists rows lists
