-- Sets of numbers, given by a mark for each number.
use Rattle.std.specs.Prelude.{◌≡◌, ℕ, ◌<◌, ◌↔◌, List, Bool, true, Some, slice_get, Contains, AllPairs}

-- a number is in the set
abbrev pub IsIn : List Bool → ℕ → Type 0
IsIn marks n = slice_get marks n ≡ Some true

-- the numbers of the set, ascending
pub record AreNumbersOf (marks : List Bool) (numbers : List ℕ) : Type 0 where
  pub same : (n : ℕ) → Contains numbers n ↔ IsIn marks n
  pub ascending : AllPairs (λ m n. m < n) numbers
