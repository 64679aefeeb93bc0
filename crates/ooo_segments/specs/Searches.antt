-- A search for the nodes that are reachable: marks of those that were found, and a list of those that are still to be
-- followed.
use Rattle.std.specs.Prelude.{◌≡◌, ℕ, ◌+◌, ◌*◌, ◌≤◌, ◌⊎◌, List, Bool, not, length, Some, slice_get, Contains, count_by}
use Rattle.ooo_code.specs.declared.node.Node.{Node}
use Rattle.ooo_code.specs.Segments.{Reaches, successors}
use Rattle.ooo_segments.specs.Numbers.{IsIn}

-- how much a search has left to do at most: a node that isn't found may still be found and followed
abbrev pub work_left : List Bool → List ℕ → ℕ
work_left marks left = 2 * count_by not marks + length left

-- a search goes from marks and a list to others by finding these nodes: each that is new is to be followed
pub record Finds (marks : List Bool) (left : List ℕ) (marks' : List Bool) (left' : List ℕ) (found : List ℕ) : Type 0 where
  pub count : length marks' ≡ length marks
  pub kept : (n : ℕ) → IsIn marks n → IsIn marks' n
  pub left_kept : (n : ℕ) → Contains left n → Contains left' n
  pub fresh : (n : ℕ) → IsIn marks' n → IsIn marks n ⊎ Contains left' n
  pub only : (n : ℕ) → IsIn marks' n → IsIn marks n ⊎ Contains found n
  pub listed : (n : ℕ) → Contains left' n → Contains left n ⊎ IsIn marks' n
  pub all : (n : ℕ) → Contains found n → IsIn marks' n
  pub work : work_left marks' left' ≤ work_left marks left

-- a search from an entry, under way: what is found is reachable, and followed but for what is left
pub record IsSearch (nodes : List Node) (entry : ℕ) (marks : List Bool) (left : List ℕ) : Type 0 where
  pub sound : (n : ℕ) → IsIn marks n → Reaches nodes entry n
  pub first : IsIn marks entry
  pub listed : (n : ℕ) → Contains left n → IsIn marks n
  pub closed : (n c : ℕ) (node : Node) → IsIn marks n → slice_get nodes n ≡ Some node → Contains (successors node) c → Contains left n ⊎ IsIn marks c
