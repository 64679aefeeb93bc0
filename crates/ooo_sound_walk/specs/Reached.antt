-- The functions of a module that are reached by calls.
use Rattle.std.specs.Prelude.{◌≡◌, ℕ, List, true, Some, Contains}
use Rattle.ooo_checked.specs.declared.module.CheckedFunction.{CheckedFunction}
use Rattle.ooo_walk.specs.Plans.{Viewed, function_at}
use Rattle.ooo_walk.specs.Reach.{calls_in, has, reached_by}

-- a list has each function of a module among these
abbrev pub HasFunctions : Viewed → List ℕ → List ℕ → Type 0
HasFunctions v names calls = (y : ℕ) (f : CheckedFunction) → Contains calls y → function_at v y ≡ Some f → has names y ≡ true

-- what is reached by calls has all that they call, and all that it calls itself
pub record IsClosed (v : Viewed) (calls : List ℕ) : Type 0 where
  pub first : HasFunctions v (reached_by v calls) calls
  pub others : (x : ℕ) (f : CheckedFunction) → has (reached_by v calls) x ≡ true → function_at v x ≡ Some f →
      HasFunctions v (reached_by v calls) (calls_in (Some f))

abbrev pub ReachedAreClosed : Type 0
ReachedAreClosed = (v : Viewed) (calls : List ℕ) → IsClosed v calls

-- it has functions alone, and no more than each list has that is closed so
pub record IsLeast (v : Viewed) (calls : List ℕ) : Type 0 where
  pub functions : (y : ℕ) → has (reached_by v calls) y ≡ true → (f : CheckedFunction) × (function_at v y ≡ Some f)
  pub least : (names : List ℕ) → HasFunctions v names calls →
      ((x : ℕ) (f : CheckedFunction) → has names x ≡ true → function_at v x ≡ Some f → HasFunctions v names (calls_in (Some f))) →
      (y : ℕ) → has (reached_by v calls) y ≡ true → has names y ≡ true

abbrev pub ReachedAreLeast : Type 0
ReachedAreLeast = (v : Viewed) (calls : List ℕ) → IsLeast v calls
