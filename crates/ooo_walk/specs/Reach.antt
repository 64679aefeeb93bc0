-- Which functions of a module are reached by calls.
use Rattle.std.specs.Prelude.{◌≡◌, ℕ, zero, suc, ◌+◌, ◌<◌, ◌==◌, List, [], ◌∷◌, ◌++◌, length, Bool, true, false, ◌||◌, Option, Some, None, slice_get, slice_index_or, if◌then◌else◌}
use Rattle.ooo_checked.specs.declared.module.CheckedFunction.{CheckedFunction}
use Rattle.ooo_constants.specs.Bodies.{body_calls}
use Rattle.ooo_walk.specs.Plans.{Viewed, function_at}

-- a list has the number
abbrev pub has : List ℕ → ℕ → Bool
has [] n = false
has (m ∷ ms) n = n == m || has ms n

-- a list with the number of a function at its end, if it hasn't it; what is no function is passed over
abbrev pub with_function : List ℕ → ℕ → Option CheckedFunction → List ℕ
with_function seen n None = seen
with_function seen n (Some f) = if has seen n then seen else seen ++ n ∷ []

-- the same for calls one after the other
abbrev pub with_calls : Viewed → List ℕ → List ℕ → List ℕ
with_calls v seen [] = seen
with_calls v seen (n ∷ ns) = with_calls v (with_function seen n (function_at v n)) ns

-- the functions that a function calls
abbrev pub calls_in : Option CheckedFunction → List ℕ
calls_in None = []
calls_in (Some f) = body_calls f.body

-- the functions that are called by the one at a place of a list, if it has that place
abbrev pub calls_at : Viewed → Option ℕ → List ℕ
calls_at v None = []
calls_at v (Some n) = calls_in (function_at v n)

-- a list of functions with all those that its functions from a place on reach by calls, in the order in which they are
-- found; so many of its places are looked at
abbrev pub reached_from : Viewed → (left place : ℕ) → List ℕ → List ℕ
reached_from v zero place seen = seen
reached_from v (suc left) place seen = reached_from v left (place + 1) (with_calls v seen (calls_at v (slice_get seen place)))

-- the functions of a module that are reached by these calls, each once: there are no more than names
abbrev pub reached_by : Viewed → List ℕ → List ℕ
reached_by v calls = reached_from v (length v.places) 0 (with_calls v [] calls)

-- marks tell which numbers a list has
pub record Marks (names : ℕ) (seen : List ℕ) (marks : List Bool) : Type 0 where
  pub all : length marks ≡ names
  pub each : (n : ℕ) → n < names → slice_index_or marks n true ≡ has seen n
