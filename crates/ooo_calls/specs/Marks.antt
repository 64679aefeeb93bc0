-- Marks of functions, one for each number that occurs in the calls.
use Rattle.std.specs.Prelude.{◌≡◌, ℕ, ◌<◌, List, Bool, false, slice_index_or, All}
use Rattle.ooo_calls.specs.declared.call.Call.{Call}

-- each function that occurs in the calls has a lower number
abbrev pub AreBelow : ℕ → List Call → Type 0
AreBelow count cs = All (λ c. (c.from < count) × (c.to < count)) cs

-- exactly those functions are marked that pass a test
abbrev pub AreMarksOf : (ℕ → Bool) → List Bool → Type 0
AreMarksOf test marks = (n : ℕ) → slice_index_or marks n false ≡ test n
