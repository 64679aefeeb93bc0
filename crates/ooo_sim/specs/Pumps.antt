-- What the reading and the writing loop do.
use Rattle.std.specs.Prelude.{◌≡◌, ℕ, List, Option, Some, None, take, drop, ⊤}
use Rattle.std.specs.Io.KnownBytes.{Appends}

-- these are the bytes that the source tells, or as many of the first as the limit; a source that tells none says nothing
abbrev pub AreFirst : ℕ → Option (List ℕ) → List ℕ → Type 0
AreFirst limit None read = ⊤
AreFirst limit (Some bytes) read = read ≡ take limit bytes

-- the source gave as many of its first bytes as the limit, or all
abbrev pub GaveFirst : ℕ → Option (List ℕ) → Option (List ℕ) → Type 0
GaveFirst limit None new = ⊤
GaveFirst limit (Some bytes) None = ⊥
GaveFirst limit (Some bytes) (Some left) = left ≡ drop limit bytes

-- a prefix of the text was taken
abbrev pub AppendsPrefix : Option (List ℕ) → Option (List ℕ) → List ℕ → Type 0
AppendsPrefix old new text = (n : ℕ) × Appends old new (take n text)
