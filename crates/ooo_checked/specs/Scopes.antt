-- Scopes: what each name denotes at a place of a text (ISO C++ [basic.scope]).
use Rattle.std.specs.Prelude.{ℕ, ◌+◌, List, [], ◌∷◌, length, drop, Bool, false, Option, Some, None, is_some, if◌then◌else◌}
use Rattle.std.specs.Option.{unwrap_or}
use Rattle.std.specs.Str.{bytes_eq}
use Rattle.ooo_checked.specs.declared.denotation.Denotation.{Denotation}
use Rattle.ooo_checked.specs.declared.denotation.Thing.TheVariants as thing

-- a name and what it denotes
pub record Binding : Type 0 where
  pub name : List ℕ
  pub denotes : Denotation

-- the blocks that a place stands in, the innermost first, and of each the names that are known, the latest first
abbrev pub Scope : Type 0
Scope = List (List Binding)

-- what a name denotes that is not known
abbrev pub unknown : Denotation
unknown = record { thing = thing.Nothing; number = 0 }

-- what the name denotes by a block, if the block declares it: what was declared last
abbrev pub found_in : List Binding → List ℕ → Option Denotation
found_in [] name = None
found_in (b ∷ bs) name = if bytes_eq name b.name then Some b.denotes else found_in bs name

-- what the name denotes: what the innermost block says that declares it
abbrev pub meaning_of : Scope → List ℕ → Denotation
meaning_of [] name = unknown
meaning_of (block ∷ outer) name = unwrap_or (found_in block name) (meaning_of outer name)

-- the innermost block declares the name
abbrev pub is_declared_here : Scope → List ℕ → Bool
is_declared_here [] name = false
is_declared_here (block ∷ outer) name = is_some (found_in block name)

-- the innermost block declares one name more
abbrev pub declared : Scope → List ℕ → Denotation → Scope
declared [] name d = (record { name = name; denotes = d } ∷ []) ∷ []
declared (block ∷ outer) name d = (record { name = name; denotes = d } ∷ block) ∷ outer

-- a block begins
abbrev pub entered : Scope → Scope
entered s = [] ∷ s

-- the innermost block ends
abbrev pub left : Scope → Scope
left s = drop 1 s

-- how many names the blocks declare
abbrev pub size_of : Scope → ℕ
size_of [] = 0
size_of (block ∷ outer) = length block + size_of outer
