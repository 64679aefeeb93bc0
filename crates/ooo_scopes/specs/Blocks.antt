-- Blocks by how many names each declares.
use Rattle.std.specs.Prelude.{◌≡◌, ℕ, List, [], ◌∷◌, drop, take, reverse, length, sum}
use Rattle.ooo_checked.specs.Scopes.{Binding, Scope}
use Rattle.ooo_scopes.specs.declared.scopes.Scopes.TheInside.{Inside}

-- the bindings in blocks: of each block how many it has, the innermost first
abbrev pub blocks : List ℕ → List Binding → Scope
blocks [] bs = []
blocks (n ∷ ns) bs = take n bs ∷ blocks ns (drop n bs)

-- the blocks of the fields
abbrev pub blocks_of : Inside → Scope
blocks_of a = blocks (reverse a.counts.items) a.names

-- each binding belongs to a block
abbrev pub AllInBlocks : Inside → Type 0
AllInBlocks a = sum (reverse a.counts.items) ≡ length a.names
