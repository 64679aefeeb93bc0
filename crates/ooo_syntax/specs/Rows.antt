-- The code's tables. No public clause cites this.
use Rattle.std.specs.Prelude.{find, ℕ, suc, List, [], ◌∷◌, ◌++◌, Option, Some, None, length, ◌==◌, Bool, true, ◌&&◌}
use Rattle.std.specs.Borrow.{Bor}
use Rattle.std.specs.Option.{option_map}
use Rattle.std.specs.Str.{bytes_eq}
use Rattle.ooo_syntax.specs.declared.table.Row.{Row}
use Rattle.ooo_syntax.specs.declared.terminal.Terminal.{Terminal}
use Rattle.ooo_syntax.specs.Words.{Written, as_is}

-- a row has these bytes
abbrev pub has_bytes : List ℕ → Row → Bool
has_bytes bs r = bytes_eq r.bytes.now bs

-- what the first row with these bytes says
abbrev pub in_rows : List Row → List ℕ → Option Terminal
in_rows rows bs = option_map (λ r. r.terminal) (find (has_bytes bs) rows)

abbrev pub in_group : Option (Bor (List Row)) → List ℕ → Option Terminal
in_group None bs = None
in_group (Some rows) bs = in_rows rows.now bs

-- the rows of all groups, as they are written
abbrev pub written_rows : List Row → List Written
written_rows [] = []
written_rows (r ∷ rs) = as_is r.bytes.now r.terminal ∷ written_rows rs

abbrev pub written_groups : List (Bor (List Row)) → List Written
written_groups [] = []
written_groups (g ∷ gs) = written_rows g.now ++ written_groups gs

-- each row stands in the group with the number of its length, from this number on
abbrev pub are_long : ℕ → List Row → Bool
are_long n [] = true
are_long n (r ∷ rs) = (length r.bytes.now == n) && are_long n rs

abbrev pub are_by_length : ℕ → List (Bor (List Row)) → Bool
are_by_length n [] = true
are_by_length n (g ∷ gs) = are_long n g.now && are_by_length (suc n) gs
