-- What the calls of one who lends parts change.
use Rattle.std.specs.Prelude.{ℕ, slice_set}
use Rattle.ooo_value.specs.declared.values.Value.{Value}
use Rattle.ooo_code.specs.Expressions.{Sight, cells_of}
use Rattle.ooo_code.specs.Nodes.{seen_after_take, seen_after_put}

-- a local gets a value
abbrev pub after_slot : Sight → ℕ → Value → Sight
after_slot s n v = record s { slots = slice_set s.slots n v }

-- an element of a variable gets a value
abbrev pub after_cell : Sight → ℕ → ℕ → Value → Sight
after_cell s x k v = record s { variables = slice_set s.variables x (slice_set (cells_of s.variables x) k v) }

-- a value of a fifo is taken
abbrev pub after_take : Sight → ℕ → Sight
after_take s c = record s { seen = seen_after_take s.seen c }

-- a value is put into a fifo
abbrev pub after_put : Sight → ℕ → Sight
after_put s c = record s { seen = seen_after_put s.seen c }
