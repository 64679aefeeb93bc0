-- The channels of which nodes are shown something.
use Rattle.std.specs.Prelude.{ℕ, nat_lt, List, [], ◌∷◌, if◌then◌else◌}
use Rattle.std.specs.List.{flat_map}
use Rattle.ooo_value.specs.declared.bound.BoundEvent.{BoundEvent}
use Rattle.ooo_code.specs.declared.node.Node.{Node}
use Rattle.ooo_code.specs.Touches.{Touch, ReadsSignal, HoldsReading, HoldsWriting, touched_by}

-- a channel, if it is one of so many
abbrev pub one_of : ℕ → ℕ → List ℕ
one_of count c = if nat_lt c count then c ∷ [] else []

-- the channel of so many that a touch shows something of: a signal that is read, or a fifo of which an end is held
abbrev pub shown_by : ℕ → Touch → List ℕ
shown_by count (ReadsSignal c) = one_of count c
shown_by count (HoldsReading c) = one_of count c
shown_by count (HoldsWriting c) = one_of count c
shown_by count _ = []

-- those that some touches show something of
abbrev pub shown_to : ℕ → List Touch → List ℕ
shown_to count touches = flat_map (shown_by count) touches

-- those that some nodes are shown something of, in a design with these events
abbrev pub shown_to_nodes : ℕ → List BoundEvent → List Node → List ℕ
shown_to_nodes count events nodes = flat_map (λ node. shown_to count (touched_by events node.kind)) nodes
