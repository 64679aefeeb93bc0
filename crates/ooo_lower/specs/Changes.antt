-- The events of what happens to fifos.
use Rattle.std.specs.Prelude.{ℕ, List, Bool}
use Rattle.ooo_value.specs.declared.bound.BoundEvent.{BoundEvent}
use Rattle.ooo_code.specs.Touches.{is_data_written, is_data_read}
use Rattle.ooo_bound.specs.declared.model.Bound.{Bound}
use Rattle.ooo_activation.specs.Activations.{data_written, data_read}
use Rattle.ooo_lower.specs.declared.kinds_of_nodes.Change.{Change}
use Rattle.ooo_lower.specs.declared.kinds_of_nodes.Change.TheVariants.{Written, Read}

-- the event is that of a fifo's change
abbrev pub is_event : Change → (fifo : ℕ) → BoundEvent → Bool
is_event Written c e = is_data_written c e
is_event Read c e = is_data_read c e

-- the event of a fifo's change, in a list, if there is it
abbrev pub events_of : Bound → Change → (fifo : ℕ) → List ℕ
events_of b Written c = data_written b c
events_of b Read c = data_read b c
