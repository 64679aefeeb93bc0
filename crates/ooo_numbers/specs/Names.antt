-- What the names of a body denote in an instance, by numbers.
use Rattle.std.specs.Prelude.{ℕ, ◌+◌, List, [], ◌∷◌, Option, Some, None, slice_get}
use Rattle.ooo_checked.specs.declared.denotation.Denotation.{Denotation}
use Rattle.ooo_checked.specs.declared.denotation.EventForm.{EventForm}
use Rattle.ooo_checked.specs.declared.denotation.EventForm.TheVariants as form
use Rattle.ooo_checked.specs.declared.stat.CheckedEvent.{CheckedEvent}
use Rattle.ooo_constants.specs.declared.meaning.Meaning.{Meaning}
use Rattle.ooo_constants.specs.declared.meaning.Meaning.TheVariants as meaning
use Rattle.ooo_constants.specs.Meanings.{Constants}
use Rattle.ooo_numbers.specs.declared.numbers.Numbers.{Numbers}

-- what the names of the file and of the instance mean, the channel that each port is bound to in the end, and the first
-- event of each channel
pub record Numbering : Type 0 where
  pub file : List Meaning
  pub members : List Meaning
  pub ports : List (Option ℕ)
  pub events : List ℕ

-- the same, as it is lent
abbrev pub numbering_of : Numbers → Numbering
numbering_of n = record { file = n.file.now; members = n.members.now; ports = n.ports.now; events = n.events.now }

-- what is known in a body before the simulation
abbrev pub known_in : Numbering → Constants
known_in n = record { file = n.file; statics = []; members = n.members; parameters = [] }

-- the number, or 0 where there is none: what is not found has the number 0, which no text meets that was checked, and
-- whose ports are bound
abbrev pub number_in : Option ℕ → ℕ
number_in (Some c) = c
number_in None = 0

-- the channel that a port is bound to, if it is
abbrev pub port_channel : Option (Option ℕ) → ℕ
port_channel (Some c) = number_in c
port_channel None = 0

-- the channel that a name means: itself, or the one that its port is bound to
abbrev pub channel_meant : List (Option ℕ) → Option Meaning → ℕ
channel_meant ports (Some (meaning.Channel c)) = c
channel_meant ports (Some (meaning.Port p)) = port_channel (slice_get ports p)
channel_meant ports _ = 0

abbrev pub channel_of : Numbering → Denotation → ℕ
channel_of n d = channel_meant n.ports (slice_get n.members d.number)

-- the variable that a name means
abbrev pub variable_meant : Option Meaning → ℕ
variable_meant (Some (meaning.Variable x)) = x
variable_meant _ = 0

abbrev pub variable_of : Numbering → Denotation → ℕ
variable_of n d = variable_meant (slice_get n.members d.number)

-- the function that a name means
abbrev pub function_meant : Option Meaning → ℕ
function_meant (Some (meaning.Function f)) = f
function_meant _ = 0

abbrev pub function_of : Numbering → Denotation → ℕ
function_of n d = function_meant (slice_get n.members d.number)

-- the `sc_event` that a name means
abbrev pub event_meant : Option Meaning → ℕ
event_meant (Some (meaning.Event e)) = e
event_meant _ = 0

abbrev pub own_event_of : Numbering → Denotation → ℕ
own_event_of n d = event_meant (slice_get n.members d.number)

-- how far an event of a channel stands behind the channel's first one: a signal has its change, rise and fall, a fifo what
-- is written and what is taken
abbrev pub event_offset : EventForm → ℕ
event_offset form.Rise = 1
event_offset form.Fall = 2
event_offset form.Taken = 1
event_offset _ = 0

-- the event of this form of the thing that a name denotes
abbrev pub event_by : Numbering → Denotation → EventForm → ℕ
event_by n d form.Own = own_event_of n d
event_by n d f = number_in (slice_get n.events (channel_of n d)) + event_offset f

-- an event in `sensitive` or in a wait
abbrev pub event_of : Numbering → CheckedEvent → ℕ
event_of n e = event_by n e.name.denotes e.form

-- the events one after the other
abbrev pub events_of : Numbering → List CheckedEvent → List ℕ
events_of n [] = []
events_of n (e ∷ es) = event_of n e ∷ events_of n es
