-- What is told of a segment's touches: each by its number, and the events of a channel by the channel's number.
use Rattle.std.specs.Prelude.{◌≡◌, ℕ, List, [], ◌∷◌, ◌++◌, Option, None, Some, slice_get, Contains, if◌then◌else◌}
use Rattle.ooo_value.specs.declared.bound.BoundEvent.{BoundEvent}
use Rattle.ooo_value.specs.declared.bound.ProcessKind.{ProcessKind}
use Rattle.ooo_value.specs.declared.bound.ProcessKind.TheVariants.{Thread, Method}
use Rattle.ooo_code.specs.declared.design.Design.{Design}
use Rattle.ooo_code.specs.declared.design.Proc.{Proc}
use Rattle.ooo_code.specs.declared.segment.SegmentEntry.{SegmentEntry}
use Rattle.ooo_code.specs.declared.segment.SegmentEntry.TheVariants.{Start, After}
use Rattle.ooo_code.specs.Segments.{trigger_events, wait_events}
use Rattle.ooo_code.specs.declared.node.Node.{Node}
use Rattle.ooo_code.specs.Touches as touch
use Rattle.ooo_access.specs.declared.told.Told.{Told}
use Rattle.ooo_access.specs.declared.told.Told.TheVariants.{Reads, Writes, ReadsSignal, WritesSignal, HoldsReading, HoldsWriting, Notifies, Cancels, Changes, DataRead, DataWritten}
use Rattle.ooo_access.specs.declared.told.Part.{Part}
use Rattle.ooo_access.specs.declared.told.Part.TheVariants as part

-- the touches that are meant, in a design with these events
abbrev pub meant : List BoundEvent → Told → List touch.Touch
meant events (Reads x) = touch.Reads x ∷ []
meant events (Writes x) = touch.Writes x ∷ []
meant events (ReadsSignal c) = touch.ReadsSignal c ∷ []
meant events (WritesSignal c) = touch.WritesSignal c ∷ []
meant events (HoldsReading c) = touch.HoldsReading c ∷ []
meant events (HoldsWriting c) = touch.HoldsWriting c ∷ []
meant events (Notifies e t) = touch.Notifies e t ∷ []
meant events (Cancels e) = touch.Cancels e ∷ []
meant events (Changes c) = touch.notified_next (touch.numbers_where (touch.is_of_signal c) 0 events)
meant events (DataRead c) = touch.notified_next (touch.numbers_where (touch.is_data_read c) 0 events)
meant events (DataWritten c) = touch.notified_next (touch.numbers_where (touch.is_data_written c) 0 events)

-- the touches that are meant by all that is told
unfoldable pub all_meant : List BoundEvent → List Told → List touch.Touch
all_meant events [] = []
all_meant events (t ∷ ts) = meant events t ++ all_meant events ts

-- these touches were told, whatever the design's events
abbrev pub Tells : (told told' : List Told) → (List BoundEvent → List touch.Touch) → Type 0
Tells told told' touches = (events : List BoundEvent) → all_meant events told' ≡ all_meant events told ++ touches events

-- what the node of this number touches
abbrev pub touched_at : List BoundEvent → Option Node → List touch.Touch
touched_at events None = []
touched_at events (Some node) = touch.touched_by events node.kind

-- what the nodes of these numbers touch
unfoldable pub touched_of : Design → List ℕ → List touch.Touch
touched_of design [] = []
touched_of design (n ∷ ns) = touched_at design.events (slice_get design.nodes n) ++ touched_of design ns

-- the number that is told in this part, if it is of this part
abbrev pub number_of : Part → Told → Option ℕ
number_of part.Read (Reads x) = Some x
number_of part.Written (Writes x) = Some x
number_of part.SignalsRead (ReadsSignal c) = Some c
number_of part.SignalsWritten (WritesSignal c) = Some c
number_of part.Takes (HoldsReading c) = Some c
number_of part.Puts (HoldsWriting c) = Some c
number_of part.Cancelled (Cancels e) = Some e
number_of part.Changed (Changes c) = Some c
number_of part.Taken (DataRead c) = Some c
number_of part.Given (DataWritten c) = Some c
number_of _ _ = None

-- a number is told in this part
pub record IsTold (p : Part) (n : ℕ) (told : List Told) : Type 0 where
  pub one : Told
  pub among : Contains told one
  pub is : number_of p one ≡ Some n

-- the events that a node's next_trigger names
abbrev pub triggers_at : Option Node → List ℕ
triggers_at None = []
triggers_at (Some node) = trigger_events node.kind

-- the events that the next_triggers of these nodes name
unfoldable pub triggers_of : Design → List ℕ → List ℕ
triggers_of design [] = []
triggers_of design (n ∷ ns) = triggers_at (slice_get design.nodes n) ++ triggers_of design ns

-- the events of a wait
abbrev pub waits_at : Option Node → List ℕ
waits_at None = []
waits_at (Some node) = wait_events node.kind

-- the events on which the start of a process waits, whose segment has these nodes
abbrev pub start_waits : Design → Proc → List ℕ → ProcessKind → List ℕ
start_waits design process nodes Thread = if process.initialize then [] else process.sensitive
start_waits design process nodes Method = process.sensitive ++ triggers_of design nodes

-- the events on which an entry waits, whose segment has these nodes
abbrev pub entry_waits : Design → Proc → List ℕ → SegmentEntry → List ℕ
entry_waits design process nodes Start = start_waits design process nodes process.kind
entry_waits design process nodes (After wait) = waits_at (slice_get design.nodes wait)
