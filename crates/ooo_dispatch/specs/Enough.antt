-- What is read of the activations that may be seen is what all of them make.
use Rattle.std.specs.Prelude.{◌≡◌, ℕ, ◌<◌, ◌⊎◌, ⊤, false, List, [], ◌∷◌, length}
use Rattle.ooo_time.specs.declared.time.Time.{Time}
use Rattle.ooo_time.specs.declared.stamp.Stamp.{Stamp}
use Rattle.ooo_code.specs.Channels.{Channel, IsSignal, IsFifo, is_time}
use Rattle.ooo_code.specs.Expressions.{SignalSeen, no_value, signal_seen, fifo_seen, cells_of}
use Rattle.ooo_code.specs.Outcomes.{View}
use Rattle.ooo_code.specs.Segments.{Accesses}
use Rattle.ooo_code.specs.declared.design.Proc.{Proc}
use Rattle.ooo_code.specs.declared.segment.SegmentEntry.{SegmentEntry}
use Rattle.ooo_code.specs.Touches as touch
use Rattle.ooo_channels.specs.Cycles.{channel_in, readable, writable}
use Rattle.ooo_schedules.specs.Delays.{NotAfter}
use Rattle.ooo_schedules.specs.Model.{Act, In}
use Rattle.ooo_time.specs.Stamps.{IsBefore}
use Rattle.ooo_dispatch.specs.declared.reads.Reads.{Reads}
use Rattle.ooo_dispatch.specs.Rules.{Rules, cells_after, operations_of, process_of}

-- what is seen of a channel as a signal, at a time
abbrev pub signal_shown : Time → Channel → SignalSeen
signal_shown now (IsSignal x) = record { value = x.current; changed = is_time now x.changed }
signal_shown now (IsFifo f) = record { value = no_value; changed = false }

-- activations of their segments' processes, each at its stamp or before the one that stands before it in the list
abbrev pub Descend : Rules → List (Act Stamp Reads) → Type 0
Descend r [] = ⊤
Descend r (y ∷ ys) = (y.process ≡ process_of r y.segment) × ((z : Act Stamp Reads) → In z ys → NotAfter z.stamp y.stamp) × Descend r ys

-- all of them stand before the place of a process at a stamp
abbrev pub ComeBefore : (p : ℕ) → Stamp → List (Act Stamp Reads) → Type 0
ComeBefore p s ys = (y : Act Stamp Reads) → In y ys → IsBefore y.stamp s ⊎ (y.stamp ≡ s) × (y.process < p)

-- of all that a segment touches, a view shows what the activations make
pub record Shows (r : Rules) (process : Proc) (entry : SegmentEntry) (ys : List (Act Stamp Reads)) (v : View) : Type 0 where
  pub count : length v.variables ≡ length r.design.variables
  pub variables : (x : ℕ) → Accesses r.design process entry (touch.Reads x) ⊎ Accesses r.design process entry (touch.Writes x) → cells_of v.variables x ≡ cells_after r x ys
  pub signals : (c : ℕ) → Accesses r.design process entry (touch.ReadsSignal c) → signal_seen v.seen c ≡ signal_shown v.stamp.time (channel_in v.stamp (operations_of r ys) c)
  pub takes : (c : ℕ) → Accesses r.design process entry (touch.HoldsReading c) → (fifo_seen v.seen c).values ≡ readable (channel_in v.stamp (operations_of r ys) c)
  pub puts : (c : ℕ) → Accesses r.design process entry (touch.HoldsWriting c) → (fifo_seen v.seen c).free ≡ writable (channel_in v.stamp (operations_of r ys) c)
