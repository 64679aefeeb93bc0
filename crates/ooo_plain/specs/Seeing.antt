-- What is seen of channels where nobody asks who holds the ends of a fifo.
use Rattle.std.specs.Prelude.{◌≡◌, ℕ, List, map, Option, Some, None}
use Rattle.ooo_time.specs.declared.time.Time.{Time}
use Rattle.ooo_code.specs.declared.activation.Seen.{Seen}
use Rattle.ooo_code.specs.declared.activation.Seen.TheVariants as seen
use Rattle.ooo_code.specs.declared.design.Design.{Design}
use Rattle.ooo_code.specs.Channels.{Channel, IsSignal, IsFifo, is_time, available, free_slots}
use Rattle.ooo_meaning.specs.World.{World, channel_at}
use Rattle.ooo_meaning.specs.Runs.{first_channels}

-- what is seen of channel number c at a time, both ends of a fifo
abbrev pub open_seen : Time → ℕ → Channel → Seen
open_seen now c (IsSignal s) = seen.Signal c s.current (is_time now s.changed)
open_seen now c (IsFifo f) = seen.Fifo c (available f) (free_slots f)

-- what is seen so of some channels of a world, by their numbers
abbrev pub all_open : World → List ℕ → List Seen
all_open w cs = map (λ c. open_seen w.stamp.time c (channel_at w.channels c)) cs

-- the size of a fifo, and the processes that hold its ends
pub record Ends : Type 0 where
  pub size : ℕ
  pub reader : Option ℕ
  pub writer : Option ℕ

-- the size and the ends of a channel, which a fifo has
abbrev pub ends_of : Channel → Option Ends
ends_of (IsSignal s) = None
ends_of (IsFifo f) = Some (record { size = f.size; reader = f.reader; writer = f.writer })

-- the channels of a world are of the kinds and sizes of the design's, and their ends are held as they are in the design
abbrev pub HasEnds : Design → World → Type 0
HasEnds design w = map ends_of w.channels ≡ map ends_of (first_channels design 0 design.channels)
