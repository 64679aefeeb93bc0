-- Channels moved by cycles along the stamps of what is applied to them (IEEE 1666-2011, 4.2.1, 6.4 and 6.23).
use Rattle.std.specs.Prelude.{◌≡◌, ⊤, ℕ, List, [], ◌++◌, fold, Bool, if◌then◌else◌, Option, Some, None, slice_get}
use Rattle.ooo_time.specs.declared.stamp.Stamp.{Stamp}
use Rattle.ooo_time.specs.declared.time.Time.{Time}
use Rattle.ooo_time.specs.Stamps.{is_before}
use Rattle.ooo_value.specs.declared.bound.BoundChannel.{BoundChannel}
use Rattle.ooo_value.specs.declared.values.Value.{Value}
use Rattle.ooo_code.specs.declared.activation.Effect.{Effect}
use Rattle.ooo_code.specs.declared.activation.Effect.TheVariants as effect
use Rattle.ooo_code.specs.Channels.{Channel, IsSignal, IsFifo, first_channel, requested, put_into, taken_from, updated, is_time, available, free_slots}
use Rattle.ooo_history.specs.declared.run.Entry.{Entry}
use Rattle.ooo_meaning.specs.World.{no_channel, zero_stamp, next_delta, same_stamp, entries_of}
use Rattle.ooo_channels.specs.Operations.{Operation, Operations, is_on, operations_before}

-- a channel within a cycle, before its update: the cycle's stamp, the channel, and its history up to the cycle
pub record Cycle : Type 0 where
  pub stamp : Stamp
  pub channel : Channel
  pub history : List Entry

-- the channel in the cycle of a later stamp: the cycle has its update, and where there are cycles between, these have
-- theirs, which find nothing to do
abbrev pub later_channel : Stamp → Cycle → Channel
later_channel s x =
    let next = updated x.stamp.time x.channel in if same_stamp s (next_delta x.stamp) then next else updated s.time next

-- in the cycle of a stamp, where that is later
abbrev pub cycle_at : Stamp → Cycle → Cycle
cycle_at s x =
    if is_before x.stamp s
    then record { stamp = s; channel = later_channel s x; history = x.history ++ entries_of x.stamp x.channel }
    else x

-- what an effect does to its channel
abbrev pub acted : Effect → Channel → Channel
acted (effect.Request c v) x = requested v x
acted (effect.Put c v) x = put_into v x
acted (effect.Take c) x = taken_from x
acted _ x = x

-- after an operation on it, in the cycle of the operation's stamp
abbrev pub cycle_after : Cycle → Operation → Cycle
cycle_after x o = let here = cycle_at o.at x in record here { channel = acted o.effect here.channel }

-- channel c after an operation, which may be on another one
abbrev pub cycle_step : ℕ → Cycle → Operation → Cycle
cycle_step c x o = if is_on c o.effect then cycle_after x o else x

-- a channel as it starts, in the cycle of time zero
abbrev pub first_cycle : Option BoundChannel → Cycle
first_cycle None = record { stamp = zero_stamp; channel = no_channel; history = [] }
first_cycle (Some b) = record { stamp = zero_stamp; channel = first_channel b None None; history = [] }

-- a channel on which there is no operation, in the cycle of a stamp
abbrev pub first_shown : Option BoundChannel → Stamp → Channel
first_shown b s = (cycle_at s (first_cycle b)).channel

-- channel c in the cycle of the last operation on it
unfoldable pub cycle_of : Operations → ℕ → Cycle
cycle_of ops c = fold (cycle_step c) (first_cycle (slice_get ops.channels c)) ops.applied

-- channel c within the cycle of a stamp
abbrev pub channel_in : Stamp → Operations → ℕ → Channel
channel_in s ops c = (cycle_at s (cycle_of ops c)).channel

-- channel c within the cycle of a stamp, by the operations before that stamp alone
abbrev pub channel_before : Operations → ℕ → Stamp → Channel
channel_before ops c s = channel_in s (operations_before s ops) c

-- the history of channel c up to the cycle of a stamp
abbrev pub history_in : Stamp → Operations → ℕ → List Entry
history_in s ops c = (cycle_at s (cycle_of ops c)).history

-- the whole history of channel c: that up to the cycle of its last operation, and what the update of that cycle adds
abbrev pub whole_history : Cycle → List Entry
whole_history x = x.history ++ entries_of x.stamp x.channel

-- the values of a fifo that may be read in this cycle
abbrev pub readable : Channel → List Value
readable (IsSignal s) = []
readable (IsFifo f) = available f

-- how many values a fifo takes in this cycle
abbrev pub writable : Channel → ℕ
writable (IsSignal s) = 0
writable (IsFifo f) = free_slots f

-- the values of a fifo that are not read yet, those written in this cycle among them
abbrev pub values_left : Channel → List Value
values_left (IsSignal s) = []
values_left (IsFifo f) = available f ++ f.written

-- what is seen of a signal at a time: its value, and whether that changed in the delta cycle just before
abbrev pub IsSeenAs : Channel → Time → Value × Bool → Type 0
IsSeenAs (IsSignal s) now seen = (seen.0 ≡ s.current) × (seen.1 ≡ is_time now s.changed)
IsSeenAs (IsFifo f) now seen = ⊤

-- what is seen of one channel at a time is seen of another
abbrev pub ShowsAs : Time → (x y : Channel) → Type 0
ShowsAs now x y = (seen : Value × Bool) → IsSeenAs x now seen → IsSeenAs y now seen
