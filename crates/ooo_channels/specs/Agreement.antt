-- What the bank's operations and a world of the sequential scheduler have in common within a cycle.
use Rattle.std.specs.Prelude.{◌≡◌, ◌⊎◌, ℕ, ◌<◌, ⊤, Bool, false, if◌then◌else◌, List, [], None, Some, length, slice_get, slice_index_or}
use Rattle.ooo_time.specs.declared.time.Time.{Time}
use Rattle.ooo_time.specs.declared.stamp.Stamp.{Stamp}
use Rattle.ooo_value.specs.declared.bound.BoundEvent.{BoundEvent}
use Rattle.ooo_value.specs.declared.bound.BoundEvent.TheVariants as event
use Rattle.ooo_value.specs.declared.values.Value.{Value}
use Rattle.ooo_events.specs.Slots.{Slot, Nothing, NextDelta, AtTime, slot_left_at}
use Rattle.ooo_events.specs.Calls.{AreInOrder, Follows, last_stamp}
use Rattle.ooo_events.specs.Firings.{slot_after}
use Rattle.ooo_code.specs.Channels.{Channel, IsSignal, IsFifo, is_time}
use Rattle.ooo_history.specs.declared.run.Entry.{Entry}
use Rattle.ooo_meaning.specs.World.{World, Progress, Over, Goes, channel_at, slot_at, wait_at, next_delta}
use Rattle.ooo_channels.specs.Operations.{Operations}
use Rattle.ooo_channels.specs.Cycles.{channel_in, history_in, readable, writable, values_left, IsSeenAs}
use Rattle.ooo_channels.specs.Calls.{own_calls, channel_calls, channel_of, notifies}
use Rattle.ooo_channels.specs.Conditions.{ChannelIsBy, FitsChannels}

-- ---- channels

-- a channel but for the time of its last change and for who holds its ends
abbrev pub core : Channel → Channel
core (IsSignal s) = IsSignal (record { current = s.current; requested = s.requested; changed = None })
core (IsFifo f) = IsFifo (record { size = f.size; held = f.held; read = f.read; written = f.written; reader = None; writer = None })

-- the channel is a signal whose value changed in the delta cycle just before, where the time is this
abbrev pub is_changed : Time → Channel → Bool
is_changed now (IsSignal s) = is_time now s.changed
is_changed now (IsFifo f) = false

-- two channels at a time of which the same is seen, and which the same effects and updates leave so
pub record AreAlike (now : Time) (x y : Channel) : Type 0 where
  pub core : core x ≡ core y
  pub changed : is_changed now x ≡ is_changed now y

-- the history of channel c
abbrev pub history_at : List (List Entry) → ℕ → List Entry
history_at histories c = slice_index_or histories c []

-- within the cycle of a stamp, channel c of the operations is this channel with this history
pub record ChannelAgrees (ops : Operations) (now : Stamp) (c : ℕ) (x : Channel) (h : List Entry) : Type 0 where
  pub by : ChannelIsBy ops c now
  pub channel : AreAlike now.time (channel_in now ops c) x
  pub history : h ≡ history_in now ops c

-- ---- events

-- within the cycle of a stamp, the calls on event e of the model's own leave this slot
pub record OwnAgrees (ops : Operations) (now : Stamp) (e : ℕ) (x : Slot) : Type 0 where
  pub in_order : AreInOrder None (own_calls ops e)
  pub by : Follows (last_stamp None (own_calls ops e)) now
  pub slot : x ≡ slot_left_at (slot_after (own_calls ops e)) now

-- within the cycle of a stamp, before the update that notifies it: nothing is pending of a channel's event, and the calls
-- on it leave what the update will notify
pub record NoticeAgrees (ops : Operations) (now : Stamp) (k : BoundEvent) (x : Slot) : Type 0 where
  pub in_order : AreInOrder None (channel_calls ops k)
  pub by : Follows (last_stamp None (channel_calls ops k)) now
  pub quiet : x ≡ Nothing
  pub pending : slot_left_at (slot_after (channel_calls ops k)) now ≡ (if notifies k (channel_in now ops (channel_of k)) then NextDelta now else Nothing)

-- within the cycle of a stamp, the slot of event e, which is of a kind
abbrev pub EventAgrees : Operations → Stamp → ℕ → BoundEvent → Slot → Type 0
EventAgrees ops now e event.Own x = OwnAgrees ops now e x
EventAgrees ops now e k x = NoticeAgrees ops now k x

-- what is pending within the cycle of a stamp is for the next delta cycle, or for a later time
abbrev pub IsAhead : Stamp → Slot → Type 0
IsAhead now Nothing = ⊤
IsAhead now (NextDelta made) = made ≡ now
IsAhead now (AtTime t) = now.time.0 < t.0

-- ---- the world

-- within the cycle of the world's stamp, before its update, the operations so far make this world
pub record Agrees (ops : Operations) (w : World) : Type 0 where
  pub channel_count : length w.channels ≡ length ops.channels
  pub history_count : length w.histories ≡ length ops.channels
  pub events : w.events ≡ ops.events
  pub slot_count : length w.slots ≡ length ops.events
  pub channels : (c : ℕ) → c < length ops.channels → ChannelAgrees ops w.stamp c (channel_at w.channels c) (history_at w.histories c)
  pub slots : (e : ℕ) (k : BoundEvent) → slice_get ops.events e ≡ Some k → FitsChannels ops k → EventAgrees ops w.stamp e k (slot_at w.slots e)

-- within a cycle, no notification and no time-out is late
pub record IsTimely (w : World) : Type 0 where
  pub slots : (e : ℕ) → IsAhead w.stamp (slot_at w.slots e)
  pub timeouts : (p : ℕ) → IsAhead w.stamp (wait_at w.waits p).timeout

-- what is seen of channel c of the operations at the world's stamp is what the world shows
pub record IsShown (ops : Operations) (w : World) (c : ℕ) : Type 0 where
  pub signal : (seen : Value × Bool) → IsSeenAs (channel_in w.stamp ops c) w.stamp.time seen → IsSeenAs (channel_at w.channels c) w.stamp.time seen
  pub available : readable (channel_in w.stamp ops c) ≡ readable (channel_at w.channels c)
  pub free : writable (channel_in w.stamp ops c) ≡ writable (channel_at w.channels c)
  pub left : values_left (channel_in w.stamp ops c) ≡ values_left (channel_at w.channels c)
  pub history : history_in w.stamp ops c ≡ history_at w.histories c

-- a stamp to which the scheduler goes on: the next delta cycle, or a later time
abbrev pub IsNextStamp : (now next : Stamp) → Type 0
IsNextStamp now next = (next ≡ next_delta now) ⊎ (now.time.0 < next.time.0)

-- ---- the end of a cycle

-- the histories of a world are those of the operations up to the cycle of a stamp
pub record HasHistories (ops : Operations) (at : Stamp) (w : World) : Type 0 where
  pub count : length w.histories ≡ length ops.channels
  pub each : (c : ℕ) → c < length ops.channels → history_at w.histories c ≡ history_in at ops c

-- the stamp up to whose cycle a run that ends in a world's cycle shows its histories: where an activation ended it, the
-- cycle has no update
abbrev pub shown_up_to : World → Stamp
shown_up_to w = elim w.broken [ None ↦ next_delta w.stamp | Some e ↦ w.stamp ]

-- where the run goes on the operations agree with the next world, and where it is over they have its histories, up to the
-- cycle of a stamp
abbrev pub GoesOn : Operations → Stamp → Progress → Type 0
GoesOn ops at (Goes next) = Agrees ops next × IsTimely next
GoesOn ops at (Over last e) = HasHistories ops at last
