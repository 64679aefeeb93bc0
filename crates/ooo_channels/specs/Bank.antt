-- A bank, by the operations that were applied to it.
use Rattle.std.specs.Prelude.{◌≡◌, true, ℕ, ◌<◌, ◌≤◌, List, [], ◌∷◌, length, Some, All, slice_get, slice_index_or}
use Rattle.ooo_time.specs.declared.stamp.Stamp.{Stamp}
use Rattle.ooo_value.specs.declared.bound.BoundChannel.{BoundChannel}
use Rattle.ooo_value.specs.declared.bound.BoundEvent.{BoundEvent}
use Rattle.ooo_value.specs.declared.bound.ChannelKind.{ChannelKind}
use Rattle.ooo_value.specs.declared.bound.BoundEvent.TheVariants as event
use Rattle.ooo_events.specs.Events.{EventState}
use Rattle.ooo_code.specs.declared.activation.Effect.{Effect}
use Rattle.ooo_channels.specs.declared.channel.ChannelState.{ChannelState}
use Rattle.ooo_channels.specs.Operations.{Operations, after_effect, is_on, is_call_on}
use Rattle.ooo_channels.specs.Conditions.{HasChannel, MayApply}
use Rattle.ooo_history.specs.declared.run.Entry.{Entry}
use Rattle.ooo_channels.specs.Cycles.{cycle_of, first_cycle, channel_before, first_shown, history_in}
use Rattle.ooo_channels.specs.Calls.{own_calls, channel_calls, channel_of}
use Rattle.ooo_channels.specs.Kept.{IsEventKept, IsChannelAfter, ChannelShows, HasKind, Keeps}
use Rattle.ooo_channels.specs.Room.{HasRoom, count}

-- what a bank keeps
pub record BankState : Type 0 where
  pub channels : List ChannelState
  pub kinds : List BoundEvent
  pub events : List EventState
  pub below : Stamp

-- the channel of an event keeps the event, if that channel is there and has such an event
abbrev pub IsKeptIn : List ChannelState → BoundEvent → Type 0
IsKeptIn channels k = (d : ChannelState) → channel_of k < length channels → Keeps k (slice_index_or channels (channel_of k) d)

-- a bank to which these operations were applied
pub record IsBankAfter (bank : BankState) (ops : Operations) : Type 0 where
  pub channel_count : length bank.channels ≡ length ops.channels
  pub event_count : length bank.events ≡ length ops.events
  pub kinds : bank.kinds ≡ ops.events
  pub below : bank.below ≡ ops.below
  pub channel_kinds : (c : ℕ) (d : ChannelState) (b : BoundChannel) → slice_get ops.channels c ≡ Some b → HasKind b.kind (slice_index_or bank.channels c d)
  pub channels : (c : ℕ) (d : ChannelState) → c < length bank.channels → IsChannelAfter c ops.below (cycle_of ops c) (channel_calls ops) (slice_index_or bank.channels c d)
  pub shows : (c : ℕ) (d : ChannelState) → c < length bank.channels → ChannelShows ops.below (channel_before ops c) (slice_index_or bank.channels c d)
  pub events : (e : ℕ) (d : EventState) → slice_get ops.events e ≡ Some event.Own → IsEventKept ops.below (slice_index_or bank.events e d) (own_calls ops e)
  pub present : All (IsKeptIn bank.channels) ops.events

-- a bank has channel c, of this kind: some operations were applied to it, and their channel c is there, of this kind
abbrev pub HasChannelIn : BankState → ℕ → ChannelKind → Type 0
HasChannelIn bank c k = (ops : Operations) × IsBankAfter bank ops × HasChannel ops c k

-- so it is by whatever operations were applied to a bank which has channel c, of this kind
abbrev pub ForChannel : BankState → ℕ → ChannelKind → (Operations → Type 0) → Type 0
ForChannel bank c k P = (ops : Operations) → IsBankAfter bank ops → HasChannel ops c k → P ops

-- a bank has room for these effects: each channel and each event for those on it
pub record Covers (bank : BankState) (effects : List Effect) : Type 0 where
  pub channels : (c : ℕ) (d : ChannelState) → c < length bank.channels → HasRoom (count (is_on c) effects) (slice_index_or bank.channels c d)
  pub events : (e : ℕ) (d : EventState) → e < length bank.events → count (is_call_on e) effects ≤ (slice_index_or bank.events e d).spare

-- what is kept of channel c of a design as it starts
pub record IsFirst (channels : List BoundChannel) (c : ℕ) (s : ChannelState) : Type 0 where
  pub kind : (b : BoundChannel) → slice_get channels c ≡ Some b → HasKind b.kind s
  pub first : (below : Stamp) → IsChannelAfter c below (first_cycle (slice_get channels c)) (λ k. []) s
  pub shows : (below : Stamp) → ChannelShows below (first_shown (slice_get channels c)) s

-- the first channels of a design, so many, as they start
pub record AreFirst (channels : List BoundChannel) (count : ℕ) (made : List ChannelState) : Type 0 where
  pub count_is : length made ≡ count
  pub first : (c : ℕ) (d : ChannelState) → c < length made → IsFirst channels c (slice_index_or made c d)

-- so many events on which no call was made
pub record AreNew (count : ℕ) (made : List EventState) : Type 0 where
  pub count_is : length made ≡ count
  pub new : (e : ℕ) (d : EventState) (below : Stamp) → e < count → IsEventKept below (slice_index_or made e d) []

-- the histories of the first n channels of a bank, up to the cycle of a stamp
pub record AreHistories (bank : BankState) (at : Stamp) (n : ℕ) (histories : List (List Entry)) : Type 0 where
  pub count : length histories ≡ n
  pub each : (ops : Operations) → IsBankAfter bank ops → (c : ℕ) (d : List Entry) → c < n → slice_index_or histories c d ≡ history_in at ops c

-- one effect was applied to a bank: whatever was applied before, it is applied now too, and the room for more is left
pub record Applies (old new : BankState) (at : Stamp) (f : Effect) : Type 0 where
  pub after : (ops : Operations) → IsBankAfter old ops → MayApply ops at f → IsBankAfter new (after_effect at ops f)
  pub room : (more : List Effect) → Covers old (f ∷ more) → Covers new more

-- a bank with more room, to which the same was applied
pub record HasMoreRoom (old new : BankState) : Type 0 where
  pub after : (ops : Operations) → IsBankAfter old ops → IsBankAfter new ops
  pub channel_count : length new.channels ≡ length old.channels
  pub event_count : length new.events ≡ length old.events
  pub channels : (c : ℕ) (d : ChannelState) (n : ℕ) → HasRoom n (slice_index_or old.channels c d) → HasRoom n (slice_index_or new.channels c d)
  pub events : (e : ℕ) (d : EventState) → (slice_index_or old.events e d).spare ≤ (slice_index_or new.events e d).spare

-- channel c of a bank has room for n effects
abbrev pub ChannelHasRoom : BankState → ℕ → ℕ → Type 0
ChannelHasRoom bank n c = (d : ChannelState) → c < length bank.channels → HasRoom n (slice_index_or bank.channels c d)

-- event e of a bank has room for n calls
abbrev pub EventHasRoom : BankState → ℕ → ℕ → Type 0
EventHasRoom bank n e = (d : EventState) → e < length bank.events → n ≤ (slice_index_or bank.events e d).spare

-- what an effect is on has room for n effects
pub record HasRoomFor (bank : BankState) (f : Effect) (n : ℕ) : Type 0 where
  pub channels : (c : ℕ) → is_on c f ≡ true → ChannelHasRoom bank n c
  pub events : (e : ℕ) → is_call_on e f ≡ true → EventHasRoom bank n e
