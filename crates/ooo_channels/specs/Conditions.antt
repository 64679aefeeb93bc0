-- When effects may be applied.
use Rattle.std.specs.Prelude.{◌≡◌, true, ℕ, ◌≤◌, List, [], ◌∷◌, length, Some, None, slice_get, AllPairs, ⊤}
use Rattle.ooo_time.specs.declared.stamp.Stamp.{Stamp}
use Rattle.ooo_time.specs.Scales.{greatest_time, greatest_delta}
use Rattle.ooo_time.specs.Stamps.{IsBefore}
use Rattle.ooo_value.specs.declared.bound.BoundChannel.{BoundChannel}
use Rattle.ooo_value.specs.declared.bound.ChannelKind.{ChannelKind}
use Rattle.ooo_value.specs.declared.bound.ChannelKind.TheVariants as channel
use Rattle.ooo_value.specs.declared.bound.BoundEvent.{BoundEvent}
use Rattle.ooo_value.specs.declared.bound.BoundEvent.TheVariants as event
use Rattle.ooo_events.specs.Calls.{Follows, last_stamp}
use Rattle.ooo_code.specs.declared.activation.Effect.{Effect}
use Rattle.ooo_code.specs.declared.activation.Effect.TheVariants as effect
use Rattle.ooo_channels.specs.Operations.{Operations, after_effect, is_on}
use Rattle.ooo_channels.specs.Cycles.{cycle_of, channel_in, readable, writable}
use Rattle.ooo_channels.specs.Calls.{own_calls}

-- channel c is there, and of this kind
pub record HasChannel (ops : Operations) (c : ℕ) (k : ChannelKind) : Type 0 where
  pub channel : BoundChannel
  pub is : slice_get ops.channels c ≡ Some channel
  pub kind : channel.kind ≡ k

-- no operation on channel c is later than a stamp
abbrev pub ChannelIsBy : Operations → ℕ → Stamp → Type 0
ChannelIsBy ops c at = ¬ IsBefore at (cycle_of ops c).stamp

-- the operations on channel c were applied in the order of their stamps
abbrev pub AreOrdered : Operations → ℕ → Type 0
AreOrdered ops c = AllPairs (λ o p. is_on c o.effect ≡ true → is_on c p.effect ≡ true → ¬ IsBefore p.at o.at) ops.applied

-- an effect names a signal, a fifo or an event of the model's own, as it has to
abbrev pub Names : Operations → Effect → Type 0
Names ops (effect.Request c v) = HasChannel ops c channel.Signal
Names ops (effect.Put c v) = HasChannel ops c channel.Fifo
Names ops (effect.Take c) = HasChannel ops c channel.Fifo
Names ops (effect.Notify e k) = slice_get ops.events e ≡ Some event.Own
Names ops (effect.Cancel e) = slice_get ops.events e ≡ Some event.Own
Names ops effect.Stop = ⊤

-- no operation on what an effect names is later than a stamp
abbrev pub IsInOrder : Operations → Stamp → Effect → Type 0
IsInOrder ops at (effect.Request c v) = ChannelIsBy ops c at
IsInOrder ops at (effect.Put c v) = ChannelIsBy ops c at
IsInOrder ops at (effect.Take c) = ChannelIsBy ops c at
IsInOrder ops at (effect.Notify e k) = Follows (last_stamp None (own_calls ops e)) at
IsInOrder ops at (effect.Cancel e) = Follows (last_stamp None (own_calls ops e)) at
IsInOrder ops at effect.Stop = ⊤

-- what an effect needs is there: a put a free slot, a take an available value, a notification a time that can be counted
abbrev pub FindsPlace : Operations → Stamp → Effect → Type 0
FindsPlace ops at (effect.Put c v) = 1 ≤ writable (channel_in at ops c)
FindsPlace ops at (effect.Take c) = 1 ≤ length (readable (channel_in at ops c))
FindsPlace ops at (effect.Notify e k) = k.0 ≤ greatest_time
FindsPlace ops at _ = ⊤

-- an effect may be applied at a stamp
pub record MayApply (ops : Operations) (at : Stamp) (f : Effect) : Type 0 where
  pub names : Names ops f
  pub in_order : IsInOrder ops at f
  pub place : FindsPlace ops at f

-- effects may be applied one after the other
abbrev pub MayApplyAll : Operations → Stamp → List Effect → Type 0
MayApplyAll ops at [] = ⊤
MayApplyAll ops at (f ∷ fs) = MayApply ops at f × MayApplyAll (after_effect at ops f) at fs

-- a stamp whose notifications can be counted
pub record IsCountableStamp (at : Stamp) : Type 0 where
  pub time : at.time.0 ≤ greatest_time
  pub delta : at.delta ≤ greatest_delta

-- an event is there, and its channel, if it is of one
abbrev pub FitsChannels : Operations → BoundEvent → Type 0
FitsChannels ops event.Own = ⊤
FitsChannels ops (event.Changed c) = HasChannel ops c channel.Signal
FitsChannels ops (event.Rise c) = HasChannel ops c channel.Signal
FitsChannels ops (event.Fall c) = HasChannel ops c channel.Signal
FitsChannels ops (event.Written c) = HasChannel ops c channel.Fifo
FitsChannels ops (event.Taken c) = HasChannel ops c channel.Fifo

-- event e is there, and its channel, if it is of one
pub record HasEventAt (ops : Operations) (e : ℕ) : Type 0 where
  pub kind : BoundEvent
  pub is : slice_get ops.events e ≡ Some kind
  pub fits : FitsChannels ops kind
