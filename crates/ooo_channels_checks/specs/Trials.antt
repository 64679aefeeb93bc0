-- A bank with one channel, as the tests of the bank use it.
use Rattle.std.specs.Prelude.{◌≡◌, List, [], ◌∷◌, ⊤, None}
use Rattle.ooo_time.specs.declared.stamp.Stamp.{Stamp}
use Rattle.ooo_time.specs.Stamps.{IsBefore}
use Rattle.ooo_value.specs.declared.bound.BoundChannel.{BoundChannel}
use Rattle.ooo_value.specs.declared.bound.BoundEvent.{BoundEvent}
use Rattle.ooo_value.specs.declared.bound.BoundEvent.TheVariants as event
use Rattle.ooo_value.specs.declared.bound.ChannelKind.{ChannelKind}
use Rattle.ooo_value.specs.declared.bound.ChannelKind.TheVariants as channel
use Rattle.ooo_events.specs.Calls.{Follows, last_stamp}
use Rattle.ooo_code.specs.declared.activation.Effect.{Effect}
use Rattle.ooo_code.specs.declared.activation.Effect.TheVariants as effect
use Rattle.ooo_channels.specs.Operations.{Operations}
use Rattle.ooo_channels.specs.Calls.{own_calls}
use Rattle.ooo_channels.specs.Conditions.{ChannelIsBy, FindsPlace, IsCountableStamp}
use Rattle.ooo_channels.specs.Bank.{BankState, IsBankAfter}

-- the events of a trial: those of the channel, and event 3 of the model's own
abbrev pub trial_events : ChannelKind → List BoundEvent
trial_events channel.Signal = event.Changed 0 ∷ event.Rise 0 ∷ event.Fall 0 ∷ event.Own ∷ []
trial_events channel.Fifo = event.Written 0 ∷ event.Taken 0 ∷ event.Own ∷ event.Own ∷ []

-- a bank of a channel of a kind and its four events, to which nothing was applied after a stamp
pub record IsTrial (kind : ChannelKind) (bank : BankState) (last : Stamp) : Type 0 where
  pub ops : Operations
  pub after : IsBankAfter bank ops
  pub channel : BoundChannel
  pub channels : ops.channels ≡ channel ∷ []
  pub is : channel.kind ≡ kind
  pub events : ops.events ≡ trial_events kind
  pub by : ChannelIsBy ops 0 last
  pub own_by : Follows (last_stamp None (own_calls ops 3)) last

-- the effect is on the channel, which is of a kind, or a call on the event of the model's own
abbrev pub FitsTrial : ChannelKind → Effect → Type 0
FitsTrial channel.Signal (effect.Request c v) = c ≡ 0
FitsTrial channel.Fifo (effect.Put c v) = c ≡ 0
FitsTrial channel.Fifo (effect.Take c) = c ≡ 0
FitsTrial k (effect.Notify e delay) = e ≡ 3
FitsTrial k (effect.Cancel e) = e ≡ 3
FitsTrial k effect.Stop = ⊤
FitsTrial k f = ⊥

-- an effect may be applied at a stamp
pub record MayTry (kind : ChannelKind) (bank : BankState) (last at : Stamp) (f : Effect) : Type 0 where
  pub trial : IsTrial kind bank last
  pub fits : FitsTrial kind f
  pub later : ¬ IsBefore at last
  pub countable : IsCountableStamp at
  pub place : FindsPlace trial.ops at f
