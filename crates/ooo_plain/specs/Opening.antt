-- What is open to see of channels, by the bank and by a world.
use Rattle.std.specs.Prelude.{◌≡◌, ℕ, ◌-◌, Bool, true, false, if◌then◌else◌, List, [], length, take, Option, Some, None, slice_get}
use Rattle.ooo_time.specs.declared.stamp.Stamp.{Stamp}
use Rattle.ooo_time.specs.Stamps.{is_before}
use Rattle.ooo_value.specs.declared.bound.BoundChannel.{BoundChannel}
use Rattle.ooo_value.specs.declared.bound.ChannelKind.{ChannelKind}
use Rattle.ooo_value.specs.declared.bound.ChannelKind.TheVariants as kind
use Rattle.ooo_value.specs.declared.values.Value.{Value}
use Rattle.ooo_code.specs.declared.design.Design.{Design}
use Rattle.ooo_code.specs.Sound.{IsSound}
use Rattle.ooo_interp.specs.declared.port.Port.{Port}
use Rattle.ooo_interp.specs.Ports.{channel_of, shown}
use Rattle.ooo_meaning.specs.World.{World, channel_at}
use Rattle.ooo_channels.specs.declared.channel.ChannelState.{ChannelState}
use Rattle.ooo_channels.specs.declared.channel.ChannelState.TheVariants as state
use Rattle.ooo_channels.specs.Operations.{Operations}
use Rattle.ooo_channels.specs.Bank.{BankState, IsBankAfter}
use Rattle.ooo_channels.specs.Agreement.{Agrees}
use Rattle.ooo_plain.specs.Seeing.{open_seen, HasEnds}

-- a bank to which the operations were applied that make a world of a design
pub record IsSeenIn (design : Design) (bank : BankState) (at : Stamp) (ops : Operations) (w : World) : Type 0 where
  pub channels : ops.channels ≡ design.channels
  pub bank_is : IsBankAfter bank ops
  pub agrees : Agrees ops w
  pub stamp : w.stamp ≡ at
  pub ends : HasEnds design w

-- there is such a world
pub record MayOpen (design : Design) (bank : BankState) (at : Stamp) : Type 0 where
  pub world : World
  pub ops : Operations
  pub seen : IsSeenIn design bank at ops world

-- a channel is there and a fifo
abbrev pub is_fifo_kind : ChannelKind → Bool
is_fifo_kind kind.Signal = false
is_fifo_kind kind.Fifo = true

abbrev pub is_fifo : Option BoundChannel → Bool
is_fifo None = false
is_fifo (Some b) = is_fifo_kind b.kind

-- the values of a channel that may be read in the cycle of a stamp: all that are left, but for those written in this cycle
abbrev pub readable_of : Stamp → ChannelState → List Value
readable_of at (state.Signal s) = []
readable_of at (state.Fifo f) =
    if is_before f.stamp at then f.values.items else take (length f.values.items - f.written) f.values.items

abbrev pub readable_at : Stamp → Option ChannelState → List Value
readable_at at None = []
readable_at at (Some s) = readable_of at s

-- those of fifo c of a bank
abbrev pub readable_by : BankState → Stamp → ℕ → List Value
readable_by bank at c = readable_at at (slice_get bank.channels c)

-- the fifos of a bank, at a stamp
pub record OpenFifos : Type 0 where
  pub bank : BankState
  pub at : Stamp

-- what the bank of a sound design is asked in the cycle of a stamp
pub record MayRead (design : Design) (bank : BankState) (at : Stamp) : Type 0 where
  pub sound : IsSound design
  pub may : MayOpen design bank at

-- a port of channel c shows what is open to see of it, with the bank's values
pub record OpensTo (design : Design) (bank : BankState) (at : Stamp) (c : ℕ) (port : Port) : Type 0 where
  pub number : channel_of port ≡ c
  pub shows : (w : World) (ops : Operations) → IsSeenIn design bank at ops w → shown (readable_by bank at) port ≡ open_seen at.time c (channel_at w.channels c)
