-- What a job sees of channels, by a bank.
use Rattle.std.specs.Prelude.{◌≡◌, ℕ, ◌<◌, List, [], length, map, Option, None, Some, All, AllPairs, if◌then◌else◌, slice_get}
use Rattle.ooo_time.specs.declared.stamp.Stamp.{Stamp}
use Rattle.ooo_time.specs.Stamps.{IsBefore}
use Rattle.ooo_value.specs.declared.bound.BoundChannel.{BoundChannel}
use Rattle.ooo_value.specs.declared.bound.ChannelKind.TheVariants as kind
use Rattle.ooo_code.specs.declared.activation.Seen.{Seen}
use Rattle.ooo_code.specs.declared.activation.Seen.TheVariants as seen
use Rattle.ooo_code.specs.declared.design.Design.{Design}
use Rattle.ooo_code.specs.Channels.{Channel, IsSignal, IsFifo, is_time, available, free_slots}
use Rattle.ooo_channels.specs.Bank.{BankState, IsBankAfter}
use Rattle.ooo_channels.specs.Operations.{Operations}
use Rattle.ooo_dispatch.specs.Banks.{channel_shown}
use Rattle.ooo_board.specs.declared.links.Watched.{Watched}

-- what is seen at a stamp of one channel
abbrev pub sight_at : Stamp → Watched → Channel → Seen
sight_at s w (IsSignal x) = seen.Signal w.channel x.current (is_time s.time x.changed)
sight_at s w (IsFifo f) = seen.Fifo w.channel (if w.takes then available f else []) (if w.puts then free_slots f else 0)

-- a channel as it is shown, of the kind that the design says
abbrev pub shown_as : Stamp → Operations → (c : ℕ) → Option BoundChannel → Channel
shown_as s ops c None = channel_shown s ops c kind.Signal
shown_as s ops c (Some x) = channel_shown s ops c x.kind

-- what is seen at a stamp of these channels of a design
abbrev pub sights_of : Stamp → Operations → List BoundChannel → List Watched → List Seen
sights_of s ops channels watched = map (λ w. sight_at s w (shown_as s ops w.channel (slice_get channels w.channel))) watched

-- operations on a design's channels and events, that a bank had, which forgot nothing from a stamp on
pub record IsAskedAt (design : Design) (b : BankState) (at : Stamp) (ops : Operations) : Type 0 where
  pub bank : IsBankAfter b ops
  pub channels : ops.channels ≡ design.channels
  pub kept : ¬ IsBefore at ops.below

-- a bank of a design may be asked what is seen at a stamp of these channels
pub record MayAsk (design : Design) (bank : BankState) (at : Stamp) (watched : List Watched) : Type 0 where
  pub ops : Operations
  pub asked : IsAskedAt design bank at ops
  pub there : All (λ w. w.channel < length design.channels) watched

-- each channel has a lower number than the later ones
abbrev pub Ascend : List Watched → Type 0
Ascend watched = AllPairs (λ a b. a.channel < b.channel) watched
