-- The channel that a port is bound to in the end.
use Rattle.std.specs.Prelude.{◌≡◌, ℕ, Some, slice_get, ⊤}
use Rattle.ooo_value.specs.declared.bound.ChannelKind.TheVariants as channel
use Rattle.ooo_checked.specs.declared.denotation.Thing.{Thing}
use Rattle.ooo_checked.specs.declared.denotation.Thing.TheVariants as thing
use Rattle.ooo_walk.specs.declared.state.Walk.{Walk}
use Rattle.ooo_walk.specs.declared.state.WalkedChannel.{WalkedChannel}
use Rattle.ooo_walk.specs.declared.state.WalkedPort.{WalkedPort}
use Rattle.ooo_elaborate.specs.Bindings.{channels_of, links_of}

-- a channel is of the kind and the type that a port of a sort needs
abbrev pub HasKind : Thing → WalkedChannel → Type 0
HasKind (thing.SignalPort d k) c = (c.bound.kind ≡ channel.Signal) × (c.bound.value ≡ k)
HasKind (thing.FifoIn k) c = (c.bound.kind ≡ channel.Fifo) × (c.bound.value ≡ k)
HasKind (thing.FifoOut k) c = (c.bound.kind ≡ channel.Fifo) × (c.bound.value ≡ k)
HasKind _ c = ⊤

-- a channel of this number is there, of the kind and the type that the port needs
pub record IsBoundTo (w : Walk) (t : Thing) (c : ℕ) : Type 0 where
  pub channel : WalkedChannel
  pub there : slice_get w.channels c ≡ Some channel
  pub fits : HasKind t channel

-- of each port that is bound to a channel in the end
abbrev pub PortsFit : Type 0
PortsFit = (w : Walk) (p c : ℕ) (port : WalkedPort) → slice_get w.ports p ≡ Some port →
    slice_get (channels_of (links_of w).ends (links_of w).ends) p ≡ Some (Some c) → IsBoundTo w port.form c
