-- Bindings of ports (IEEE 1666-2011, 4.1.3): what a port may be bound to, and the channel that it is bound to in the end.
use Rattle.std.specs.Prelude.{ℕ, zero, suc, ◌+◌, List, [], ◌∷◌, ◌++◌, length, replicate, Bool, true, false, not, ◌&&◌, Option, Some, None, is_some, slice_get, slice_set, if◌then◌else◌}
use Rattle.ooo_lexer.specs.declared.position.Position.{Position}
use Rattle.ooo_value.specs.declared.bound.ChannelKind.{ChannelKind}
use Rattle.ooo_value.specs.declared.bound.ChannelKind.TheVariants as channel
use Rattle.ooo_value.specs.declared.kinds.Kind.{Kind}
use Rattle.ooo_value.specs.declared.kinds.Kind.TheVariants as kind
use Rattle.ooo_checked.specs.declared.denotation.Direction.{Direction}
use Rattle.ooo_checked.specs.declared.denotation.Direction.TheVariants as direction
use Rattle.ooo_checked.specs.declared.denotation.Thing.{Thing}
use Rattle.ooo_checked.specs.declared.denotation.Thing.TheVariants as thing
use Rattle.ooo_constants.specs.declared.meaning.Meaning.{Meaning}
use Rattle.ooo_constants.specs.declared.meaning.Meaning.TheVariants as meaning
use Rattle.ooo_walk.specs.declared.refusal.ElabBreach.{ElabBreach}
use Rattle.ooo_walk.specs.declared.refusal.ElabBreach.TheVariants as what
use Rattle.ooo_walk.specs.declared.refusal.Refusal.{Refusal}
use Rattle.ooo_walk.specs.declared.state.Walk.{Walk}
use Rattle.ooo_walk.specs.declared.state.WalkedBinding.{WalkedBinding}
use Rattle.ooo_walk.specs.declared.state.WalkedChannel.{WalkedChannel}
use Rattle.ooo_walk.specs.declared.state.WalkedPort.{WalkedPort}
use Rattle.ooo_elaborate.specs.declared.bindings.Links.{Links}

-- ---- what fits

-- two kinds are the same
abbrev pub same_kind : Kind → Kind → Bool
same_kind kind.Bool kind.Bool = true
same_kind kind.Int kind.Int = true
same_kind kind.Uint kind.Uint = true
same_kind kind.Long kind.Long = true
same_kind kind.Ulong kind.Ulong = true
same_kind _ _ = false

abbrev pub is_signal : ChannelKind → Bool
is_signal channel.Signal = true
is_signal channel.Fifo = false

-- a port that only reads
abbrev pub is_in : Direction → Bool
is_in direction.In = true
is_in _ = false

-- a channel to which a port of a sort may be bound: an `sc_in` to a signal or a clock of its type, another signal port to
-- a signal of its type, a fifo port to a fifo of its type (6.8 to 6.10, 6.24 and 6.25)
abbrev pub fits_channel : Thing → WalkedChannel → Bool
fits_channel (thing.SignalPort d k) c =
    is_signal c.bound.kind && same_kind c.bound.value k && (if c.is_clock then is_in d else true)
fits_channel (thing.FifoIn k) c = not (is_signal c.bound.kind) && same_kind c.bound.value k
fits_channel (thing.FifoOut k) c = not (is_signal c.bound.kind) && same_kind c.bound.value k
fits_channel _ c = false

-- a port of the parent to which a port of a sort may be bound: an `sc_in` to any signal port of its type, another signal
-- port to one of its type that writes, a fifo port to one of its own sort and type
abbrev pub fits_port : Thing → Thing → Bool
fits_port (thing.SignalPort d k) (thing.SignalPort e j) = same_kind j k && (if is_in d then true else not (is_in e))
fits_port (thing.FifoIn k) (thing.FifoIn j) = same_kind j k
fits_port (thing.FifoOut k) (thing.FifoOut j) = same_kind j k
fits_port _ _ = false

abbrev pub fits_found_channel : Thing → Option WalkedChannel → Bool
fits_found_channel t None = false
fits_found_channel t (Some c) = fits_channel t c

abbrev pub fits_found_port : Thing → Option WalkedPort → Bool
fits_found_port t None = false
fits_found_port t (Some p) = fits_port t p.form

-- what a port of a sort may be bound to
abbrev pub fits : Walk → Thing → Meaning → Bool
fits w t (meaning.Channel c) = fits_found_channel t (slice_get w.channels c)
fits w t (meaning.Port p) = fits_found_port t (slice_get w.ports p)
fits w t _ = false

-- ---- the bindings one after the other

-- nothing is bound, of so many ports
abbrev pub unbound : ℕ → Links
unbound ports = record { ends = replicate ports meaning.Nothing; refusal = None }

-- nothing is meant
abbrev pub is_nothing : Meaning → Bool
is_nothing meaning.Nothing = true
is_nothing _ = false

-- a refusal
abbrev pub refusal_of : ElabBreach → Position → (name : List ℕ) → Option Refusal
refusal_of what at name = Some (record { what = what; at = at; names = name ∷ [] })

-- a binding of a port that is bound to this so far
abbrev pub linked_port : Walk → WalkedBinding → WalkedPort → (so_far : Meaning) → Links → Links
linked_port w b p so_far l =
    if not (fits w p.form b.to) then record l { refusal = refusal_of what.PortKind b.at p.name }
    else (if is_nothing so_far then record l { ends = slice_set l.ends b.port b.to }
    else record l { refusal = refusal_of what.PortBoundTwice b.at p.name })

abbrev pub linked_found : Walk → WalkedBinding → Option WalkedPort → Option Meaning → Links → Links
linked_found w b (Some p) (Some so_far) l = linked_port w b p so_far l
linked_found w b _ _ l = l

-- a binding; once something is refused, no more are looked at
abbrev pub linked : Walk → WalkedBinding → Links → Links
linked w b l =
    if is_some l.refusal then l else linked_found w b (slice_get w.ports b.port) (slice_get l.ends b.port) l

-- bindings one after the other
abbrev pub links_by : Walk → List WalkedBinding → Links → Links
links_by w [] l = l
links_by w (b ∷ bs) l = links_by w bs (linked w b l)

-- all bindings, in the order of the walk
abbrev pub links_of : Walk → Links
links_of w = links_by w w.bindings (unbound (length w.ports))

-- ---- ports that are not bound

-- nothing is bound to a port
abbrev pub is_unbound : Option Meaning → Bool
is_unbound None = true
is_unbound (Some m) = is_nothing m

-- the first of ports to which nothing is bound, where the first of them has this place
abbrev pub unbound_from : (place : ℕ) → List WalkedPort → List Meaning → Option Refusal
unbound_from place [] ends = None
unbound_from place (p ∷ ps) ends =
    if is_unbound (slice_get ends place) then refusal_of what.PortNotBound p.at p.name
    else unbound_from (place + 1) ps ends

-- ---- channels in the end

-- the channel that is meant, if one is
abbrev pub channel_meant : Option Meaning → Option ℕ
channel_meant (Some (meaning.Channel c)) = Some c
channel_meant _ = None

-- the port that is meant, if one is
abbrev pub port_meant : Option Meaning → Option ℕ
port_meant (Some (meaning.Port p)) = Some p
port_meant _ = None

-- the channel behind what a port is bound to, through no more ports than these
abbrev pub channel_behind : (left : ℕ) → List Meaning → Option Meaning → Option ℕ
channel_behind zero ends end = channel_meant end
channel_behind (suc left) ends end = elim (port_meant end) [
  | None ↦ channel_meant end
  | Some p ↦ channel_behind left ends (slice_get ends p)
]

-- of each port the channel to which it is bound in the end, through any number of ports of parents
abbrev pub channels_of : (all ports : List Meaning) → List (Option ℕ)
channels_of all [] = []
channels_of all (m ∷ ms) = channel_behind (length all) all (Some m) ∷ channels_of all ms
