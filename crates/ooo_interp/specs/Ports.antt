-- What a process sees of channels by its ports.
use Rattle.std.specs.Prelude.{◌≡◌, false, ℕ, ◌-◌, ◌<◌, List, [], ◌∷◌, drop, map, AllPairs}
use Rattle.ooo_value.specs.declared.values.Value.{Value}
use Rattle.ooo_code.specs.declared.activation.Seen.{Seen}
use Rattle.ooo_code.specs.declared.activation.Seen.TheVariants as seen
use Rattle.ooo_code.specs.Expressions.{FifoSeen, SignalSeen, fifo_seen, no_value, signal_seen}
use Rattle.ooo_interp.specs.declared.fifo_port.FifoPort.{FifoPort}
use Rattle.ooo_interp.specs.declared.port.Port.{Port}
use Rattle.ooo_interp.specs.declared.port.Port.TheVariants as port

-- the values of each fifo, as they were before the activation took any
abbrev pub ValuesOf : Type 0
ValuesOf = ℕ → List Value

-- what is seen by a port, where fifos have these values
abbrev pub shown : ValuesOf → Port → Seen
shown values (port.Signal c v changed) = seen.Signal c v changed
shown values (port.Fifo f) = seen.Fifo f.channel (drop f.taken (values f.channel)) f.free

-- what is seen by ports
abbrev pub all_shown : ValuesOf → List Port → List Seen
all_shown values ports = map (shown values) ports

-- what is seen by the port of a fifo
abbrev pub fifo_shown : ValuesOf → FifoPort → FifoSeen
fifo_shown values f = record { values = drop f.taken (values f.channel); free = f.free }

-- what is seen by the port of a signal; by that of a fifo no signal is
abbrev pub signal_shown : Port → SignalSeen
signal_shown (port.Signal c v changed) = record { value = v; changed = changed }
signal_shown (port.Fifo f) = record { value = no_value; changed = false }

-- the number of a port's channel
abbrev pub channel_of : Port → ℕ
channel_of (port.Signal c v changed) = c
channel_of (port.Fifo f) = f.channel

-- each port's channel has a lower number than those of the later ports
abbrev pub PortsAscend : List Port → Type 0
PortsAscend ports = AllPairs (λ a b. channel_of a < channel_of b) ports

-- of channel number c these ports show what those show
pub record ShowAlike (values : ValuesOf) (c : ℕ) (these those : List Port) : Type 0 where
  pub signal : signal_seen (all_shown values these) c ≡ signal_seen (all_shown values those) c
  pub fifo : fifo_seen (all_shown values these) c ≡ fifo_seen (all_shown values those) c

-- a port of channel number c, which shows of it what all ports show
pub record ShowsIts (values : ValuesOf) (c : ℕ) (ports : List Port) (p : Port) : Type 0 where
  pub channel : channel_of p ≡ c
  pub alike : ShowAlike values c ports (p ∷ [])

-- the values of each fifo that is seen
abbrev pub values_in : List Seen → ValuesOf
values_in sight c = (fifo_seen sight c).values

-- what is seen of a fifo after a value of it was taken
abbrev pub less_one_value : Seen → Seen
less_one_value (seen.Signal c v changed) = seen.Signal c v changed
less_one_value (seen.Fifo c values free) = seen.Fifo c (drop 1 values) free

-- what is seen of a fifo after a slot of it was filled
abbrev pub less_one_slot : Seen → Seen
less_one_slot (seen.Signal c v changed) = seen.Signal c v changed
less_one_slot (seen.Fifo c values free) = seen.Fifo c values (free - 1)
