-- Channels as they start.
use Rattle.std.proofs.Common.{◌≡◌, ℕ, [], Some, None, refl, ap, sym, subst, ◌∙◌, arith}
use Rattle.std.specs.Prelude.{pos}
use Rattle.ooo_time.specs.declared.stamp.Stamp.{Stamp}
use Rattle.ooo_time.specs.Stamps.{IsBefore}
use Rattle.ooo_value.specs.declared.bound.BoundChannel.{BoundChannel}
use Rattle.ooo_value.specs.declared.bound.ChannelKind.TheVariants as kind
use Rattle.ooo_value.specs.Values.{value_of}
use Rattle.ooo_code.specs.Channels.{IsSignal, IsFifo, first_channel}
use Rattle.ooo_meaning.specs.World.{zero_stamp}
use Rattle.ooo_channels.specs.declared.notices.Notice.{Notice}
use Rattle.ooo_channels.specs.declared.notices.Notice.TheVariants as notice
use Rattle.ooo_channels.specs.declared.signal.SignalState.{SignalState}
use Rattle.ooo_channels.specs.declared.fifo.FifoState.{FifoState}
use Rattle.ooo_channels.specs.Cycles.{first_cycle, first_shown, IsSeenAs}
use Rattle.ooo_channels.specs.Room.{HasSignalRoom, HasFifoRoom}
use Rattle.ooo_channels.specs.Versions.{signal_of}
use Rattle.ooo_channels.specs.Kept.{IsNotice, IsSignalAfter, IsFifoAfter, SignalShows}
use Rattle.ooo_channels.proofs.Versions.{version_same}

-- nothing is said of an event that isn't kept
absent_notice : (below stamp : Stamp) (x : Notice) → x ≡ notice.Absent → IsNotice below stamp x []
absent_notice below stamp x is = subst (λ a. IsNotice below stamp a []) (sym is) (record { kept = tt; by = tt })

pub first_signal : (b : BoundChannel) → b.kind ≡ kind.Signal → first_channel b None None ≡ IsSignal (record { current = value_of b.value (pos 0); requested = None; changed = None })
first_signal b is = rw is refl

pub first_fifo : (b : BoundChannel) → b.kind ≡ kind.Fifo → first_channel b None None ≡ IsFifo (record { size = b.size; held = []; read = 0; written = []; reader = None; writer = None })
first_fifo b is = rw is refl

pub signal_starts :
    (c : ℕ) (below : Stamp) (b : BoundChannel) (s : SignalState) → b.kind ≡ kind.Signal →
    s.newest.current ≡ value_of b.value (pos 0) → s.newest.requested ≡ None → s.newest.changed ≡ None → s.newest.stamp ≡ zero_stamp → s.history.items ≡ [] →
    s.changes ≡ notice.Absent → s.rises ≡ notice.Absent → s.falls ≡ notice.Absent → HasSignalRoom 0 s →
    IsSignalAfter c below (first_cycle (Some b)) (λ k. []) s
signal_starts c below b s is value fresh unchanged stamp history changes rises falls room = record {
  room = room;
  cycle = record {
    stamp = stamp;
    channel = ap IsSignal same ∙ sym (first_signal b is);
    history = history;
  };
  changes = absent_notice below zero_stamp s.changes changes;
  rises = absent_notice below zero_stamp s.rises rises;
  falls = absent_notice below zero_stamp s.falls falls;
} where
  same : signal_of s.newest ≡ record { current = value_of b.value (pos 0); requested = None; changed = None }
  same = rw (value, fresh, unchanged) refl

pub signal_shown :
    (c : ℕ) (below : Stamp) (b : BoundChannel) (s : SignalState) → IsSignalAfter c below (first_cycle (Some b)) (λ k. []) s → s.past.items ≡ [] →
    SignalShows below (first_shown (Some b)) s
signal_shown c below b s h none = rw none (record {
  start = subst (λ t. ¬ IsBefore below t) (sym h.cycle.stamp) (λ k. grind arith);
  each = (tt, λ at from upto seen is. subst (λ x. IsSeenAs x at.time seen) (version_same s.newest (first_cycle (Some b)) at h.cycle.stamp h.cycle.channel) is, tt);
})

pub fifo_starts :
    (c : ℕ) (below : Stamp) (b : BoundChannel) (s : FifoState) → b.kind ≡ kind.Fifo →
    s.size ≡ b.size → s.values.items ≡ [] → (s.read ≡ 0) × (s.written ≡ 0) → s.stamp ≡ zero_stamp → s.history.items ≡ [] →
    s.puts ≡ notice.Absent → s.takes ≡ notice.Absent → HasFifoRoom 0 s →
    IsFifoAfter c below (first_cycle (Some b)) (λ k. []) s
fifo_starts c below b s is size values counts stamp history puts takes room = record {
  room = room;
  cycle = record {
    fifo = record { size = b.size; held = []; read = 0; written = []; reader = None; writer = None };
    channel = sym (first_fifo b is);
    stamp = stamp;
    size = sym size;
    values = sym values;
    read = sym counts.0;
    written = sym counts.1;
    within = omega arith;
    fits = omega arith;
    history = history;
  };
  puts = absent_notice below zero_stamp s.puts puts;
  takes = absent_notice below zero_stamp s.takes takes;
}
