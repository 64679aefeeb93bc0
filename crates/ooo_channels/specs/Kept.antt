-- What a bank keeps of a channel and of an event.
use Rattle.std.specs.Prelude.{◌≡◌, ℕ, ◌+◌, ◌≤◌, List, [], ◌∷◌, ◌++◌, length, map, take, ⊤}
use Rattle.ooo_time.specs.declared.stamp.Stamp.{Stamp}
use Rattle.ooo_time.specs.Stamps.{IsBefore}
use Rattle.ooo_value.specs.declared.bound.BoundEvent.{BoundEvent}
use Rattle.ooo_value.specs.declared.bound.BoundEvent.TheVariants as event
use Rattle.ooo_value.specs.declared.bound.ChannelKind.{ChannelKind}
use Rattle.ooo_value.specs.declared.bound.ChannelKind.TheVariants as channel
use Rattle.ooo_events.specs.declared.call.Call.{Call}
use Rattle.ooo_events.specs.Calls.{Follows}
use Rattle.ooo_events.specs.Events.{EventState, IsEventAfter, Remembers}
use Rattle.ooo_code.specs.Channels.{Channel, Fifo, IsSignal, IsFifo, available}
use Rattle.ooo_channels.specs.declared.notices.Notice.{Notice}
use Rattle.ooo_channels.specs.declared.notices.Notice.TheVariants as notice
use Rattle.ooo_channels.specs.declared.signal.SignalState.{SignalState}
use Rattle.ooo_channels.specs.declared.fifo.FifoState.{FifoState}
use Rattle.ooo_channels.specs.declared.channel.ChannelState.{ChannelState}
use Rattle.ooo_channels.specs.declared.channel.ChannelState.TheVariants as state
use Rattle.ooo_channels.specs.Operations.{Operation}
use Rattle.ooo_channels.specs.Cycles.{Cycle, cycle_after}
use Rattle.ooo_channels.specs.Calls.{renewals}
use Rattle.ooo_channels.specs.Entries.{took_entry}
use Rattle.ooo_channels.specs.Versions.{signal_of, AreVersionsSince}
use Rattle.ooo_channels.specs.Room.{HasSignalRoom, HasFifoRoom}

-- an event on which these calls were made, and which forgot no firing from a stamp on
pub record IsEventKept (below : Stamp) (event : EventState) (calls : List Call) : Type 0 where
  pub after : IsEventAfter event calls
  pub remembers : (s : Stamp) → ¬ IsBefore s below → Remembers event s

-- an event of a channel on which these calls were made; of one that the design hasn't nothing is said
abbrev pub IsNoticeKept : (below : Stamp) → Notice → List Call → Type 0
IsNoticeKept below (notice.Kept e) calls = IsEventKept below e calls
IsNoticeKept below notice.Absent calls = ⊤

-- no call on an event of a channel is later than a stamp
abbrev pub IsNoticeBy : Stamp → Notice → Type 0
IsNoticeBy stamp (notice.Kept e) = Follows e.last stamp
IsNoticeBy stamp notice.Absent = ⊤

-- an event of a channel, the last call on which isn't later than the channel's cycle
pub record IsNotice (below stamp : Stamp) (event : Notice) (calls : List Call) : Type 0 where
  pub kept : IsNoticeKept below event calls
  pub by : IsNoticeBy stamp event

-- an event of a channel is kept
abbrev pub IsPresent : Notice → Type 0
IsPresent (notice.Kept e) = ⊤
IsPresent notice.Absent = ⊥

-- the newest version of a signal is the signal in its cycle
pub record IsSignalIn (s : SignalState) (x : Cycle) : Type 0 where
  pub stamp : s.newest.stamp ≡ x.stamp
  pub channel : IsSignal (signal_of s.newest) ≡ x.channel
  pub history : s.history.items ≡ x.history

-- what was seen of a signal, stamp by stamp, is seen of what is kept of it at each stamp that isn't before this one
abbrev pub SignalShows : Stamp → (Stamp → Channel) → SignalState → Type 0
SignalShows below was s = AreVersionsSince below was (s.past.items ++ s.newest ∷ [])

-- the same of a channel; of a fifo it says nothing
abbrev pub ChannelShows : Stamp → (Stamp → Channel) → ChannelState → Type 0
ChannelShows below was (state.Signal s) = SignalShows below was s
ChannelShows below was (state.Fifo f) = ⊤

-- what is kept of a fifo is the fifo in its cycle: its values in one queue, and what was read in the cycle in the history
pub record IsFifoIn (s : FifoState) (x : Cycle) : Type 0 where
  pub fifo : Fifo
  pub channel : IsFifo fifo ≡ x.channel
  pub stamp : s.stamp ≡ x.stamp
  pub size : fifo.size ≡ s.size
  pub values : available fifo ++ fifo.written ≡ s.values.items
  pub read : fifo.read ≡ s.read
  pub written : length fifo.written ≡ s.written
  pub within : fifo.read ≤ length fifo.held
  pub fits : length fifo.held + length fifo.written ≤ fifo.size
  pub history : s.history.items ≡ x.history ++ map (took_entry x.stamp) (take fifo.read fifo.held)

-- a signal in its cycle, with its events
pub record IsSignalAfter (c : ℕ) (below : Stamp) (x : Cycle) (calls : BoundEvent → List Call) (s : SignalState) : Type 0 where
  pub cycle : IsSignalIn s x
  pub changes : IsNotice below x.stamp s.changes (calls (event.Changed c))
  pub rises : IsNotice below x.stamp s.rises (calls (event.Rise c))
  pub falls : IsNotice below x.stamp s.falls (calls (event.Fall c))
  pub room : HasSignalRoom 0 s

-- a fifo in its cycle, with its events
pub record IsFifoAfter (c : ℕ) (below : Stamp) (x : Cycle) (calls : BoundEvent → List Call) (s : FifoState) : Type 0 where
  pub cycle : IsFifoIn s x
  pub puts : IsNotice below x.stamp s.puts (calls (event.Written c))
  pub takes : IsNotice below x.stamp s.takes (calls (event.Taken c))
  pub room : HasFifoRoom 0 s

-- channel c in its cycle, with its events
abbrev pub IsChannelAfter : (c : ℕ) → (below : Stamp) → Cycle → (BoundEvent → List Call) → ChannelState → Type 0
IsChannelAfter c below x calls (state.Signal s) = IsSignalAfter c below x calls s
IsChannelAfter c below x calls (state.Fifo f) = IsFifoAfter c below x calls f

-- a channel is in some cycle
abbrev pub HasCycle : ChannelState → Type 0
HasCycle s = (c : ℕ) × (below : Stamp) × (x : Cycle) × (calls : BoundEvent → List Call) × IsChannelAfter c below x calls s

-- so it is by whatever cycle a channel is in
abbrev pub ForCycle : ChannelState → (Cycle → Type 0) → Type 0
ForCycle s P = (c : ℕ) (below : Stamp) (x : Cycle) (calls : BoundEvent → List Call) → IsChannelAfter c below x calls s → P x

-- channel c after one more operation on it, with its events
abbrev pub IsChannelNext : (c : ℕ) → (below : Stamp) → Cycle → (BoundEvent → List Call) → Operation → ChannelState → Type 0
IsChannelNext c below x calls o s =
    let next = cycle_after x o in IsChannelAfter c below next (λ k. calls k ++ renewals k next.channel o) s

-- it is a channel of this kind
abbrev pub HasKind : ChannelKind → ChannelState → Type 0
HasKind channel.Signal (state.Signal s) = ⊤
HasKind channel.Fifo (state.Fifo f) = ⊤
HasKind _ _ = ⊥

-- the events of a signal, no call on which is later than its cycle
pub record AreSignalEventsBy (s : SignalState) : Type 0 where
  pub changes : IsNoticeBy s.newest.stamp s.changes
  pub rises : IsNoticeBy s.newest.stamp s.rises
  pub falls : IsNoticeBy s.newest.stamp s.falls

-- the events of a fifo, no call on which is later than its cycle
pub record AreFifoEventsBy (s : FifoState) : Type 0 where
  pub puts : IsNoticeBy s.stamp s.puts
  pub takes : IsNoticeBy s.stamp s.takes

-- an event of a signal
abbrev pub IsSignalEvent : BoundEvent → Type 0
IsSignalEvent (event.Changed c) = ⊤
IsSignalEvent (event.Rise c) = ⊤
IsSignalEvent (event.Fall c) = ⊤
IsSignalEvent _ = ⊥

-- an event of a fifo
abbrev pub IsFifoEvent : BoundEvent → Type 0
IsFifoEvent (event.Written c) = ⊤
IsFifoEvent (event.Taken c) = ⊤
IsFifoEvent _ = ⊥

-- a channel has such an event
abbrev pub HasEvent : BoundEvent → ChannelState → Type 0
HasEvent k (state.Signal s) = IsSignalEvent k
HasEvent k (state.Fifo f) = IsFifoEvent k

-- a signal keeps an event, if it is one of a signal
abbrev pub SignalKeeps : BoundEvent → SignalState → Type 0
SignalKeeps (event.Changed c) s = IsPresent s.changes
SignalKeeps (event.Rise c) s = IsPresent s.rises
SignalKeeps (event.Fall c) s = IsPresent s.falls
SignalKeeps _ s = ⊤

-- a fifo keeps an event, if it is one of a fifo
abbrev pub FifoKeeps : BoundEvent → FifoState → Type 0
FifoKeeps (event.Written c) s = IsPresent s.puts
FifoKeeps (event.Taken c) s = IsPresent s.takes
FifoKeeps _ s = ⊤

-- a channel keeps an event, if it has such an event
abbrev pub Keeps : BoundEvent → ChannelState → Type 0
Keeps k (state.Signal s) = SignalKeeps k s
Keeps k (state.Fifo f) = FifoKeeps k f
