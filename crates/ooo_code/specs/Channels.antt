-- Signals and fifos (IEEE 1666-2011, 6.4 and 6.23), with their update (4.2.1.3).
use Rattle.std.specs.Prelude.{ℕ, ◌+◌, ◌-◌, ◌==◌, nat_lt, List, [], ◌∷◌, ◌++◌, length, drop, Bool, false, not, ◌&&◌, if◌then◌else◌, Option, Some, None, slice_get, pos}
use Rattle.std.specs.Ordering.{int_eq}
use Rattle.ooo_time.specs.declared.time.Time.{Time}
use Rattle.ooo_value.specs.declared.bound.BoundChannel.{BoundChannel}
use Rattle.ooo_value.specs.declared.bound.ChannelKind.TheVariants as channel
use Rattle.ooo_value.specs.declared.bound.BoundEvent.{BoundEvent}
use Rattle.ooo_value.specs.declared.bound.BoundEvent.TheVariants as event
use Rattle.ooo_value.specs.declared.values.Value.{Value}
use Rattle.ooo_value.specs.Values.{number_of, truth_of, value_of}
use Rattle.ooo_code.specs.declared.activation.Seen.{Seen}
use Rattle.ooo_code.specs.declared.activation.Seen.TheVariants as seen

-- ---- what there is

-- a signal: its value, the value that is requested in this cycle, and the time of the update just made, where that
-- changed the value
pub record Signal : Type 0 where
  pub current : Value
  pub requested : Option Value
  pub changed : Option Time

-- a fifo: its size, the values that it held as this delta cycle began, how many of these were read in it, and the values
-- that were written in it; and the processes that hold its ends
pub record Fifo : Type 0 where
  pub size : ℕ
  pub held : List Value
  pub read : ℕ
  pub written : List Value
  pub reader : Option ℕ
  pub writer : Option ℕ

-- a channel of a design: a signal (6.4) or a fifo (6.23)
pub data Channel : Type 0 where
  IsSignal : Signal → Channel
  IsFifo : Fifo → Channel

-- a channel as it starts: a signal at 0 of its kind, a fifo without values
abbrev pub first_channel : BoundChannel → (reader writer : Option ℕ) → Channel
first_channel c reader writer = elim c.kind [
  | channel.Signal ↦ IsSignal (record { current = value_of c.value (pos 0); requested = None; changed = None })
  | channel.Fifo ↦ IsFifo (record { size = c.size; held = []; read = 0; written = []; reader = reader; writer = writer })
]

-- ---- what a process sees

-- process p holds the end, if a process does
abbrev pub is_process : ℕ → Option ℕ → Bool
is_process p None = false
is_process p (Some q) = p == q

-- the time is that of the last change, if there was one
abbrev pub is_time : Time → Option Time → Bool
is_time t None = false
is_time t (Some u) = t.0 == u.0

-- the values that the reader may still take in this delta cycle
abbrev pub available : Fifo → List Value
available f = drop f.read f.held

-- how many values the writer may still put: what is read in this delta cycle frees nothing in it
abbrev pub free_slots : Fifo → ℕ
free_slots f = f.size - length f.held - length f.written

-- what process p sees of channel number c at a time. Only who holds an end of a fifo sees that end; a change of a
-- signal counts only while time is still that of the update
abbrev pub seen_of : Time → (p c : ℕ) → Channel → Seen
seen_of now p c (IsSignal s) = seen.Signal c s.current (is_time now s.changed)
seen_of now p c (IsFifo f) =
    seen.Fifo c (if is_process p f.reader then available f else []) (if is_process p f.writer then free_slots f else 0)

-- what process p sees of the channels, the first of which has number c
abbrev pub all_seen : Time → (p c : ℕ) → List Channel → List Seen
all_seen now p c [] = []
all_seen now p c (x ∷ xs) = seen_of now p c x ∷ all_seen now p (c + 1) xs

-- ---- what an activation does to a channel

-- the last request of a cycle counts
abbrev pub requested : Value → Channel → Channel
requested v (IsSignal s) = IsSignal (record s { requested = Some v })
requested v (IsFifo f) = IsFifo f

-- a value that is put into a fifo stands behind those written before in this delta cycle (6.23); no put changes a signal
abbrev pub put_into : Value → Channel → Channel
put_into v (IsSignal s) = IsSignal s
put_into v (IsFifo f) = IsFifo (record f { written = f.written ++ v ∷ [] })

-- a take reads the next of the values that a fifo held as the delta cycle began (6.23); no take changes a signal
abbrev pub taken_from : Channel → Channel
taken_from (IsSignal s) = IsSignal s
taken_from (IsFifo f) = IsFifo (record f { read = f.read + 1 })

-- ---- the update (4.2.1.3)

-- two values of one kind are equal
abbrev pub same_value : Value → Value → Bool
same_value a b = int_eq (number_of a) (number_of b)

-- the value of a signal after the update
abbrev pub next_value : Signal → Value
next_value s = elim s.requested [ None ↦ s.current | Some v ↦ v ]

-- the update changes the signal's value
abbrev pub changes : Signal → Bool
changes s = not (same_value s.current (next_value s))

-- a channel after the update at a time: a signal has the requested value, a fifo what it held without what was read, and
-- with what was written
abbrev pub updated : Time → Channel → Channel
updated now (IsSignal s) =
    IsSignal (record { current = next_value s; requested = None; changed = if changes s then Some now else None })
updated now (IsFifo f) = IsFifo (record f { held = available f ++ f.written; read = 0; written = [] })

-- ---- the events that the update notifies

-- the channel is a signal that passes the test
abbrev pub on_signal : (Signal → Bool) → Option Channel → Bool
on_signal test (Some (IsSignal s)) = test s
on_signal test _ = false

-- the channel is a fifo that passes the test
abbrev pub on_fifo : (Fifo → Bool) → Option Channel → Bool
on_fifo test (Some (IsFifo f)) = test f
on_fifo test _ = false

-- the update notifies an event: value changed where a signal's value changes, posedge and negedge where it becomes true
-- or false, data written and data read where values were
abbrev pub is_notified : List Channel → BoundEvent → Bool
is_notified xs event.Own = false
is_notified xs (event.Changed c) = on_signal changes (slice_get xs c)
is_notified xs (event.Rise c) = on_signal (λ s. changes s && truth_of (next_value s)) (slice_get xs c)
is_notified xs (event.Fall c) = on_signal (λ s. changes s && not (truth_of (next_value s))) (slice_get xs c)
is_notified xs (event.Written c) = on_fifo (λ f. nat_lt 0 (length f.written)) (slice_get xs c)
is_notified xs (event.Taken c) = on_fifo (λ f. nat_lt 0 f.read) (slice_get xs c)
