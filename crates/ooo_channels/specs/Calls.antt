-- The calls on events that operations make.
use Rattle.std.specs.Prelude.{ℕ, ◌==◌, nat_lt, List, [], ◌∷◌, ◌++◌, length, fold, Bool, false, not, ◌&&◌, if◌then◌else◌, Some, None, slice_get}
use Rattle.std.specs.List.{flat_map}
use Rattle.ooo_time.specs.declared.stamp.Stamp.{Stamp}
use Rattle.ooo_value.specs.declared.bound.BoundEvent.{BoundEvent}
use Rattle.ooo_value.specs.declared.bound.BoundEvent.TheVariants as event
use Rattle.ooo_value.specs.Values.{truth_of}
use Rattle.ooo_events.specs.declared.call.Call.{Call}
use Rattle.ooo_events.specs.declared.call.Call.TheVariants as call
use Rattle.ooo_events.specs.Firings.{Fires}
use Rattle.ooo_code.specs.declared.activation.Effect.{Effect}
use Rattle.ooo_code.specs.declared.activation.Effect.TheVariants as effect
use Rattle.ooo_code.specs.Channels.{Channel, on_signal, on_fifo, changes, next_value}
use Rattle.ooo_channels.specs.Operations.{Operation, Operations}
use Rattle.ooo_channels.specs.Cycles.{Cycle, cycle_step, first_cycle}

-- ---- an event of the model's own

-- the call that an effect makes on event e, if it makes one
abbrev pub own_call : ℕ → Operation → List Call
own_call e o = elim o.effect [
  | effect.Notify d k ↦ if e == d then call.Notify o.at k ∷ [] else []
  | effect.Cancel d ↦ if e == d then call.Cancel o.at ∷ [] else []
  | _ ↦ []
]

-- the calls on event e
unfoldable pub own_calls : Operations → ℕ → List Call
own_calls ops e = flat_map (own_call e) ops.applied

-- ---- an event of a channel

-- the update of a channel's cycle notifies an event of the channel (6.4 and 6.23)
abbrev pub notifies : BoundEvent → Channel → Bool
notifies event.Own x = false
notifies (event.Changed c) x = on_signal changes (Some x)
notifies (event.Rise c) x = on_signal (λ s. changes s && truth_of (next_value s)) (Some x)
notifies (event.Fall c) x = on_signal (λ s. changes s && not (truth_of (next_value s))) (Some x)
notifies (event.Written c) x = on_fifo (λ f. nat_lt 0 (length f.written)) (Some x)
notifies (event.Taken c) x = on_fifo (λ f. nat_lt 0 f.read) (Some x)

-- the effect bears on an event of a channel: a request on those of its signal, a put on data written, a take on data read
abbrev pub bears_on : BoundEvent → Effect → Bool
bears_on (event.Changed c) (effect.Request d v) = c == d
bears_on (event.Rise c) (effect.Request d v) = c == d
bears_on (event.Fall c) (effect.Request d v) = c == d
bears_on (event.Written c) (effect.Put d v) = c == d
bears_on (event.Taken c) (effect.Take d) = c == d
bears_on _ _ = false

-- the channel of an event
abbrev pub channel_of : BoundEvent → ℕ
channel_of event.Own = 0
channel_of (event.Changed c) = c
channel_of (event.Rise c) = c
channel_of (event.Fall c) = c
channel_of (event.Written c) = c
channel_of (event.Taken c) = c

-- a delta notification at a stamp where the update of its cycle will make one, else none is left of that cycle's
abbrev pub renewal : Stamp → Bool → Call
renewal at notified = if notified then call.Notify at (record { 0 = 0 }) else call.Cancel at

-- an operation that bears on the event, after which the channel stands so, makes anew what its cycle's update notifies
abbrev pub renewals : BoundEvent → Channel → Operation → List Call
renewals k x o = if bears_on k o.effect then renewal o.at (notifies k x) ∷ [] else []

-- a channel in its cycle, and the calls on one of its events so far
pub record Notified : Type 0 where
  pub cycle : Cycle
  pub calls : List Call

-- one more operation
abbrev pub notified_step : BoundEvent → Notified → Operation → Notified
notified_step k x o =
    let next = cycle_step (channel_of k) x.cycle o in
    record { cycle = next; calls = x.calls ++ renewals k next.channel o }

-- a channel with one of its events, after the operations
unfoldable pub notified_by : Operations → BoundEvent → Notified
notified_by ops k =
    fold (notified_step k) (record { cycle = first_cycle (slice_get ops.channels (channel_of k)); calls = [] }) ops.applied

-- the calls on an event of a channel
abbrev pub channel_calls : Operations → BoundEvent → List Call
channel_calls ops k = (notified_by ops k).calls

-- ---- both

-- the calls on event e, of a kind
abbrev pub calls_by : Operations → ℕ → BoundEvent → List Call
calls_by ops e event.Own = own_calls ops e
calls_by ops e k = channel_calls ops k

-- the calls on event e
abbrev pub calls_of : Operations → ℕ → List Call
calls_of ops e = elim (slice_get ops.events e) [ None ↦ [] | Some k ↦ calls_by ops e k ]

-- event e fires at a stamp, given the operations and no more
abbrev pub FiresAt : Operations → ℕ → Stamp → Type 0
FiresAt ops e t = Fires (calls_of ops e) t
