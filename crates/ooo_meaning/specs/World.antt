-- What a sequential run shares: everything but where each process is in its code (IEEE 1666-2011, 4.2.1).
use Rattle.std.specs.Prelude.{ℕ, ◌+◌, ◌==◌, nat_lt, List, [], ◌∷◌, ◌++◌, map, fold, take, Bool, true, false, ◌&&◌, ◌||◌, if◌then◌else◌, Option, Some, None, is_none, slice_set, slice_index_or}
use Rattle.std.specs.List.{list_any}
use Rattle.ooo_time.specs.declared.time.Time.{Time}
use Rattle.ooo_time.specs.declared.stamp.Stamp.{Stamp}
use Rattle.ooo_time.specs.declared.stamp.Place.{Place}
use Rattle.ooo_time.specs.Stamps.{is_before}
use Rattle.ooo_value.specs.declared.bound.BoundEvent.{BoundEvent}
use Rattle.ooo_value.specs.declared.values.Value.{Value}
use Rattle.ooo_events.specs.Slots.{Slot, Nothing, due_of, slot_left_at, slot_after_delta, slot_after_notify, slot_after_cancel}
use Rattle.ooo_code.specs.declared.activation.Effect.{Effect}
use Rattle.ooo_code.specs.declared.activation.Effect.TheVariants as effect
use Rattle.ooo_code.specs.declared.activation.JobEnd.{JobEnd}
use Rattle.ooo_code.specs.declared.activation.JobEnd.TheVariants as job
use Rattle.ooo_code.specs.declared.limits.Limits.{Limits}
use Rattle.ooo_code.specs.Expressions.{no_value}
use Rattle.ooo_code.specs.Outcomes.{View, Deed}
use Rattle.ooo_code.specs.Channels.{Channel, Signal, IsSignal, IsFifo, all_seen, requested, put_into, taken_from, changes, next_value, updated, is_notified}
use Rattle.ooo_history.specs.declared.run.What.TheVariants.{Took, Put, Changed}
use Rattle.ooo_history.specs.declared.run.Entry.{Entry}
use Rattle.ooo_history.specs.declared.run.End.{End}
use Rattle.ooo_history.specs.declared.run.End.TheVariants as end

-- ---- what there is

-- a process between activations: whether it is runnable, else the events that it waits on, and its time-out, which is
-- the slot of an event that is notified once
pub record Wait : Type 0 where
  pub runnable : Bool
  pub events : List ℕ
  pub timeout : Slot

-- an activation that was made: its place, what it saw, and what it did
pub record Made : Type 0 where
  pub place : Place
  pub view : View
  pub deed : Deed

-- the stamp; each process's wait; the variables; the events, and the slot of each; the channels and the history of each;
-- the activations made so far, in order; whether sc_stop was called; and the end, if an activation ended the run
pub record World : Type 0 where
  pub stamp : Stamp
  pub waits : List Wait
  pub variables : List (List Value)
  pub events : List BoundEvent
  pub slots : List Slot
  pub channels : List Channel
  pub histories : List (List Entry)
  pub made : List Made
  pub stopped : Bool
  pub broken : Option End

-- a process that waits for nothing
abbrev pub never : Wait
never = record { runnable = false; events = []; timeout = Nothing }

-- a process that is runnable
abbrev pub awake : Wait
awake = record { runnable = true; events = []; timeout = Nothing }

-- what process p waits for; a process that there isn't waits for nothing
abbrev pub wait_at : List Wait → ℕ → Wait
wait_at waits p = slice_index_or waits p never

-- what is pending for event e; for an event that there isn't nothing is
abbrev pub slot_at : List Slot → ℕ → Slot
slot_at slots e = slice_index_or slots e Nothing

-- what stands where there is no channel
abbrev pub no_channel : Channel
no_channel = IsSignal (record { current = no_value; requested = None; changed = None })

-- channel c as it stands
abbrev pub channel_at : List Channel → ℕ → Channel
channel_at channels c = slice_index_or channels c no_channel

-- ---- the evaluation phase (4.2.1.2)

-- what process p sees as it begins
abbrev pub view_of : ℕ → World → View
view_of p w = record { stamp = w.stamp; variables = w.variables; seen = all_seen w.stamp.time p 0 w.channels }

-- one effect of an activation: on a channel, on an event's slot, or a call of sc_stop
abbrev pub apply : World → Effect → World
apply w (effect.Request c v) = record w { channels = slice_set w.channels c (requested v (channel_at w.channels c)) }
apply w (effect.Put c v) = record w { channels = slice_set w.channels c (put_into v (channel_at w.channels c)) }
apply w (effect.Take c) = record w { channels = slice_set w.channels c (taken_from (channel_at w.channels c)) }
apply w (effect.Notify e k) = record w { slots = slice_set w.slots e (slot_after_notify (slot_at w.slots e) w.stamp k) }
apply w (effect.Cancel e) = record w { slots = slice_set w.slots e (slot_after_cancel (slot_at w.slots e)) }
apply w effect.Stop = record w { stopped = true }

-- the effects of an activation, in their order
abbrev pub apply_all : World → List Effect → World
apply_all w effects = fold apply w effects

-- the slot of a time-out that begins at a stamp (5.2.18)
abbrev pub timeout_of : Stamp → Option Time → Slot
timeout_of now None = Nothing
timeout_of now (Some k) = slot_after_notify Nothing now k

-- what a process waits for after an activation at a stamp
abbrev pub wait_after : Stamp → JobEnd → Wait
wait_after now (job.Waits on) = record { runnable = false; events = on.events; timeout = timeout_of now on.time }
wait_after now _ = never

-- how an activation at a place ends the run, if it does: by a fault, or at the statement limit
abbrev pub broken_by : Place → JobEnd → Option End
broken_by at (job.Faulted f line) = Some (end.Fault f at line)
broken_by at (job.Limit line) = Some (end.Statements at line)
broken_by at _ = None

-- the place of an activation: its stamp and its process
abbrev pub place_of : Stamp → ℕ → Place
place_of s p = record { stamp = s; process = p }

-- the world after an activation of process p
unfoldable pub after_deed : ℕ → World → Deed → World
after_deed p w d = record (apply_all w d.effects) {
  waits = slice_set w.waits p (wait_after w.stamp d.end);
  variables = d.variables;
  made = w.made ++ record { place = place_of w.stamp p; view = view_of p w; deed = d } ∷ [];
  broken = broken_by (place_of w.stamp p) d.end;
}

-- process p is runnable, and no activation ended the run
unfoldable pub runs_now : ℕ → World → Bool
runs_now p w = is_none w.broken && (wait_at w.waits p).runnable

-- ---- the update phase (4.2.1.3)

-- the entries of a signal's update: one, where its value changes
abbrev pub change_entries : Stamp → Signal → List Entry
change_entries s x = if changes x then record { stamp = s; what = Changed; value = next_value x } ∷ [] else []

-- what the update in the cycle of a stamp adds to the history of a channel: of a fifo what was read, and then what was
-- written
abbrev pub entries_of : Stamp → Channel → List Entry
entries_of s (IsSignal x) = change_entries s x
entries_of s (IsFifo f) =
    map (λ v. record { stamp = s; what = Took; value = v }) (take f.read f.held)
    ++ map (λ v. record { stamp = s; what = Put; value = v }) f.written

-- each history with what the update of its channel adds
abbrev pub longer_histories : Stamp → List Channel → List (List Entry) → List (List Entry)
longer_histories s (c ∷ cs) (h ∷ hs) = (h ++ entries_of s c) ∷ longer_histories s cs hs
longer_histories s _ hs = hs

-- the slots after the channels have notified their events for the next delta cycle
abbrev pub notified_slots : Stamp → List Channel → List BoundEvent → List Slot → List Slot
notified_slots s cs (e ∷ es) (x ∷ xs) =
    (if is_notified cs e then slot_after_delta x s else x) ∷ notified_slots s cs es xs
notified_slots s cs _ xs = xs

-- the update: each channel changes, its history grows, and its events are notified for the next delta cycle
unfoldable pub update : World → World
update w = record w {
  channels = map (updated w.stamp.time) w.channels;
  histories = longer_histories w.stamp w.channels w.histories;
  slots = notified_slots w.stamp w.channels w.events w.slots;
}

-- ---- the notification phases (4.2.1.4 and 4.2.1.5)

-- two stamps are the same
abbrev pub same_stamp : Stamp → Stamp → Bool
same_stamp a b = (a.time.0 == b.time.0) && (a.delta == b.delta)

-- something pending is due at the stamp
abbrev pub is_at : Stamp → Option Stamp → Bool
is_at s None = false
is_at s (Some t) = same_stamp s t

-- what is pending is due at a stamp
abbrev pub is_due : Stamp → Slot → Bool
is_due s slot = is_at s (due_of slot)

-- a process becomes runnable where its time-out or an event that it waits on is due
abbrev pub woken : Stamp → List Slot → Wait → Wait
woken s slots x = if is_due s x.timeout || list_any (λ e. is_due s (slot_at slots e)) x.events then awake else x

-- the world as a stamp is reached: what is due then makes processes runnable, and is pending no more
unfoldable pub reach : Stamp → World → World
reach s w = record w { stamp = s; waits = map (woken s w.slots) w.waits; slots = map (λ x. slot_left_at x s) w.slots }

-- ---- the next stamp

-- the earlier of two stamps, of those that there are
abbrev pub sooner : Option Stamp → Option Stamp → Option Stamp
sooner None b = b
sooner (Some a) None = Some a
sooner (Some a) (Some b) = if is_before b a then Some b else Some a

-- the earliest of some stamps, of those that there are
abbrev pub least : List (Option Stamp) → Option Stamp
least [] = None
least (x ∷ xs) = sooner x (least xs)

-- when a process runs next, if nothing more is done
abbrev pub activity : List Slot → Wait → Option Stamp
activity slots x = sooner (due_of x.timeout) (least (map (λ e. due_of (slot_at slots e)) x.events))

-- the earliest stamp at which some process runs: a notification for which none waits is no activity
abbrev pub least_activity : World → Option Stamp
least_activity w = least (map (activity w.slots) w.waits)

-- the earliest stamp for which a notification or a time-out is pending
abbrev pub least_pending : World → Option Stamp
least_pending w = sooner (least (map due_of w.slots)) (least (map (λ x. due_of x.timeout) w.waits))

-- the stamp of the next delta cycle at the same time
abbrev pub next_delta : Stamp → Stamp
next_delta s = record { time = s.time; delta = s.delta + 1 }

-- some process is runnable
abbrev pub some_runnable : World → Bool
some_runnable w = list_any (λ x. x.runnable) w.waits

-- ---- how a run goes on after an evaluation

-- it is over, or there is another cycle
pub data Progress : Type 0 where
  Over : World → End → Progress
  Goes : World → Progress

-- time zero, at which a run starts
abbrev pub zero_stamp : Stamp
zero_stamp = record { time = record { 0 = 0 }; delta = 0 }

-- the stamp of the last activation, or time zero where there was none
abbrev pub last_stamp : List Made → Stamp
last_stamp made = fold (λ s m. m.place.stamp) zero_stamp made

-- the run is over since no process will run again: it ends idle, at the stamp of its last activation
abbrev pub idle : World → Progress
idle w = Over w (end.Idle (last_stamp w.made))

-- time moves to the earliest stamp for which anything is pending
abbrev pub advance : World → Option Stamp → Progress
advance w None = idle w
advance w (Some t) = Goes (reach t w)

-- no process is runnable: none ever will be, or only after the stop time, or time moves on
abbrev pub later : Limits → World → Option Stamp → Progress
later limits w None = idle w
later limits w (Some t) = if nat_lt limits.stop.0 t.time.0 then Over w (end.Time limits.stop) else advance w (least_pending w)

-- a process is runnable, unless the delta limit is reached
abbrev pub in_delta : Limits → World → Progress
in_delta limits w = if w.stamp.delta == limits.deltas then Over w (end.Deltas w.stamp) else Goes w

-- once the notifications of a stamp are made
unfoldable pub notified : Limits → World → Progress
notified limits w = if some_runnable w then in_delta limits w else later limits w (least_activity w)

-- an activation ended the run at its place; else the update is made, sc_stop ends the run, or the next delta cycle begins
abbrev pub settle_at : Limits → World → Option End → Progress
settle_at limits w (Some e) = Over w e
settle_at limits w None =
    if w.stopped then Over (update w) (end.Stop w.stamp) else notified limits (reach (next_delta w.stamp) (update w))

-- the rest of a cycle after its evaluation
unfoldable pub settle : Limits → World → Progress
settle limits w = settle_at limits w w.broken
