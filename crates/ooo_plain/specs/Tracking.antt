-- When processes run, in a world of the sequential scheduler.
use Rattle.std.specs.Prelude.{◌≡◌, ◌≢◌, ℕ, ◌<◌, Bool, false, List, Option, Some, map, length, All, if◌then◌else◌}
use Rattle.ooo_time.specs.declared.stamp.Stamp.{Stamp}
use Rattle.ooo_value.specs.declared.bound.BoundEvent.{BoundEvent}
use Rattle.ooo_value.specs.declared.bound.BoundEvent.TheVariants as event
use Rattle.ooo_events.specs.Slots.{Slot, due_of}
use Rattle.ooo_code.specs.declared.activation.Effect.{Effect}
use Rattle.ooo_meaning.specs.World.{World, Wait, wait_at, activity, update}
use Rattle.ooo_channels.specs.Operations.{is_call_on}
use Rattle.ooo_channels.specs.Calls.{bears_on}
use Rattle.ooo_plain.specs.declared.schedule.Awaited.{Awaited}
use Rattle.ooo_plain.specs.declared.schedule.Schedule.{Schedule}
use Rattle.ooo_plain.specs.Agenda.{due_in}
use Rattle.ooo_plain.specs.Schedule.{awaited_at, KnowsWaiters}

-- when a process runs next, if nothing more is done: now where it is runnable
abbrev pub will_run : Stamp → List Slot → Wait → Option Stamp
will_run now slots x = if x.runnable then Some now else activity slots x

-- what a process waits for, as the schedule keeps it
abbrev pub awaited_of : Wait → Awaited
awaited_of x = record { events = x.events; timeout = due_of x.timeout }

-- each process is due when it will run, and who isn't runnable is kept with what it waits for
pub record IsPlanned (s : Schedule) (w : World) : Type 0 where
  pub dues : s.agenda ≡ map (will_run w.stamp (update w).slots) w.waits
  pub awaited : (p : ℕ) → (wait_at w.waits p).runnable ≡ false → awaited_at s.awaited.items p ≡ awaited_of (wait_at w.waits p)
  pub known : (p : ℕ) → All (λ e. e < length s.waiters.items) (awaited_at s.awaited.items p).events
  pub knows : KnowsWaiters s

-- so is each but process p, which is at work
pub record IsPlannedBut (p : ℕ) (s : Schedule) (w : World) : Type 0 where
  pub count : length s.agenda ≡ length w.waits
  pub dues : (q : ℕ) → q ≢ p → due_in s.agenda q ≡ will_run w.stamp (update w).slots (wait_at w.waits q)
  pub awaited : (q : ℕ) → q ≢ p → (wait_at w.waits q).runnable ≡ false → awaited_at s.awaited.items q ≡ awaited_of (wait_at w.waits q)
  pub known : (q : ℕ) → All (λ e. e < length s.waiters.items) (awaited_at s.awaited.items q).events
  pub knows : KnowsWaiters s

-- an effect on event e, of a kind, makes it fire at other stamps
abbrev pub affects : ℕ → BoundEvent → Effect → Bool
affects e event.Own f = is_call_on e f
affects e k f = bears_on k f
