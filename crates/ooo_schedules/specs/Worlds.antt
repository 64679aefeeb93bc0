-- The sequential scheduler's part that wakes processes: one stamp, runnable processes, waits, and what is pending of each event.
use Rattle.std.specs.Prelude.{◌≡◌, ℕ, ◌≤◌, Bool, true, false, not, ◌&&◌, ◌||◌, ◌==◌, List, [], ◌∷◌, Option, Some, None, if◌then◌else◌}
use Rattle.ooo_schedules.specs.Model.{Front, In, last}
use Rattle.ooo_time.specs.declared.stamp.Stamp.{Stamp}
use Rattle.ooo_time.specs.Stamps.{IsBefore}
use Rattle.ooo_schedules.specs.Delays.{NotAfter}
use Rattle.ooo_schedules.specs.Design.{Wait, slot, sort, model}
use Rattle.ooo_schedules.specs.Slots.{Event, settled, sooner_of, is_since}
use Rattle.ooo_time.specs.Stamps.{is_before, stamp_after}
use Rattle.ooo_value.specs.declared.bound.BoundEvent.{BoundEvent}
use Rattle.ooo_value.specs.declared.bound.BoundEvent.TheVariants as event
use Rattle.ooo_code.specs.declared.activation.Effect.{Effect}
use Rattle.ooo_code.specs.declared.activation.Effect.TheVariants as effect
use Rattle.ooo_schedules.specs.Program.{Left, Waits, Ended, Deed, Program, ActIn, time_out, wait_by, design}

pub record Waiting : Type 0 where
  pub timeout : Option Stamp
  pub events : List ℕ

pub record World : Type 0 where
  pub stamp : Stamp
  pub runnable : ℕ → Bool
  pub waits : ℕ → Option Waiting
  pub slots : ℕ → Option Stamp

-- a notification: the earlier of what is pending and of the new one; delta over timed is a case of it
abbrev pub slot_after : Stamp → ℕ → Option Stamp → List Effect → Option Stamp
slot_after s e slot [] = slot
slot_after s e slot (effect.Notify f k ∷ es) = slot_after s e (if f == e then Some (sooner_of Stamp is_before slot (stamp_after s k)) else slot) es
slot_after s e slot (effect.Cancel f ∷ es) = slot_after s e (if f == e then None else slot) es
slot_after s e slot (effect.Request c v ∷ es) = slot_after s e slot es
slot_after s e slot (effect.Put c v ∷ es) = slot_after s e slot es
slot_after s e slot (effect.Take c ∷ es) = slot_after s e slot es
slot_after s e slot (effect.Stop ∷ es) = slot_after s e slot es

-- a channel's event is left to the update
abbrev pub slot_by : Stamp → ℕ → BoundEvent → Option Stamp → List Effect → Option Stamp
slot_by s e event.Own slot es = slot_after s e slot es
slot_by s e (event.Changed c) slot es = slot
slot_by s e (event.Rise c) slot es = slot
slot_by s e (event.Fall c) slot es = slot
slot_by s e (event.Written c) slot es = slot
slot_by s e (event.Taken c) slot es = slot

abbrev pub waiting_left : Stamp → Left → Option Waiting
waiting_left s (Waits next time events) = Some (record { timeout = time_out s time; events = events })
waiting_left s Ended = None

-- the world after an activation of process q
abbrev pub after_turn : Program → World → ℕ → Deed → World
after_turn p w q d = record {
  stamp = w.stamp;
  runnable = λ r. if q == r then false else w.runnable r;
  waits = λ r. if q == r then waiting_left w.stamp d.left else w.waits r;
  slots = λ e. slot_by w.stamp e (p.origin e) (w.slots e) d.effects;
}

abbrev pub is_at : Stamp → Option Stamp → Bool
is_at s None = false
is_at s (Some t) = not (is_before s t) && not (is_before t s)

abbrev pub any_at : Stamp → (ℕ → Option Stamp) → List ℕ → Bool
any_at s slots [] = false
any_at s slots (e ∷ es) = is_at s (slots e) || any_at s slots es

abbrev pub wakes_at : Stamp → (ℕ → Option Stamp) → Option Waiting → Bool
wakes_at s slots None = false
wakes_at s slots (Some x) = is_at s x.timeout || any_at s slots x.events

-- all that is due at a stamp fires: the delta notification, and the timed one
abbrev pub fire_at : World → Stamp → World
fire_at w s = record {
  stamp = s;
  runnable = λ q. wakes_at s w.slots (w.waits q);
  waits = w.waits;
  slots = λ e. if is_at s (w.slots e) then None else w.slots e;
}

-- ---- the world and a log

abbrev pub event_of : (p : Program) → ℕ → List (ActIn p) → Event Stamp
event_of p e xs = (slot (design p) e (sort (design p) xs)).event

abbrev pub at_stamp : (p : Program) → Stamp → ℕ → List (ActIn p) → Event Stamp
at_stamp p s e xs = settled Stamp is_before s (event_of p e xs).fired (event_of p e xs).pending

-- a wait that no firing up to the stamp has ended
pub record Quiet (p : Program) (s : Stamp) (xs : List (ActIn p)) (w : Wait Stamp) : Type 0 where
  pub later : (u : Stamp) → w.timeout ≡ Some u → IsBefore s u
  pub since : (u : Stamp) → IsBefore s u → is_since Stamp is_before w.since u ≡ true
  pub none : (e : ℕ) (u : Stamp) → In e w.events → In u (at_stamp p s e xs).fired → is_since Stamp is_before w.since u ≡ true → ⊥

abbrev pub same_wait : Option (Wait Stamp) → Option Waiting
same_wait None = None
same_wait (Some w) = Some (record { timeout = w.timeout; events = w.events })

-- the world as it is in the evaluation at a stamp, where the processes below n had their turn
pub record Fits (p : Program) (w : World) (xs : List (ActIn p)) (n : ℕ) : Type 0 where
  pub own : (e : ℕ) → p.origin e ≡ event.Own → w.slots e ≡ (at_stamp p w.stamp e xs).pending
  pub past : (e : ℕ) (u : Stamp) → In u (at_stamp p w.stamp e xs).fired → NotAfter u w.stamp
  pub runs : (q : ℕ) → w.runnable q ≡ true → (n ≤ q) × (f : Front Stamp) × ((model (design p)).front xs q ≡ Some f) × (f.stamp ≡ w.stamp)
  pub waits : (q : ℕ) → w.runnable q ≡ false → w.waits q ≡ same_wait (wait_by p q (last q xs))
  pub quiet : (q : ℕ) → w.runnable q ≡ false → (x : Wait Stamp) → wait_by p q (last q xs) ≡ Some x → Quiet p w.stamp xs x
