-- The sequential run by cycles, over the world and the channels' events: evaluation, update, what is due next.
use Rattle.std.specs.Prelude.{◌≡◌, ℕ, suc, ◌<◌, ◌≤◌, Bool, true, false, List, ◌∷◌, Option, Some, None}
use Rattle.ooo_schedules.specs.Model.{Front, In}
use Rattle.ooo_time.specs.declared.stamp.Stamp.{Stamp}
use Rattle.ooo_time.specs.Stamps.{IsBefore}
use Rattle.ooo_schedules.specs.Delays.{NotAfter}
use Rattle.ooo_schedules.specs.Design.{Wait, model}
use Rattle.ooo_schedules.specs.Cycles.{act_at}
use Rattle.ooo_value.specs.declared.bound.BoundEvent.{BoundEvent}
use Rattle.ooo_value.specs.declared.bound.BoundEvent.TheVariants as event
use Rattle.ooo_value.specs.declared.values.Value.{Value}
use Rattle.ooo_time.specs.declared.time.Time.{Time}
use Rattle.ooo_meaning.specs.World.{zero_stamp}
use Rattle.ooo_schedules.specs.Program.{Program, ActIn, design}
use Rattle.ooo_schedules.specs.Worlds.{Waiting, World, after_turn, fire_at, is_at, same_wait}
use Rattle.ooo_schedules.specs.Updates.{asked_by, noted_by, value_by, note}

pub record Sched : Type 0 where
  pub world : World
  pub values : ℕ → Value
  pub asked : ℕ → Option Value

abbrev pub after_act : (p : Program) → Sched → ℕ → ActIn p → Sched
after_act p s q x = record { world = after_turn p s.world q (p.act x); values = s.values; asked = λ e. asked_by (p.origin e) (s.asked e) (p.act x).effects }

abbrev pub slot_updated : BoundEvent → Option Stamp → Option Stamp → Option Stamp
slot_updated event.Own old new = old
slot_updated (event.Changed c) old new = new
slot_updated (event.Rise c) old new = new
slot_updated (event.Fall c) old new = new
slot_updated (event.Written c) old new = new
slot_updated (event.Taken c) old new = new

abbrev pub update : Program → Sched → World
update p s = record {
  stamp = s.world.stamp;
  runnable = s.world.runnable;
  waits = s.world.waits;
  slots = λ e. slot_updated (p.origin e) (s.world.slots e) (note (noted_by (p.origin e) (s.values e) (s.asked e)) s.world.stamp);
}

-- the start of the cycle at a stamp, after the world in which something is due there
abbrev pub next_cycle : Program → Sched → World → Stamp → Sched
next_cycle p s w t = record { world = fire_at w t; values = λ e. value_by (p.origin e) (s.values e) (s.asked e); asked = λ e. None }

abbrev pub act_of : (p : Program) → List (ActIn p) → ℕ → Front Stamp → ActIn p
act_of p xs q f = act_at (model (design p)) xs q f

abbrev pub front_at_log : (p : Program) → List (ActIn p) → ℕ → Option (Front Stamp)
front_at_log p xs q = (model (design p)).front xs q

-- the turns of an evaluation from a process on, all of them
pub data Evaluates (p : Program) : ℕ → Sched → List (ActIn p) → Sched → List (ActIn p) → Type 0 where
  ends : {q : ℕ} {s : Sched} {xs : List (ActIn p)} → q ≡ p.processes → Evaluates p q s xs s xs
  skips : {q : ℕ} {s t : Sched} {xs ys : List (ActIn p)} → s.world.runnable q ≡ false → Evaluates p (suc q) s xs t ys → Evaluates p q s xs t ys
  takes :
      {q : ℕ} {s t : Sched} {xs ys : List (ActIn p)} (f : Front Stamp) → s.world.runnable q ≡ true → front_at_log p xs q ≡ Some f → p.breaks (act_of p xs q f) ≡ false →
      Evaluates p (suc q) (after_act p s q (act_of p xs q f)) (act_of p xs q f ∷ xs) t ys → Evaluates p q s xs t ys

-- up to an activation that ends the run
pub data Breaks (p : Program) : ℕ → Sched → List (ActIn p) → List (ActIn p) → Type 0 where
  skip_on : {q : ℕ} {s : Sched} {xs ys : List (ActIn p)} → s.world.runnable q ≡ false → Breaks p (suc q) s xs ys → Breaks p q s xs ys
  take_on :
      {q : ℕ} {s : Sched} {xs ys : List (ActIn p)} (f : Front Stamp) → s.world.runnable q ≡ true → front_at_log p xs q ≡ Some f → p.breaks (act_of p xs q f) ≡ false →
      Breaks p (suc q) (after_act p s q (act_of p xs q f)) (act_of p xs q f ∷ xs) ys → Breaks p q s xs ys
  here : {q : ℕ} {s : Sched} {xs : List (ActIn p)} (f : Front Stamp) → s.world.runnable q ≡ true → front_at_log p xs q ≡ Some f → p.breaks (act_of p xs q f) ≡ true → Breaks p q s xs (act_of p xs q f ∷ xs)

-- a later stamp before which nothing is due
pub record NextStamp (w : World) (t : Stamp) : Type 0 where
  pub later : IsBefore w.stamp t
  pub slots : (e : ℕ) (u : Stamp) → w.slots e ≡ Some u → NotAfter t u
  pub times : (q : ℕ) (x : Waiting) (u : Stamp) → w.waits q ≡ Some x → x.timeout ≡ Some u → NotAfter t u

-- all that a process waits for is due after the stop time, if it is due
pub record AllLate (stop : Time) (w : World) : Type 0 where
  pub times : (q : ℕ) (x : Waiting) (u : Stamp) → w.waits q ≡ Some x → x.timeout ≡ Some u → u.time.0 ≤ stop.0 → ⊥
  pub events : (q : ℕ) (x : Waiting) (e : ℕ) (u : Stamp) → w.waits q ≡ Some x → In e x.events → w.slots e ≡ Some u → u.time.0 ≤ stop.0 → ⊥

abbrev pub NoStop : (p : Program) → List (ActIn p) → Type 0
NoStop p ys = (y : ActIn p) → In y ys → p.stops y ≡ false

-- notifications for which nobody waits, one after the other; the first may be those of the next delta
pub data Fires : World → World → Type 0 where
  no_more : {w : World} → Fires w w
  unheard : {w v : World} (u : Stamp) → NextStamp w u → ((q : ℕ) → (fire_at w u).runnable q ≡ false) → Fires (fire_at w u) v → Fires w v

-- a run from the start of a cycle on, to the log of all its activations
pub data RunsTo (p : Program) : Sched → List (ActIn p) → List (ActIn p) → Type 0 where
  faults : {s : Sched} {xs ys : List (ActIn p)} → Breaks p 0 s xs ys → RunsTo p s xs ys
  stopped : {s : Sched} {xs ys : List (ActIn p)} (t : Sched) (y : ActIn p) → Evaluates p 0 s xs t ys → In y ys → p.stops y ≡ true → RunsTo p s xs ys
  late : {s : Sched} {xs ys : List (ActIn p)} (t : Sched) (w : World) → Evaluates p 0 s xs t ys → NoStop p ys → Fires (update p t) w → AllLate p.stop w → RunsTo p s xs ys
  limited : {s : Sched} {xs ys : List (ActIn p)} (t : Sched) (w : World) (u : Stamp) (q : ℕ) → Evaluates p 0 s xs t ys → NoStop p ys → Fires (update p t) w → NextStamp w u → u.delta ≡ p.limit → (fire_at w u).runnable q ≡ true → RunsTo p s xs ys
  goes : {s : Sched} {xs zs : List (ActIn p)} (t : Sched) (w : World) (u : Stamp) (ys : List (ActIn p)) → Evaluates p 0 s xs t ys → NoStop p ys → Fires (update p t) w → NextStamp w u → u.time.0 ≤ p.stop.0 → (u.delta ≡ p.limit → ⊥) → RunsTo p (next_cycle p t w u) ys zs → RunsTo p s xs zs

-- ---- as a simulation starts

abbrev pub starts_now : Option (Wait Stamp) → Bool
starts_now None = false
starts_now (Some w) = is_at zero_stamp w.timeout

abbrev pub begin : Program → Sched
begin p = record {
  world = record { stamp = zero_stamp; runnable = λ q. starts_now (p.start q); waits = λ q. same_wait (p.start q); slots = λ e. None };
  values = p.first_value;
  asked = λ e. None;
}

-- a process is ready at time zero, or waits on its static events since before it
pub record Starts (p : Program) : Type 0 where
  pub since : (q : ℕ) (w : Wait Stamp) → p.start q ≡ Some w → w.since ≡ None
  pub ready : (q : ℕ) (w : Wait Stamp) (u : Stamp) → p.start q ≡ Some w → w.timeout ≡ Some u → u ≡ zero_stamp
  pub limit : 0 < p.limit
