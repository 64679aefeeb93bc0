-- What holds at each turn of the sequential run, and how it goes on: for a scheduler that is to make the same steps.
use Rattle.std.specs.Prelude.{◌≡◌, ◌≢◌, ℕ, suc, ◌≤◌, ◌⊎◌, true, false, [], ◌∷◌, Some}
use Rattle.ooo_schedules.specs.Model.{Front, In, last, ActOf, Log, Sequential, Kept, Earlier}
use Rattle.ooo_time.specs.declared.stamp.Stamp.{Stamp}
use Rattle.ooo_value.specs.declared.bound.BoundEvent.TheVariants as event
use Rattle.ooo_schedules.specs.Design.{Wait, model, sort}
use Rattle.ooo_schedules.specs.Cycles.{act_at, FromPlace}
use Rattle.ooo_schedules.specs.Program.{Program, Sound, wait_by, design}
use Rattle.ooo_schedules.specs.Worlds.{World, Waiting, Fits, fire_at}
use Rattle.ooo_schedules.specs.Updates.{Asks}
use Rattle.ooo_schedules.specs.Sequence.{Sched, after_act, update, next_cycle, NextStamp, AllLate, NoStop, Fires, begin, Starts}
use Rattle.ooo_schedules.specs.Endings.{Deltas, Time, Idle, RunEnds}
use Rattle.ooo_schedules.specs.Tables.{Tables, program}

-- in the evaluation, where the processes below q had their turn
pub record Going (p : Program) (s : Sched) (xs : Log (model (design p))) (q : ℕ) : Type 0 where
  pub fits : Fits p s.world xs q
  pub from : FromPlace (model (design p)) s.world.stamp q xs
  pub asks : (e : ℕ) → p.origin e ≢ event.Own → Asks p s.world.stamp xs e (s.values e) (s.asked e)
  pub run : Sequential (model (design p)) xs
  pub kept : Kept (model (design p)) xs
  pub within : s.world.stamp.time.0 ≤ p.stop.0
  pub below : s.world.stamp.delta ≡ p.limit → ⊥
  pub whole : (y : ActOf (model (design p))) → In y xs → p.breaks y ≡ false
  pub calm : (y : ActOf (model (design p))) → In y xs → p.stops y ≡ true → y.stamp ≡ s.world.stamp

-- process q, which is runnable, takes its turn: it has its front at the present stamp, after all that was done, and goes on
-- where its last activation left it
pub record Takes (p : Program) (s : Sched) (xs : Log (model (design p))) (q : ℕ) : Type 0 where
  pub front : Front Stamp
  pub is : (model (design p)).front xs q ≡ Some front
  pub stamp : front.stamp ≡ s.world.stamp
  pub wait : Wait Stamp
  pub waits : wait_by p q (last q xs) ≡ Some wait
  pub segment : front.segment ≡ wait.segment
  pub ahead : (y : ActOf (model (design p))) → In y xs → Earlier (model (design p)) y.stamp y.process front.stamp q
  pub sorted : sort (design p) (act_at (model (design p)) xs q front ∷ xs) ≡ act_at (model (design p)) xs q front ∷ sort (design p) xs
  pub goes :
      p.breaks (act_at (model (design p)) xs q front) ≡ false →
      Going p (after_act p s q (act_at (model (design p)) xs q front)) (act_at (model (design p)) xs q front ∷ xs) (suc q)

-- how the run begins, passes a process, takes one, ends an evaluation, and comes to the next one
pub record GoesOn (p : Program) : Type 0 where
  pub begins : Going p (begin p) [] 0
  pub skips : (s : Sched) (xs : Log (model (design p))) (q : ℕ) → Going p s xs q → s.world.runnable q ≡ false → Going p s xs (suc q)
  pub takes : (s : Sched) (xs : Log (model (design p))) (q : ℕ) → Going p s xs q → s.world.runnable q ≡ true → Takes p s xs q
  pub idle : (s : Sched) (xs : Log (model (design p))) → Going p s xs p.processes → (q : ℕ) → s.world.runnable q ≡ false
  pub moves :
      (s : Sched) (xs : Log (model (design p))) (w : World) (u : Stamp) → Going p s xs p.processes → NoStop p xs → Fires (update p s) w → NextStamp w u → u.time.0 ≤ p.stop.0 → (u.delta ≡ p.limit → ⊥) →
      Going p (next_cycle p s w u) xs 0

-- a process waits for a stamp
abbrev pub IsDue : World → ℕ → Stamp → Type 0
IsDue w q u = (x : Waiting) × (w.waits q ≡ Some x) × ((x.timeout ≡ Some u) ⊎ ((e : ℕ) × In e x.events × (w.slots e ≡ Some u)))

abbrev pub NoneDue : World → Type 0
NoneDue w = (q : ℕ) (u : Stamp) → IsDue w q u → ⊥

-- how it ends where no activation broke or stopped: where nothing is due, where all that is due is late, and at the limit
pub record ComesToEnd (p : Program) : Type 0 where
  pub idles : (s : Sched) (xs : Log (model (design p))) (w : World) → Going p s xs p.processes → NoStop p xs → Fires (update p s) w → NoneDue w → RunEnds p xs Idle
  pub lates : (s : Sched) (xs : Log (model (design p))) (w : World) → Going p s xs p.processes → NoStop p xs → Fires (update p s) w → AllLate p.stop w → (q : ℕ) (u : Stamp) → IsDue w q u → RunEnds p xs Time
  pub limits :
      (s : Sched) (xs : Log (model (design p))) (w : World) (u : Stamp) → Going p s xs p.processes → NoStop p xs → Fires (update p s) w → NextStamp w u → u.time.0 ≤ p.stop.0 → u.delta ≡ p.limit →
      (q : ℕ) → (fire_at w u).runnable q ≡ true → RunEnds p xs (Deltas u)

-- the laws, for programs whose activations read an R
abbrev pub EveryStep : Type 0 → Type 0
EveryStep R = (t : Tables R) → Sound (program t) → Starts (program t) → GoesOn (program t)

abbrev pub EveryEnding : Type 0 → Type 0
EveryEnding R = (t : Tables R) → Sound (program t) → ComesToEnd (program t)
