-- How a run ends, and how a board that is over ends.
use Rattle.std.specs.Prelude.{◌≡◌, ℕ, ◌≤◌, true, false, List, [], Some, None}
use Rattle.ooo_schedules.specs.Model.{Front, In, State, Reported, IsLeast, front_of}
use Rattle.ooo_time.specs.declared.stamp.Stamp.{Stamp}
use Rattle.ooo_schedules.specs.Design.{model}
use Rattle.ooo_schedules.specs.Program.{Program, ActIn, design}

pub data Ending (p : Program) : Type 0 where
  Broke : ActIn p → Ending p
  Stopped : Stamp → Ending p
  Deltas : Stamp → Ending p
  Time : Ending p
  Idle : Ending p

abbrev pub StateOf : Program → Type 0
StateOf p = State (model (design p))

-- of what is reported nothing broke or stopped
pub record Unbroken (p : Program) (st : StateOf p) : Type 0 where
  pub breaks : (y : ActIn p) → In y st.log → Reported (model (design p)) st y → p.breaks y ≡ false
  pub stops : (y : ActIn p) → In y st.log → Reported (model (design p)) st y → p.stops y ≡ false

-- no process has a front that is in time
abbrev pub AllPast : (p : Program) → StateOf p → Type 0
AllPast p st = (q : ℕ) (f : Front Stamp) → front_of (model (design p)) st q ≡ Some f → f.stamp.time.0 ≤ p.stop.0 → ⊥

pub data BoardEnds (p : Program) (st : StateOf p) : Ending p → Type 0 where
  broke : (y : ActIn p) → In y st.log → Reported (model (design p)) st y → p.breaks y ≡ true → BoardEnds p st (Broke y)
  stopped : (y : ActIn p) → In y st.log → Reported (model (design p)) st y → p.stops y ≡ true → ((z : ActIn p) → In z st.log → Reported (model (design p)) st z → p.breaks z ≡ false) → BoardEnds p st (Stopped y.stamp)
  limited : (q : ℕ) (f : Front Stamp) → front_of (model (design p)) st q ≡ Some f → IsLeast (model (design p)) st q f → f.stamp.delta ≡ p.limit → f.stamp.time.0 ≤ p.stop.0 → Unbroken p st → BoardEnds p st (Deltas f.stamp)
  late : (q : ℕ) (f : Front Stamp) → front_of (model (design p)) st q ≡ Some f → AllPast p st → Unbroken p st → BoardEnds p st Time
  idle : ((q : ℕ) → front_of (model (design p)) st q ≡ None) → Unbroken p st → BoardEnds p st Idle

-- of a run: as of the board that has just its activations, all of which are reported
pub data RunEnds (p : Program) (zs : List (ActIn p)) : Ending p → Type 0 where
  run_broke : (y : ActIn p) → In y zs → p.breaks y ≡ true → RunEnds p zs (Broke y)
  run_stopped : (y : ActIn p) → In y zs → p.stops y ≡ true → ((z : ActIn p) → In z zs → p.breaks z ≡ false) → RunEnds p zs (Stopped y.stamp)
  run_limited :
      (q : ℕ) (f : Front Stamp) → (model (design p)).front zs q ≡ Some f → IsLeast (model (design p)) (record { log = zs; out = [] }) q f → f.stamp.delta ≡ p.limit → f.stamp.time.0 ≤ p.stop.0 →
      ((z : ActIn p) → In z zs → p.breaks z ≡ false) → ((z : ActIn p) → In z zs → p.stops z ≡ false) → RunEnds p zs (Deltas f.stamp)
  run_late :
      (q : ℕ) (f : Front Stamp) → (model (design p)).front zs q ≡ Some f → AllPast p (record { log = zs; out = [] }) → ((z : ActIn p) → In z zs → p.breaks z ≡ false) → ((z : ActIn p) → In z zs → p.stops z ≡ false) → RunEnds p zs Time
  run_idle : ((q : ℕ) → (model (design p)).front zs q ≡ None) → ((z : ActIn p) → In z zs → p.breaks z ≡ false) → ((z : ActIn p) → In z zs → p.stops z ≡ false) → RunEnds p zs Idle
