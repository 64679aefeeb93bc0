-- What the laws of the scheduler speak of.
use Rattle.std.specs.Prelude.{◌≡◌, ℕ, suc, ◌+◌, ◌-◌, ◌*◌, ◌<◌, ◌≤◌, List, [], ◌∷◌, map}
use Rattle.ooo_events.specs.Slots.{Slot, Nothing, NextDelta, AtTime}
use Rattle.ooo_code.specs.declared.limits.Limits.{Limits}
use Rattle.ooo_code.specs.Outcomes.{View, Outcome, Activate}
use Rattle.ooo_meaning.specs.World.{World, Wait}
use Rattle.ooo_meaning.specs.Sequence.{State}

-- ---- two activations that are alike

-- process p does the same, and is left at related places
pub record SameOutcome {K L : Type 0} (R : ℕ → K → L → Type 0) (p : ℕ) (a : Outcome K) (b : Outcome L) : Type 0 where
  pub deed : a.deed ≡ b.deed
  pub next : R p a.next b.next

-- from related places they do the same, whatever they see
pub record AreAlike {K L : Type 0} (R : ℕ → K → L → Type 0) (f : Activate K) (g : Activate L) : Type 0 where
  pub at : (p : ℕ) (k : K) (l : L) (v : View) → R p k l → SameOutcome R p (f p k v) (g p l v)

-- as many places, and related ones of each process; the first are of process 0
abbrev pub SamePlaces : {K L : Type 0} → (R : ℕ → K → L → Type 0) → List K → List L → Type 0
SamePlaces R [] [] = Unit {0}
SamePlaces R (k ∷ ks) (l ∷ ls) = R 0 k l × SamePlaces (λ p. R (suc p)) ks ls
SamePlaces R ks ls = ⊥

-- the same world, and related places
pub record SameState {K L : Type 0} (R : ℕ → K → L → Type 0) (s : State K) (t : State L) : Type 0 where
  pub world : s.world ≡ t.world
  pub places : SamePlaces R s.places t.places

-- ---- that a run ends

-- nothing is pending, or something at a later time
abbrev pub IsLater : ℕ → Slot → Type 0
IsLater now Nothing = Unit {0}
IsLater now (NextDelta made) = ⊥
IsLater now (AtTime t) = now < t.0

-- each slot has nothing pending, or something at a later time
abbrev pub AllLater : ℕ → List Slot → Type 0
AllLater now [] = Unit {0}
AllLater now (x ∷ xs) = IsLater now x × AllLater now xs

-- the time-outs of all processes
abbrev pub timeouts : List Wait → List Slot
timeouts waits = map (λ x. x.timeout) waits

-- a world between two cycles: its stamp is within the limits, and all that is pending is later
pub record IsBetween (limits : Limits) (w : World) : Type 0 where
  pub time : w.stamp.time.0 ≤ limits.stop.0
  pub delta : w.stamp.delta < limits.deltas
  pub slots : AllLater w.stamp.time.0 w.slots
  pub waits : AllLater w.stamp.time.0 (timeouts w.waits)

-- no fewer cycles than may follow
abbrev pub cycles_left : Limits → World → ℕ
cycles_left limits w = (limits.stop.0 - w.stamp.time.0) * (limits.deltas + 1) + (limits.deltas - w.stamp.delta)
