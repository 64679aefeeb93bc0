-- Walks over edges with delays, and what they reach.
use Rattle.std.specs.Prelude.{◌≡◌, ℕ, ◌<◌, ◌⊎◌}
use Rattle.ooo_time.specs.declared.stamp.Stamp.{Stamp}
use Rattle.ooo_time.specs.declared.delay.Delay.{Delay}
use Rattle.ooo_time.specs.Stamps.{IsBefore}
use Rattle.ooo_time.specs.Delays.{IsLess, joined, advanced}

abbrev pub no_delay : Delay
no_delay = record { time = record { 0 = 0 }; deltas = 0 }

abbrev pub one_delta : Delay
one_delta = record { time = record { 0 = 0 }; deltas = 1 }

-- the delay is one of some time, or of a delta cycle at least
abbrev pub TakesTime : Delay → Type 0
TakesTime k = (0 < k.time.0) ⊎ (0 < k.deltas)

-- the edges of a design: each takes time
pub record Edges : Type 1 where
  pub Edge : ℕ → Delay → ℕ → Type 0
  pub takes_time : (a : ℕ) (k : Delay) (b : ℕ) → Edge a k b → TakesTime k

-- the sums of the walks from a segment
pub data Walk (g : Edges) (a : ℕ) : Delay → ℕ → Type 0 where
  stay : Walk g a no_delay a
  go : {k : Delay} {b : ℕ} (j : Delay) (c : ℕ) → Walk g a k b → g.Edge b j c → Walk g a (joined k j) c

pub record IsLeastWalk (g : Edges) (a b : ℕ) (k : Delay) : Type 0 where
  pub walk : Walk g a k b
  pub least : (j : Delay) → Walk g a j b → IsLess j k → ⊥

abbrev pub NotAfter : Stamp → Stamp → Type 0
NotAfter s t = IsBefore s t ⊎ (s ≡ t)

-- an edge leads from a segment at a stamp to another that isn't after a stamp
abbrev pub LeadsTo : Edges → ℕ → Stamp → ℕ → Stamp → Type 0
LeadsTo g a s b t = (k : Delay) × g.Edge a k b × NotAfter (advanced s k) t

-- some walk leads from a segment at a stamp to another that isn't after a stamp
abbrev pub Reach : Edges → ℕ → Stamp → ℕ → Stamp → Type 0
Reach g a s b t = (k : Delay) × Walk g a k b × NotAfter (advanced s k) t
