-- Measures of functions that fall along calls.
use Rattle.std.specs.Prelude.{◌≡◌, ℕ, ◌<◌, List, length, false, Some, Contains, slice_get}
use Rattle.ooo_calls.specs.declared.call.Call.{Call}
use Rattle.ooo_calls.specs.Cycles.{is_on_cycle}
use Rattle.ooo_bound.specs.declared.model.BoundFunction.{BoundFunction}
use Rattle.ooo_activation.specs.Sound.{AreRanked, Calls}

-- a call leads to a function of less
pub record Measured (cs : List Call) : Type 0 where
  pub measure : ℕ → ℕ
  pub falls : (c : Call) → Contains cs c → measure c.to < measure c.from

-- no call lies on a cycle
abbrev pub HasNoCycle : List Call → Type 0
HasNoCycle cs = (c : Call) → Contains cs c → is_on_cycle cs c ≡ false

abbrev pub AcyclicFalls : Type 0
AcyclicFalls = (cs : List Call) → HasNoCycle cs → Measured cs

-- a measure falls along each call of functions of a model, which is there
abbrev pub FallsIn : List BoundFunction → (ℕ → ℕ) → Type 0
FallsIn functions m = (f g : ℕ) (function : BoundFunction) → slice_get functions f ≡ Some function → Calls function.body g →
    (g < length functions) × (m g < m f)

abbrev pub MeasuredAreRanked : Type 0
MeasuredAreRanked = (functions : List BoundFunction) (m : ℕ → ℕ) → FallsIn functions m → AreRanked functions
