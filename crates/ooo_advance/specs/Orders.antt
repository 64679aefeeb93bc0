-- The order of delays.
use Rattle.std.specs.Prelude.{◌≡◌, ◌≤◌, ◌⊎◌, Option, Some}
use Rattle.ooo_time.specs.declared.delay.Delay.{Delay}

-- one delay is at most another: by time, then by delta cycles
pub record AtMost (d e : Delay) : Type 0 where
  pub time : d.time.0 ≤ e.time.0
  pub deltas : d.time.0 ≡ e.time.0 → d.deltas ≤ e.deltas

-- a delay is known, which is at most this one
pub record HasAtMost (known : Option Delay) (delay : Delay) : Type 0 where
  pub has : Delay
  pub is : known ≡ Some has
  pub at_most : AtMost has delay

-- the lesser of two delays, of which the first may be missing
pub record IsLesser (known : Option Delay) (other lesser : Delay) : Type 0 where
  pub one_of : (known ≡ Some lesser) ⊎ (lesser ≡ other)
  pub first : (d : Delay) → known ≡ Some d → AtMost lesser d
  pub second : AtMost lesser other

-- the least of the delays of which a fact holds, or none where it holds of none
pub record IsLeastOf (P : Delay → Type 0) (least : Option Delay) : Type 0 where
  pub holds : (d : Delay) → least ≡ Some d → P d
  pub at_most : (d : Delay) → P d → HasAtMost least d
