-- The time of an amount, by the sign of the amount.
use Rattle.std.proofs.Common.{◌≡◌, ◌∙◌, ap, sym, refl, ℕ, zero, suc, ◌*◌, ◌<◌, arith, Bool, true, false, ◌&&◌, if◌then◌else◌, Result, Ok, Err, ℤ, pos, negsuc, neg_ℤ, ◌*ℤ◌, int_lt, nat_lt, nat_le, unsigned_abs}
use Rattle.ooo_time.specs.declared.time.Scale.{Scale}
use Rattle.ooo_time.specs.declared.time.Scale.TheVariants.{Ps, Ns, Us, Ms, Sec}
use Rattle.ooo_time.specs.declared.time.Time.{Time}
use Rattle.ooo_time.specs.Scales.{greatest_time, ticks_of}
use Rattle.ooo_value.specs.declared.operators.Fault.{Fault}
use Rattle.ooo_value.specs.declared.operators.Fault.TheVariants.{BadTime}
use Rattle.ooo_value.specs.declared.values.Value.{Value}
use Rattle.ooo_value.specs.Times.{is_time, ticks_in, time_of}
use Rattle.ooo_value.specs.Values.{number_of}
use Rattle.ooo_constants.specs.declared.times.TimeBreach.TheVariants.{Bad, TooLarge}
use Rattle.ooo_constants.specs.Times.{counted_by, time_of_ticks}

-- so many ticks as a time, or a fault
abbrev time_or_fault : ℤ → Result Time Fault
time_or_fault z = if is_time z then Ok (record { 0 = unsigned_abs z }) else Err BadTime

-- no natural number is below 0
not_below : (m : ℕ) → nat_lt m 0 ≡ false
not_below m = grind arith

from_zero : (m : ℕ) → nat_le 0 m ≡ true
from_zero m = grind arith

-- by the answer of the test whether the number of ticks is small enough
fitting : (fits : Bool) (t : Time) →
    (if fits then Ok t else Err TooLarge) ≡ counted_by false (if fits then Ok t else Err BadTime)
fitting true t = refl
fitting false t = refl

-- a natural number of ticks
natural : (m : ℕ) → time_of_ticks (pos m) ≡ counted_by false (time_or_fault (pos m))
natural m =
    let t : Time = record { 0 = m } in
    let small : Bool = nat_le m greatest_time in
    ap (λ b. if b then Err Bad else (if small then Ok t else Err TooLarge)) (not_below m)
    ∙ fitting small t
    ∙ ap (λ b. counted_by false (if (b && small) then Ok t else Err BadTime)) (sym (from_zero m))

-- a negative number of ticks
negative : (m : ℕ) → 0 < m → time_of_ticks (neg_ℤ (pos m)) ≡ counted_by true (time_or_fault (neg_ℤ (pos m)))
negative zero h = grind arith
negative (suc m) h = refl

-- an amount times the ticks of a unit
counted : (z : ℤ) (k : ℕ) → 0 < k → time_of_ticks (z *ℤ pos k) ≡ counted_by (int_lt z (pos 0)) (time_or_fault (z *ℤ pos k))
counted (pos n) k h =
    natural (n * k) ∙ ap (λ b. counted_by b (time_or_fault (pos (n * k)))) (sym (not_below n))
counted (negsuc n) k h = negative (suc n * k) (grind arith)

-- a unit has ticks
has_ticks : (unit : Scale) → 0 < ticks_of unit
has_ticks Ps = omega arith
has_ticks Ns = omega arith
has_ticks Us = omega arith
has_ticks Ms = omega arith
has_ticks Sec = omega arith

-- the time of an amount is the one that there is, or else its breach by whether the amount is negative
pub ticks_counted : (v : Value) (unit : Scale) →
    time_of_ticks (ticks_in v unit) ≡ counted_by (int_lt (number_of v) (pos 0)) (time_of v unit)
ticks_counted v unit = counted (number_of v) (ticks_of unit) (has_ticks unit)
