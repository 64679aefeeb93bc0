-- A constant time is at most the greatest one.
use Rattle.std.proofs.Common.{◌≡◌, arith, ◌≤◌, false, inl, inr}
use Rattle.std.specs.Prelude.{nat_lt, Result, Ok, Err, IfOk, ℤ, pos, negsuc}
use Rattle.std.proofs.lemmas.Bool.Decides.{leb_tells}
use Rattle.std.proofs.Math.Dec.{leb-suc-zero}
use Rattle.ooo_time.specs.declared.time.Scale.{Scale}
use Rattle.ooo_time.specs.declared.time.Time.{Time}
use Rattle.ooo_time.specs.Scales.{greatest_time}
use Rattle.ooo_value.specs.Operators.{Answer}
use Rattle.ooo_value.specs.Times.{ticks_in}
use Rattle.ooo_checked.specs.declared.stat.CheckedTime.{CheckedTime}
use Rattle.ooo_checked.specs.declared.stat.CheckedTime.TheVariants as time
use Rattle.ooo_constants.specs.declared.times.TimeBreach.{TimeBreach}
use Rattle.ooo_constants.specs.Meanings.{Constants}
use Rattle.ooo_constants.specs.Times.{time_by, time_of, time_of_ticks}
use Rattle.ooo_constants.specs.Values.{value_of}
use Rattle.ooo_numbers.specs.Exprs.{time_in}

abbrev pub IsInTime : Time → Type 0
IsInTime t = t.0 ≤ greatest_time

ticks_within : (z : ℤ) → IfOk (time_of_ticks z) IsInTime
ticks_within (pos n) =
    let z : nat_lt n 0 ≡ false = leb-suc-zero n in
    elim (leb_tells n greatest_time) [ inl h ↦ rw (z, h.0) h.1 | inr h ↦ rw (z, h.0) tt ]
ticks_within (negsuc n) = tt

amount_within : (a : Answer) (scale : Scale) → IfOk (time_by a scale) IsInTime
amount_within (Ok v) scale = ticks_within (ticks_in v scale)
amount_within (Err f) scale = tt

pub time_within : (c : Constants) (t : CheckedTime) → IfOk (time_of c t) IsInTime
time_within c (time.Zero at) = omega arith
time_within c (time.Made at e scale) = amount_within (value_of c e) scale
time_within c (time.Amount e scale) = amount_within (value_of c e) scale

counted_within : (r : Result Time TimeBreach) → IfOk r IsInTime → (time_in r).0 ≤ greatest_time
counted_within (Ok t) h = h
counted_within (Err what) h = omega arith

-- one with which something is wrong counts as none
pub fixed_within : (c : Constants) (t : CheckedTime) → (time_in (time_of c t)).0 ≤ greatest_time
fixed_within c t = counted_within (time_of c t) (time_within c t)
