-- The time of a value and a unit (IEEE 1666-2011, 5.11).
use Rattle.std.specs.Prelude.{ℤ, pos, ◌*ℤ◌, ◌≤ℤ◌, Bool, ◌&&◌, if◌then◌else◌, int_le, unsigned_abs, Result, Ok, Err}
use Rattle.ooo_time.specs.declared.time.Scale.{Scale}
use Rattle.ooo_time.specs.declared.time.Time.{Time}
use Rattle.ooo_time.specs.Scales.{ticks_of, greatest_time}
use Rattle.ooo_value.specs.declared.operators.Fault.{Fault}
use Rattle.ooo_value.specs.declared.operators.Fault.TheVariants.{BadTime}
use Rattle.ooo_value.specs.declared.values.Value.{Value}
use Rattle.ooo_value.specs.Values.{number_of}

-- how many ticks so many units have
abbrev pub ticks_in : Value → Scale → ℤ
ticks_in amount unit = number_of amount *ℤ pos (ticks_of unit)

-- so many ticks are a time that a model may name: from 0 to the greatest one
abbrev pub IsTime : ℤ → Type 0
IsTime z = (pos 0 ≤ℤ z) × (z ≤ℤ pos greatest_time)

-- the same as a test
abbrev pub is_time : ℤ → Bool
is_time z = int_le (pos 0) z && int_le z (pos greatest_time)

-- the time of a value and a unit, or the fault in its place
abbrev pub time_of : Value → Scale → Result Time Fault
time_of amount unit =
    if is_time (ticks_in amount unit) then Ok (record { 0 = unsigned_abs (ticks_in amount unit) }) else Err BadTime
