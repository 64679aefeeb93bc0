-- Times that are known before the simulation (IEEE 1666-2011, 5.11).
use Rattle.std.specs.Prelude.{Bool, true, false, ◌&&◌, ℤ, pos, int_lt, int_le, unsigned_abs, if◌then◌else◌, Result, Ok, Err}
use Rattle.ooo_lexer.specs.declared.position.Position.{Position}
use Rattle.ooo_time.specs.declared.time.Scale.{Scale}
use Rattle.ooo_time.specs.declared.time.Time.{Time}
use Rattle.ooo_time.specs.Scales.{greatest_time}
use Rattle.ooo_value.specs.declared.operators.Fault.{Fault}
use Rattle.ooo_value.specs.Operators.{Answer}
use Rattle.ooo_value.specs.Times.{ticks_in}
use Rattle.ooo_checked.specs.declared.denotation.Thing.{Thing}
use Rattle.ooo_checked.specs.declared.denotation.Thing.TheVariants as thing
use Rattle.ooo_checked.specs.declared.expr.CheckedExpr.{CheckedExpr, CheckedExpr-F, fold-CheckedExpr}
use Rattle.ooo_checked.specs.declared.expr.CheckedExpr.TheOpen as layer
use Rattle.ooo_checked.specs.declared.stat.CheckedTime.{CheckedTime}
use Rattle.ooo_checked.specs.declared.stat.CheckedTime.TheVariants as time
use Rattle.ooo_checked.specs.Places.{first_of}
use Rattle.ooo_constants.specs.declared.times.TimeBreach.{TimeBreach}
use Rattle.ooo_constants.specs.declared.times.TimeBreach.TheVariants.{Bad, TooLarge}
use Rattle.ooo_constants.specs.Meanings.{Constants}
use Rattle.ooo_constants.specs.Values.{value_of}

-- the time of so many ticks, or what is wrong with them
abbrev pub time_of_ticks : ℤ → Result Time TimeBreach
time_of_ticks z =
    if int_lt z (pos 0) then Err Bad
    else (if int_le z (pos greatest_time) then Ok (record { 0 = unsigned_abs z }) else Err TooLarge)

-- the time of an amount in a unit, or what is wrong with it: the amount faults, is negative or too great
abbrev pub time_by : Answer → Scale → Result Time TimeBreach
time_by (Ok v) scale = time_of_ticks (ticks_in v scale)
time_by (Err f) scale = Err Bad

-- the same by the time that there is, or by whether the amount is negative
abbrev pub counted_by : (is_negative : Bool) → Result Time Fault → Result Time TimeBreach
counted_by is_negative (Ok t) = Ok t
counted_by is_negative (Err f) = if is_negative then Err Bad else Err TooLarge

-- no ticks
abbrev pub no_time : Time
no_time = record { 0 = 0 }

-- a constant time
abbrev pub time_of : Constants → CheckedTime → Result Time TimeBreach
time_of c (time.Zero at) = Ok no_time
time_of c (time.Made at e scale) = time_by (value_of c e) scale
time_of c (time.Amount e scale) = time_by (value_of c e) scale

-- where what is wrong with a time stands: at the first token of its amount
abbrev pub place_of : CheckedTime → Position
place_of (time.Zero at) = at
place_of (time.Made at e scale) = first_of e
place_of (time.Amount e scale) = first_of e

-- ---- in the body of a function

-- the name has one value in a body: a constant of the file, or a member that keeps its value
abbrev pub is_fixed_thing : Thing → Bool
is_fixed_thing (thing.FileConstant k) = true
is_fixed_thing (thing.Fixed k is_static) = true
is_fixed_thing _ = false

abbrev pub fixed_step : CheckedExpr-F Bool → Bool
fixed_step (layer.Number k n) = true
fixed_step (layer.Truth b at) = true
fixed_step (layer.Name k r) = is_fixed_thing r.denotes.thing
fixed_step (layer.Paren k at e) = e
fixed_step (layer.Index k r i) = false
fixed_step (layer.Call k r args) = false
fixed_step (layer.Member k r after m arg) = false
fixed_step (layer.Prefix k at op e) = e
fixed_step (layer.Cast k at t e) = e
fixed_step (layer.Conversion k t e) = e
fixed_step (layer.Binary k op a b) = a && b
fixed_step (layer.Choose k c a b) = c && a && b

-- the expression, in a body, has one value
unfoldable pub is_fixed : CheckedExpr → Bool
is_fixed = fold-CheckedExpr Bool fixed_step

-- the time, in a body, is known before the simulation
abbrev pub is_fixed_time : CheckedTime → Bool
is_fixed_time (time.Zero at) = true
is_fixed_time (time.Made at e scale) = is_fixed e
is_fixed_time (time.Amount e scale) = is_fixed e
