-- The update of channels, as far as it notifies events: for each event of a channel the value after the last update and what was asked in this cycle.
use Rattle.std.specs.Prelude.{◌≡◌, ℕ, Bool, true, false, not, ◌&&◌, List, Option, Some, None, if◌then◌else◌}
use Rattle.ooo_time.specs.declared.stamp.Stamp.{Stamp}
use Rattle.ooo_value.specs.declared.bound.BoundEvent.{BoundEvent}
use Rattle.ooo_value.specs.declared.bound.BoundEvent.TheVariants as event
use Rattle.ooo_value.specs.declared.values.Value.{Value}
use Rattle.ooo_code.specs.declared.activation.Effect.{Effect}
use Rattle.ooo_code.specs.Expressions.{no_value}
use Rattle.ooo_code.specs.Channels.{same_value}
use Rattle.ooo_meaning.specs.World.{next_delta}
use Rattle.ooo_schedules.specs.Model.{In}
use Rattle.ooo_schedules.specs.Design.{slot, sort}
use Rattle.ooo_schedules.specs.Program.{Program, ActIn, any_value, rises, falls, requested, has_put, has_taken, value_or, is_some, touches, design}
use Rattle.ooo_schedules.specs.Worlds.{at_stamp}

-- the value requested last; for a fifo, whether something was put or taken
abbrev pub asked_by : BoundEvent → Option Value → List Effect → Option Value
asked_by event.Own old es = old
asked_by (event.Changed c) old es = requested c old es
asked_by (event.Rise c) old es = requested c old es
asked_by (event.Fall c) old es = requested c old es
asked_by (event.Written c) old es = if has_put c es then Some no_value else old
asked_by (event.Taken c) old es = if has_taken c es then Some no_value else old

-- the value differs from that after the last update, and is one that an event tells
abbrev pub differs : (Value → Bool) → Value → Option Value → Bool
differs test value None = false
differs test value (Some v) = not (same_value value v) && test v

-- whether the update notifies the event
abbrev pub noted_by : BoundEvent → Value → Option Value → Bool
noted_by event.Own value asked = false
noted_by (event.Changed c) value asked = differs any_value value asked
noted_by (event.Rise c) value asked = differs rises value asked
noted_by (event.Fall c) value asked = differs falls value asked
noted_by (event.Written c) value asked = is_some asked
noted_by (event.Taken c) value asked = is_some asked

-- the value after the update
abbrev pub value_by : BoundEvent → Value → Option Value → Value
value_by event.Own value asked = value
value_by (event.Changed c) value asked = value_or value asked
value_by (event.Rise c) value asked = value_or value asked
value_by (event.Fall c) value asked = value_or value asked
value_by (event.Written c) value asked = value
value_by (event.Taken c) value asked = value

abbrev pub note : Bool → Stamp → Option Stamp
note true s = Some (next_delta s)
note false s = None

-- what a log says of a channel's event in the cycle at a stamp: nothing was asked, or one activation asked
pub data Asks (p : Program) (s : Stamp) (xs : List (ActIn p)) (e : ℕ) (value : Value) : Option Value → Type 0 where
  nobody : (at_stamp p s e xs).pending ≡ None → (slot (design p) e (sort (design p) xs)).value ≡ value → Asks p s xs e value None
  somebody :
      {asked : Option Value} (y : ActIn p) → In y xs → y.stamp ≡ s → touches p e y ≡ true →
      (at_stamp p s e xs).pending ≡ note (noted_by (p.origin e) value asked) s → (slot (design p) e (sort (design p) xs)).value ≡ value_by (p.origin e) value asked → Asks p s xs e value asked
