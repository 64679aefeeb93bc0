-- Which events of channels are notified.
use Rattle.std.specs.Prelude.{◌≡◌, ℕ, List, Bool, Some, slice_get}
use Rattle.ooo_value.specs.declared.bound.BoundEvent.{BoundEvent}
use Rattle.ooo_value.specs.declared.bound.BoundEvent.TheVariants as event
use Rattle.ooo_segments.specs.Numbers.{IsIn}

-- an event is of a signal that is written, or a fifo that is read or written
abbrev pub IsCalled : (changed taken given : List Bool) → BoundEvent → Type 0
IsCalled changed taken given event.Own = ⊥
IsCalled changed taken given (event.Changed c) = IsIn changed c
IsCalled changed taken given (event.Rise c) = IsIn changed c
IsCalled changed taken given (event.Fall c) = IsIn changed c
IsCalled changed taken given (event.Written c) = IsIn given c
IsCalled changed taken given (event.Taken c) = IsIn taken c

-- the event of this number is notified for the next delta cycle, as one of a channel
pub record IsCalledAt (changed taken given : List Bool) (events : List BoundEvent) (e : ℕ) : Type 0 where
  pub event : BoundEvent
  pub is : slice_get events e ≡ Some event
  pub called : IsCalled changed taken given event
