-- What is applied to a bank: effects, each with its stamp.
use Rattle.std.specs.Prelude.{ℕ, ◌==◌, List, [], ◌∷◌, ◌++◌, fold, filter, Bool, false, if◌then◌else◌}
use Rattle.ooo_time.specs.declared.stamp.Stamp.{Stamp}
use Rattle.ooo_time.specs.Stamps.{is_before}
use Rattle.ooo_value.specs.declared.bound.BoundChannel.{BoundChannel}
use Rattle.ooo_value.specs.declared.bound.BoundEvent.{BoundEvent}
use Rattle.ooo_code.specs.declared.activation.Effect.{Effect}
use Rattle.ooo_code.specs.declared.activation.Effect.TheVariants as effect
use Rattle.ooo_meaning.specs.World.{zero_stamp}

-- an effect, and the stamp at which it is applied
pub record Operation : Type 0 where
  pub at : Stamp
  pub effect : Effect

-- the channels and events of a bank, what was applied to them, in that order, and the stamp before which what was seen of
-- signals and the firings of events are forgotten
pub record Operations : Type 0 where
  pub channels : List BoundChannel
  pub events : List BoundEvent
  pub applied : List Operation
  pub below : Stamp

-- as a bank begins: nothing is applied, and nothing is forgotten
abbrev pub no_operations : List BoundChannel → List BoundEvent → Operations
no_operations channels events = record { channels = channels; events = events; applied = []; below = zero_stamp }

-- one more effect
abbrev pub after_effect : Stamp → Operations → Effect → Operations
after_effect at ops f = record ops { applied = ops.applied ++ record { at = at; effect = f } ∷ [] }

-- more effects, in their order
abbrev pub after_effects : Stamp → Operations → List Effect → Operations
after_effects at ops fs = fold (after_effect at) ops fs

-- those of the operations that were applied before a stamp
abbrev pub operations_before : Stamp → Operations → Operations
operations_before at ops = record ops { applied = filter (λ o. is_before o.at at) ops.applied }

-- the later of two stamps
abbrev pub later_of : Stamp → Stamp → Stamp
later_of s t = if is_before s t then t else s

-- once what was before a stamp is forgotten
abbrev pub after_forgetting : Stamp → Operations → Operations
after_forgetting below ops = record ops { below = later_of ops.below below }

-- the effect is on channel c
abbrev pub is_on : ℕ → Effect → Bool
is_on c (effect.Request d v) = c == d
is_on c (effect.Put d v) = c == d
is_on c (effect.Take d) = c == d
is_on c _ = false

-- the effect is a call on event e
abbrev pub is_call_on : ℕ → Effect → Bool
is_call_on e (effect.Notify d k) = e == d
is_call_on e (effect.Cancel d) = e == d
is_call_on e _ = false
