-- That operations on different channels and events don't touch one another.
use Rattle.std.specs.Prelude.{◌≡◌, ℕ, false, List, filter, slice_get}
use Rattle.std.specs.List.{list_any}
use Rattle.ooo_time.specs.declared.stamp.Stamp.{Stamp}
use Rattle.ooo_value.specs.declared.bound.BoundEvent.{BoundEvent}
use Rattle.ooo_code.specs.declared.activation.Effect.{Effect}
use Rattle.ooo_channels.specs.Operations.{Operation, Operations, is_on, is_call_on, after_effects, operations_before}
use Rattle.ooo_channels.specs.Cycles.{cycle_of}
use Rattle.ooo_channels.specs.Calls.{own_calls, channel_calls, channel_of, bears_on}

-- the operations on channel c, in their order
abbrev pub operations_on : ℕ → Operations → List Operation
operations_on c ops = filter (λ o. is_on c o.effect) ops.applied

-- the operations that are calls on event e, in their order
abbrev pub calls_on : ℕ → Operations → List Operation
calls_on e ops = filter (λ o. is_call_on e o.effect) ops.applied

-- the same operations on channel c, which starts alike
pub record SameOn (c : ℕ) (ops others : Operations) : Type 0 where
  pub channel : slice_get ops.channels c ≡ slice_get others.channels c
  pub operations : operations_on c ops ≡ operations_on c others

-- the operations on a channel alone say how it stands, also by those before any stamp, and when its events fire
pub record IsChannelSame (c : ℕ) (ops others : Operations) : Type 0 where
  pub cycle : cycle_of ops c ≡ cycle_of others c
  pub before : (at : Stamp) → cycle_of (operations_before at ops) c ≡ cycle_of (operations_before at others) c
  pub events : (k : BoundEvent) → channel_of k ≡ c → channel_calls ops k ≡ channel_calls others k

-- what effects at a stamp don't name stands after them as before: each channel that none is on, each event of a channel
-- that none bears on, and each event of the model's own that none is a call on
pub record LeavesOthers (at : Stamp) (ops : Operations) (effects : List Effect) : Type 0 where
  pub channels : (c : ℕ) → list_any (is_on c) effects ≡ false → cycle_of (after_effects at ops effects) c ≡ cycle_of ops c
  pub before : (c : ℕ) (t : Stamp) → list_any (is_on c) effects ≡ false → cycle_of (operations_before t (after_effects at ops effects)) c ≡ cycle_of (operations_before t ops) c
  pub notices : (k : BoundEvent) → list_any (bears_on k) effects ≡ false → channel_calls (after_effects at ops effects) k ≡ channel_calls ops k
  pub own : (e : ℕ) → list_any (is_call_on e) effects ≡ false → own_calls (after_effects at ops effects) e ≡ own_calls ops e

-- each channel stands alike, also by the operations before any stamp, and each event fires alike
pub record AreAllSame (ops others : Operations) : Type 0 where
  pub channels : (c : ℕ) → cycle_of ops c ≡ cycle_of others c
  pub before : (c : ℕ) (at : Stamp) → cycle_of (operations_before at ops) c ≡ cycle_of (operations_before at others) c
  pub notices : (k : BoundEvent) → channel_calls ops k ≡ channel_calls others k
  pub own : (e : ℕ) → own_calls ops e ≡ own_calls others e
