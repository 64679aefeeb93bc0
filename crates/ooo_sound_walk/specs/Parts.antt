-- The variables, channels and events of a walk are right.
use Rattle.std.specs.Prelude.{ℕ, ◌+◌, ◌<◌, List, [], ◌∷◌, length, All, if◌then◌else◌}
use Rattle.ooo_value.specs.declared.bound.BoundChannel.{BoundChannel}
use Rattle.ooo_value.specs.declared.bound.ChannelKind.TheVariants as channel
use Rattle.ooo_code.specs.Sound.{FitsChannel, FitsEvent, FitsVariable}
use Rattle.ooo_checked.specs.declared.unit.CheckedUnit.{CheckedUnit}
use Rattle.ooo_checked.specs.Things.{is_bool}
use Rattle.ooo_walk.specs.declared.state.Walk.{Walk}
use Rattle.ooo_walk.specs.declared.state.WalkedChannel.{WalkedChannel}
use Rattle.ooo_walk.specs.Texts.{walk_of}

-- the channels as the model has them
abbrev pub bounds_of : List WalkedChannel → List BoundChannel
bounds_of [] = []
bounds_of (c ∷ cs) = c.bound ∷ bounds_of cs

-- how far a channel's last event stands behind its first
abbrev pub last_event : BoundChannel → ℕ
last_event c = elim c.kind [ channel.Signal ↦ if is_bool c.value then 2 else 0 | channel.Fifo ↦ 1 ]

-- what a walk has declared is right
pub record FitsWalk (w : Walk) : Type 0 where
  pub variables : All FitsVariable w.variables
  pub channels : All FitsChannel (bounds_of w.channels)
  pub events : All (FitsEvent (bounds_of w.channels)) w.events
  pub firsts : All (λ c. c.first_event + last_event c.bound < length w.events) w.channels

-- that of each text
abbrev pub WalksAreRight : Type 0
WalksAreRight = (u : CheckedUnit) → FitsWalk (walk_of u)
