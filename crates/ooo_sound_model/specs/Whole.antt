-- A bound model is sound, by what is asked of its text.
use Rattle.std.specs.Prelude.{◌≡◌, ℕ, Ok, Some, slice_get}
use Rattle.ooo_bound.specs.declared.model.Bound.{Bound}
use Rattle.ooo_checked.specs.declared.unit.CheckedUnit.{CheckedUnit}
use Rattle.ooo_walk.specs.declared.state.Walk.{Walk}
use Rattle.ooo_walk.specs.declared.state.WalkedPort.{WalkedPort}
use Rattle.ooo_walk.specs.Texts.{file_of, walk_of}
use Rattle.ooo_elaborate.specs.Bindings.{channels_of, links_of}
use Rattle.ooo_elaborate.specs.Elaborated.{bound_of}
use Rattle.ooo_activation.specs.Sound.{IsSound}
use Rattle.ooo_sound_model.specs.Bodies.{AreRegistered, FitInstances}
use Rattle.ooo_sound_model.specs.Texts.{FitsUnit}

-- a port is bound to a channel in the end
pub record EndsAt (w : Walk) (p : ℕ) : Type 0 where
  pub channel : ℕ
  pub is : slice_get (channels_of (links_of w).ends (links_of w).ends) p ≡ Some (Some channel)

-- each port of a walk is
abbrev pub PortsEnd : Walk → Type 0
PortsEnd w = (p : ℕ) (port : WalkedPort) → slice_get w.ports p ≡ Some port → EndsAt w p

-- where a text has a model, each port is
abbrev pub AllPortsEnd : Type 0
AllPortsEnd = (u : CheckedUnit) (b : Bound) → bound_of u ≡ Ok b → PortsEnd (walk_of u)

-- the processes of each text are registered
abbrev pub ProcessesAreRegistered : Type 0
ProcessesAreRegistered = (u : CheckedUnit) → AreRegistered (file_of u) (walk_of u)

-- the bodies of each instance fit the model
abbrev pub BodiesOfTextsFit : Type 0
BodiesOfTextsFit = (u : CheckedUnit) (b : Bound) → bound_of u ≡ Ok b → FitsUnit u → PortsEnd (walk_of u) → FitInstances u b

-- the model of a text is sound
abbrev pub SoundByParts : Type 0
SoundByParts = (u : CheckedUnit) (b : Bound) → bound_of u ≡ Ok b → FitsUnit u → IsSound b
