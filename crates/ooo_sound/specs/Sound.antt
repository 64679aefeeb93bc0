-- The model of a text without breaches is sound.
use Rattle.std.specs.Prelude.{◌≡◌, [], Ok}
use Rattle.ooo_syntax.specs.declared.unit.Unit.{Unit as UnitSpec}
use Rattle.ooo_bound.specs.declared.model.Bound.{Bound}
use Rattle.ooo_types.specs.Told.{breaches_of}
use Rattle.ooo_types.specs.Units.{unit_of}
use Rattle.ooo_elaborate.specs.Elaborated.{bound_of}
use Rattle.ooo_activation.specs.Sound.{IsSound}
use Rattle.ooo_sound_model.specs.Texts.{FitsUnit}

-- its bodies, names and calls are right
abbrev pub TextsFit : Type 0
TextsFit = (t : UnitSpec) → breaches_of t ≡ [] → FitsUnit (unit_of t).tree

-- so its model is sound, where it has one
abbrev pub ModelsAreSound : Type 0
ModelsAreSound = (t : UnitSpec) (b : Bound) → breaches_of t ≡ [] → bound_of (unit_of t).tree ≡ Ok b → IsSound b
