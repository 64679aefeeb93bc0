-- A checked text without its additions is the text that was checked.
use Rattle.std.specs.Prelude.{◌≡◌}
use Rattle.ooo_syntax.specs.declared.unit.Unit.{Unit as UnitSpec}
use Rattle.ooo_erasure.specs.Units.{erased_unit}
use Rattle.ooo_types.specs.Units.{unit_of}

-- each text, whatever its names denote
abbrev pub ErasesTexts : Type 0
ErasesTexts = (u : UnitSpec) → erased_unit (unit_of u).tree ≡ u
