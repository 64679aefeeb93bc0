-- The breach that is told of a text: the least of all that are noted.
use Rattle.std.specs.Prelude.{◌≡◌, List, [], ◌∷◌, false, Option, Some, None, Result, Ok, Err, Contains, ◌⊎◌}
use Rattle.ooo_syntax.specs.declared.unit.Unit.{Unit as UnitSpec}
use Rattle.ooo_checked.specs.declared.breach.Breach.{Breach}
use Rattle.ooo_checked.specs.declared.breach.TypeError.{TypeError}
use Rattle.ooo_checked.specs.declared.breach.TypeError.TheVariants as error
use Rattle.ooo_checked.specs.Notes.{Note, Breaks, Calls, Waits, Triggers}
use Rattle.ooo_bodies.specs.Noting.{precedes}
use Rattle.ooo_erasure.specs.Units.{erased_unit}
use Rattle.ooo_types.specs.declared.checked.Checked.TheInside.{Inside}
use Rattle.ooo_types.specs.Units.{unit_of}

-- the breaches among what is noted
abbrev pub breaches_in : List Note → List Breach
breaches_in [] = []
breaches_in (Breaks what at ∷ ns) = record { what = what; at = at } ∷ breaches_in ns
breaches_in (Calls at n ∷ ns) = breaches_in ns
breaches_in (Waits at ∷ ns) = breaches_in ns
breaches_in (Triggers at ∷ ns) = breaches_in ns

-- all breaches of a text, in the order in which they are noted
abbrev pub breaches_of : UnitSpec → List Breach
breaches_of u = breaches_in (unit_of u).notes

-- a breach is one of these, and none of them stands earlier, or at its place with a lesser rank
pub record IsLeast (b : Breach) (bs : List Breach) : Type 0 where
  pub among : Contains bs b
  pub least : (c : Breach) → Contains bs c → precedes c b ≡ false

-- of these breaches this one is told, and of none no breach
abbrev pub IsTold : Option Breach → List Breach → Type 0
IsTold None bs = bs ≡ []
IsTold (Some b) bs = IsLeast b bs

-- an answer about the names and types of a text: the text itself where nothing is wrong with it, or the least of its
-- breaches; or memory ran out
abbrev pub IsAnswerTo : UnitSpec → Result UnitSpec TypeError → Type 0
IsAnswerTo u (Ok text) = (text ≡ u) × (breaches_of u ≡ [])
IsAnswerTo u (Err (error.Refused what at)) = IsLeast (record { what = what; at = at }) (breaches_of u)
IsAnswerTo u (Err error.OutOfMemory) = Unit

-- the text that a checked text was made from
abbrev pub text_of : Inside → UnitSpec
text_of c = erased_unit c.tree

-- what stands beside names and expressions is what that text says
abbrev pub IsOfItsText : Inside → Type 0
IsOfItsText c = c.tree ≡ (unit_of (text_of c)).tree

-- ---- what holds of breaches

-- a text has one breach that is told at most
abbrev pub HasOneBreach : Type 0
HasOneBreach = (u : UnitSpec) (b c : Breach) → IsLeast b (breaches_of u) → IsLeast c (breaches_of u) → b ≡ c

-- a text with a breach is not one with none
abbrev pub IsNotBoth : Type 0
IsNotBoth = (u : UnitSpec) (b : Breach) → IsLeast b (breaches_of u) → breaches_of u ≡ [] → ⊥

-- a text has no breach, or one that is told
abbrev pub IsEither : Type 0
IsEither = (u : UnitSpec) → (breaches_of u ≡ []) ⊎ ((b : Breach) × IsLeast b (breaches_of u))
