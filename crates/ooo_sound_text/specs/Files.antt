-- Which module stands at which number of a text, where nothing is wrong with its names and types.
use Rattle.std.specs.Prelude.{◌≡◌, ℕ, ◌<◌, List, length, Contains, ◌⊎◌}
use Rattle.ooo_syntax.specs.declared.module.Module.{Module}
use Rattle.ooo_syntax.specs.declared.unit.Unit.{Unit as UnitSpec}
use Rattle.ooo_checked.specs.declared.denotation.Resolved.{Resolved}
use Rattle.ooo_checked.specs.declared.module.CheckedArg.{CheckedArg}
use Rattle.ooo_checked.specs.declared.module.CheckedMember.{CheckedMember}
use Rattle.ooo_checked.specs.declared.unit.CheckedMainItem.TheVariants as main_item
use Rattle.ooo_checked.specs.Scopes.{Scope, size_of}
use Rattle.ooo_types.specs.Units.{unit_of}
use Rattle.ooo_walk.specs.Plans.{Viewed, empty_view, view_at}
use Rattle.ooo_walk.specs.Texts.{file_of}
use Rattle.ooo_sound_text.specs.Modules.{IsFileScope, IsRead, view_of}
use Rattle.ooo_sound_text.specs.Right.{AreRight}

-- it is the view of a module that is read behind so many names of its file
pub record IsReadAt (n : ℕ) (v : Viewed) : Type 0 where
  pub file : Scope
  pub size : size_of file ≡ n
  pub names : IsFileScope file
  pub m : Module
  pub members : List CheckedMember
  pub read : IsRead file m members
  pub is : view_of members ≡ v

-- at each number of a text stands a module that is read behind so many names, or none
abbrev pub ModulesAreRead : Type 0
ModulesAreRead = (t : UnitSpec) → AreRight (unit_of t).notes →
    (n : ℕ) → let v = view_at (file_of (unit_of t).tree) n in (v ≡ empty_view) ⊎ IsReadAt n v

-- the modules of the instances in `sc_main` are among the names of the file
abbrev pub InstancesAreFiled : Type 0
InstancesAreFiled = (t : UnitSpec) → AreRight (unit_of t).notes →
    (m r : Resolved) (args : List CheckedArg) → Contains (unit_of t).tree.main.items (main_item.Instance m r args) →
    m.denotes.number < length (file_of (unit_of t).tree).plans
