-- How a module of a text is read behind the names of its file.
use Rattle.std.specs.Prelude.{◌≡◌, ℕ, ◌-◌, ◌<◌, List, ◌⊎◌, ⊤}
use Rattle.ooo_syntax.specs.declared.module.Module.{Module}
use Rattle.ooo_checked.specs.declared.denotation.Denotation.{Denotation}
use Rattle.ooo_checked.specs.declared.denotation.Resolved.{Resolved}
use Rattle.ooo_checked.specs.declared.denotation.Thing.{Thing}
use Rattle.ooo_checked.specs.declared.denotation.Thing.TheVariants as thing
use Rattle.ooo_checked.specs.declared.module.CheckedMember.{CheckedMember}
use Rattle.ooo_checked.specs.Scopes.{Scope, entered, meaning_of, size_of}
use Rattle.ooo_members.specs.Declarations.{members_names}
use Rattle.ooo_members.specs.Known.{Modules}
use Rattle.ooo_types.specs.Modules.{module_of}
use Rattle.ooo_walk.specs.Plans.{Viewed, plan_of, view_by}
use Rattle.ooo_sound_text.specs.Right.{AreRight}

-- ---- the file

-- what a name of the file may be that declares n names: a module among them, a constant, or nothing
abbrev pub IsOfFile : (n : ℕ) → Denotation → Thing → Type 0
IsOfFile n d (thing.Module params) = d.number < n
IsOfFile n d (thing.FileConstant k) = ⊤
IsOfFile n d thing.Nothing = ⊤
IsOfFile n d _ = ⊥

-- each name of a scope is one of the file's
abbrev pub IsFileScope : Scope → Type 0
IsFileScope s = (name : List ℕ) → let d = meaning_of s name in IsOfFile (size_of s) d d.thing

-- ---- modules

-- the names of the file, and those that the members of a module declare
abbrev pub scope_of : Module → (file : Scope) → Scope
scope_of m file = (members_names (size_of file) m.members (entered file)).scope

-- how many names they declare
abbrev pub names_of : Module → (file : Scope) → ℕ
names_of m file = size_of (scope_of m file) - size_of file

-- a module with these members, as it is viewed wherever it stands in its file
abbrev pub view_of : List CheckedMember → Viewed
view_of members = view_by members (plan_of 0 members)

-- behind these names of the file a module is read as these members, and nothing is wrong with it
pub record IsRead (file : Scope) (m : Module) (members : List CheckedMember) : Type 0 where
  pub modules : Modules
  pub name : Resolved
  pub is : (module_of modules name m file).tree.members ≡ members
  pub right : AreRight (module_of modules name m file).notes

-- ---- parts of a module

-- the things that only a part of a module names
abbrev pub IsOwn : Thing → Type 0
IsOwn (thing.Parameter k) = ⊤
IsOwn thing.ModuleName = ⊤
IsOwn _ = ⊥

-- in a part of a module each name means what it means in the module, or is the part's own
abbrev pub IsInside : (part module_scope : Scope) → Type 0
IsInside part s = (name : List ℕ) → (meaning_of part name ≡ meaning_of s name) ⊎ IsOwn (meaning_of part name).thing
