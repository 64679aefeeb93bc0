-- The names that a module declares, where nothing is wrong with them, and the members that declare them.
use Rattle.std.specs.Prelude.{◌≡◌, ℕ, ◌<◌, List, Some, None, IsSome, Contains, slice_get, ⊤}
use Rattle.ooo_syntax.specs.declared.module.Function.{Function}
use Rattle.ooo_syntax.specs.declared.module.Member.TheVariants as written
use Rattle.ooo_syntax.specs.declared.module.Module.{Module}
use Rattle.ooo_checked.specs.declared.denotation.Denotation.{Denotation}
use Rattle.ooo_checked.specs.declared.denotation.Thing.{Thing}
use Rattle.ooo_checked.specs.declared.denotation.Thing.TheVariants as thing
use Rattle.ooo_checked.specs.declared.module.CheckedChildren.{CheckedChildren}
use Rattle.ooo_checked.specs.declared.module.CheckedFunction.{CheckedFunction}
use Rattle.ooo_checked.specs.declared.module.CheckedMember.{CheckedMember}
use Rattle.ooo_checked.specs.declared.module.CheckedMember.TheVariants as member
use Rattle.ooo_checked.specs.Scopes.{Scope, meaning_of, size_of}
use Rattle.ooo_members.specs.Bodies.{function_of}
use Rattle.ooo_walk.specs.Plans.{function_at}
use Rattle.ooo_sound_walk.specs.Names.{things_of}
use Rattle.ooo_sound_text.specs.Modules.{IsFileScope, IsRead, names_of, scope_of, view_of}

-- a name stands among things where it says, if a module's member declares it; what a function gives is left out
abbrev pub StandsIn : List Thing → Denotation → Thing → Type 0
StandsIn ts d (thing.Variable k) = slice_get ts d.number ≡ Some (thing.Variable k)
StandsIn ts d (thing.Array k) = slice_get ts d.number ≡ Some (thing.Array k)
StandsIn ts d (thing.FixedArray k) = slice_get ts d.number ≡ Some (thing.FixedArray k)
StandsIn ts d (thing.Signal k) = slice_get ts d.number ≡ Some (thing.Signal k)
StandsIn ts d (thing.SignalPort direction k) = slice_get ts d.number ≡ Some (thing.SignalPort direction k)
StandsIn ts d (thing.Fifo k) = slice_get ts d.number ≡ Some (thing.Fifo k)
StandsIn ts d (thing.FifoIn k) = slice_get ts d.number ≡ Some (thing.FifoIn k)
StandsIn ts d (thing.FifoOut k) = slice_get ts d.number ≡ Some (thing.FifoOut k)
StandsIn ts d thing.Event = slice_get ts d.number ≡ Some thing.Event
StandsIn ts d (thing.Function gives params) = slice_get ts d.number ≡ Some (thing.Function None params)
StandsIn ts d _ = ⊤

-- each name of a module's scope stands among the things that its members declare
abbrev pub NamesStand : Type 0
NamesStand = (file : Scope) (m : Module) (ms : List CheckedMember) → IsFileScope file → IsRead file m ms →
    (name : List ℕ) → let d = meaning_of (scope_of m file) name in StandsIn (things_of ms) d d.thing

-- where a function stands among the things that members declare, there is its member
abbrev pub FunctionsAreThere : Type 0
FunctionsAreThere = (ms : List CheckedMember) (x params : ℕ) → slice_get (things_of ms) x ≡ Some (thing.Function None params) →
    IsSome (function_at (view_of ms) x)

-- a function of a module's members is one of the text's, and its name has this number
pub record IsFunctionOf (file : Scope) (m : Module) (x : ℕ) (f : CheckedFunction) : Type 0 where
  pub function : Function
  pub among : Contains m.members (written.Function function)
  pub is : (function_of function (scope_of m file)).tree ≡ f
  pub number : (meaning_of (scope_of m file) function.name.name).number ≡ x
  pub within : x < names_of m file

-- each function at a number is
abbrev pub FunctionsAreOfText : Type 0
FunctionsAreOfText = (file : Scope) (m : Module) (ms : List CheckedMember) → IsRead file m ms →
    (x : ℕ) (f : CheckedFunction) → function_at (view_of ms) x ≡ Some f → IsFunctionOf file m x f

-- the modules of a module's children stand before it in the file
abbrev pub ChildrenStandBefore : Type 0
ChildrenStandBefore = (file : Scope) (m : Module) (ms : List CheckedMember) → IsFileScope file → IsRead file m ms →
    (c : CheckedChildren) → Contains ms (member.Children c) → c.module_name.denotes.number < size_of file
