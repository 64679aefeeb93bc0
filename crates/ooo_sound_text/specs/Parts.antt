-- The scopes of a module's parts, and the events in its constructor, where nothing is wrong with it.
use Rattle.std.specs.Prelude.{◌≡◌, ℕ, List, Some, slice_get, true}
use Rattle.ooo_lexer.specs.declared.position.Position.{Position}
use Rattle.ooo_syntax.specs.declared.module.Function.{Function}
use Rattle.ooo_syntax.specs.declared.module.Module.{Module}
use Rattle.ooo_syntax.specs.declared.stat.Event.{Event}
use Rattle.ooo_checked.specs.declared.module.CheckedMember.{CheckedMember}
use Rattle.ooo_checked.specs.declared.module.CheckedSetup.TheVariants as setup
use Rattle.ooo_checked.specs.declared.stat.CheckedEvent.{CheckedEvent}
use Rattle.ooo_checked.specs.Notes.{trees, all_notes}
use Rattle.ooo_checked.specs.Scopes.{Scope, entered, size_of}
use Rattle.ooo_checked.specs.Stats.{events_of}
use Rattle.ooo_members.specs.Bodies.{params_of}
use Rattle.ooo_sound_text.specs.Modules.{IsInside, IsRead, scope_of, view_of}
use Rattle.ooo_sound_text.specs.Right.{AreRight}

-- the scope in which the statements of a function stand
abbrev pub body_scope : Function → Scope → Scope
body_scope f s = entered (params_of (size_of s) f.params (entered s)).scope

-- it is a part of the module's
abbrev pub BodiesAreInside : Type 0
BodiesAreInside = (f : Function) (s : Scope) → IsInside (body_scope f s) s

-- events are those of a part of a module, with which nothing is wrong
pub record AreEventsOf (file : Scope) (m : Module) (es : List CheckedEvent) : Type 0 where
  pub scope : Scope
  pub text : List Event
  pub is : trees (events_of true text scope) ≡ es
  pub right : AreRight (all_notes (events_of true text scope))
  pub inside : IsInside scope (scope_of m file)

-- the events of each `sensitive` of a module's constructor are
abbrev pub EventsAreOfText : Type 0
EventsAreOfText = (file : Scope) (m : Module) (ms : List CheckedMember) → IsRead file m ms →
    (place : ℕ) (at : Position) (es : List CheckedEvent) → slice_get (view_of ms).setups place ≡ Some (setup.Sensitive at es) →
    AreEventsOf file m es
