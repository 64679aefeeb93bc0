-- What is asked of a text, so that its model is sound: what names, types and calls without breaches are to give.
use Rattle.std.specs.Prelude.{◌≡◌, ℕ, List, [], Bool, true, false, None, Some, IsSome, All, slice_get, ⊤}
use Rattle.ooo_syntax.specs.declared.stat.Event.{Event}
use Rattle.ooo_syntax.specs.declared.stat.Stat.{Stat}
use Rattle.ooo_lexer.specs.declared.position.Position.{Position}
use Rattle.ooo_value.specs.declared.bound.ProcessKind.{ProcessKind}
use Rattle.ooo_checked.specs.declared.context.Context.{Context}
use Rattle.ooo_checked.specs.declared.denotation.Denotation.{Denotation}
use Rattle.ooo_checked.specs.declared.denotation.Thing.{Thing}
use Rattle.ooo_checked.specs.declared.denotation.Thing.TheVariants as thing
use Rattle.ooo_checked.specs.declared.module.CheckedFunction.{CheckedFunction}
use Rattle.ooo_checked.specs.declared.module.CheckedSetup.TheVariants as setup
use Rattle.ooo_checked.specs.declared.stat.CheckedEvent.{CheckedEvent}
use Rattle.ooo_checked.specs.declared.stat.CheckedStat.{CheckedStat}
use Rattle.ooo_checked.specs.declared.unit.CheckedUnit.{CheckedUnit}
use Rattle.ooo_checked.specs.Notes.{trees, all_notes}
use Rattle.ooo_checked.specs.Scopes.{Scope, meaning_of}
use Rattle.ooo_checked.specs.Stats.{events_of, stats_of}
use Rattle.ooo_constants.specs.Bodies.{body_calls}
use Rattle.ooo_walk.specs.Plans.{Viewed, function_at, view_at}
use Rattle.ooo_walk.specs.Reach.{has}
use Rattle.ooo_walk.specs.Texts.{file_of}
use Rattle.ooo_elaborate.specs.Functions.{functions_in}
use Rattle.ooo_sound_model.specs.Naming.{Leave, MayAllBeNoted}
use Rattle.ooo_sound_model.specs.Written.{MayAllBeWritten}
use Rattle.ooo_sound_walk.specs.Names.{StandBefore, things_of}
use Rattle.ooo_sound_model.specs.Bodies.{HasOrder, IsRegistration, is_thread}

-- ---- names

-- a module declares this thing at the place among its names that a name denotes
abbrev pub IsDeclared : Viewed → Denotation → Thing → Type 0
IsDeclared v d t = slice_get (things_of v.members) d.number ≡ Some t

-- a name that denotes what a module may declare
abbrev pub Stands : Viewed → Denotation → Thing → Type 0
Stands v d (thing.Variable k) = IsDeclared v d (thing.Variable k)
Stands v d (thing.Array k) = IsDeclared v d (thing.Array k)
Stands v d (thing.FixedArray k) = IsDeclared v d (thing.FixedArray k)
Stands v d (thing.Signal k) = IsDeclared v d (thing.Signal k)
Stands v d (thing.SignalPort direction k) = IsDeclared v d (thing.SignalPort direction k)
Stands v d (thing.Fifo k) = IsDeclared v d (thing.Fifo k)
Stands v d (thing.FifoIn k) = IsDeclared v d (thing.FifoIn k)
Stands v d (thing.FifoOut k) = IsDeclared v d (thing.FifoOut k)
Stands v d thing.Event = IsDeclared v d thing.Event
Stands v d (thing.Function gives params) = IsDeclared v d (thing.Function None params)
Stands v d _ = ⊤

-- each name of a scope
abbrev pub AllStand : Viewed → Scope → Type 0
AllStand v s = (name : List ℕ) → let d = meaning_of s name in Stands v d d.thing

-- ---- bodies

-- where nothing is called, and a wait may be or not
abbrev pub no_calls : (waits : Bool) → Leave
no_calls waits = record { calls = []; functions = []; waits = waits }

-- a body is that of a text in a scope of its module: nothing is wrong with it, it waits only if it may, and it calls functions
-- of the module
pub record IsText (v : Viewed) (waits : Bool) (body : List CheckedStat) : Type 0 where
  pub scope : Scope
  pub context : Context
  pub text : List Stat
  pub outside : context.in_loop ≡ false
  pub is : (stats_of text context scope).tree ≡ body
  pub notes : MayAllBeWritten (no_calls waits) (stats_of text context scope).notes
  pub stand : AllStand v scope
  pub calls : All (λ x. IsSome (function_at v x)) (body_calls body)

-- events are those of a text, with which nothing is wrong
pub record AreEvents (v : Viewed) (es : List CheckedEvent) : Type 0 where
  pub scope : Scope
  pub text : List Event
  pub is : trees (events_of true text scope) ≡ es
  pub notes : MayAllBeNoted (no_calls false) (all_notes (events_of true text scope))
  pub stand : AllStand v scope

-- ---- modules

-- the functions that processes reach by calls don't wait, nor do methods; no call lies on a cycle
pub record FitsText (v : Viewed) : Type 0 where
  pub functions : (x : ℕ) (f : CheckedFunction) → has (functions_in v) x ≡ true → function_at v x ≡ Some f → IsText v false f.body
  pub processes : (k : ProcessKind) (place x : ℕ) (f : CheckedFunction) → IsRegistration k x (slice_get v.setups place) →
      function_at v x ≡ Some f → IsText v (is_thread k) f.body
  pub sensitive : (place : ℕ) (at : Position) (es : List CheckedEvent) → slice_get v.setups place ≡ Some (setup.Sensitive at es) →
      AreEvents v es
  pub order : HasOrder v

-- of each module of a text; and each module that is named stands before
pub record FitsUnit (u : CheckedUnit) : Type 0 where
  pub before : StandBefore u
  pub modules : (n : ℕ) → FitsText (view_at (file_of u) n)
