-- A body without breaches calls functions of its scope alone.
use Rattle.std.specs.Prelude.{ℕ, List, All, Contains, ⊤}
use Rattle.ooo_syntax.specs.declared.stat.Stat.{Stat}
use Rattle.ooo_checked.specs.declared.context.Context.{Context}
use Rattle.ooo_checked.specs.declared.denotation.Denotation.{Denotation}
use Rattle.ooo_checked.specs.declared.denotation.Thing.{Thing}
use Rattle.ooo_checked.specs.declared.denotation.Thing.TheVariants as thing
use Rattle.ooo_checked.specs.Scopes.{Scope, meaning_of}
use Rattle.ooo_checked.specs.Stats.{stats_of}
use Rattle.ooo_constants.specs.Bodies.{body_calls}
use Rattle.ooo_sound_text.specs.Right.{AreRight}

-- a name that denotes a function denotes one of these numbers
abbrev pub IsAmong : List ℕ → Denotation → Thing → Type 0
IsAmong functions d (thing.Function gives params) = Contains functions d.number
IsAmong functions d _ = ⊤

-- each name of a scope does
abbrev pub FunctionsAreAmong : List ℕ → Scope → Type 0
FunctionsAreAmong functions s = (name : List ℕ) → let d = meaning_of s name in IsAmong functions d d.thing

-- where nothing is wrong with a body, each function that it calls is one of its scope's
abbrev pub CallsAreOfScope : Type 0
CallsAreOfScope = (functions : List ℕ) (s : Scope) (cx : Context) (xs : List Stat) → FunctionsAreAmong functions s →
    AreRight (stats_of xs cx s).notes → All (Contains functions) (body_calls (stats_of xs cx s).tree)
