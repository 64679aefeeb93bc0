-- The calls that are noted of a body without breaches are those that it makes.
use Rattle.std.specs.Prelude.{◌≡◌, List, true, All, Contains, ⊤}
use Rattle.std.specs.List.{AllByRecursion}
use Rattle.ooo_syntax.specs.declared.stat.Stat.{Stat}
use Rattle.ooo_checked.specs.declared.context.Context.{Context}
use Rattle.ooo_checked.specs.Notes.{Note, Breaks, Calls, Waits, Triggers}
use Rattle.ooo_checked.specs.Scopes.{Scope}
use Rattle.ooo_checked.specs.Stats.{stats_of}
use Rattle.ooo_constants.specs.Bodies.{body_calls}
use Rattle.ooo_sound_model.specs.Naming.{Leave, MayAllBeNoted}

-- it is no breach, and a wait only where it may be; a call may be of any function
abbrev pub MayBeWritten : Leave → Note → Type 0
MayBeWritten l (Breaks what at) = ⊥
MayBeWritten l (Calls at f) = ⊤
MayBeWritten l (Waits at) = l.waits ≡ true
MayBeWritten l (Triggers at) = ⊤

-- each of these
abbrev pub MayAllBeWritten : Leave → List Note → Type 0
MayAllBeWritten l ns = AllByRecursion (MayBeWritten l) ns

-- where a body calls only what it may call, so do its notes
abbrev pub CallsAreWritten : Type 0
CallsAreWritten = (l : Leave) (s : Scope) (cx : Context) (xs : List Stat) → MayAllBeWritten l (stats_of xs cx s).notes →
    All (Contains l.calls) (body_calls (stats_of xs cx s).tree) → MayAllBeNoted l (stats_of xs cx s).notes
