-- The calls that a body without breaches makes are noted.
use Rattle.std.specs.Prelude.{List, All, Contains}
use Rattle.ooo_syntax.specs.declared.stat.Stat.{Stat}
use Rattle.ooo_checked.specs.declared.context.Context.{Context}
use Rattle.ooo_checked.specs.Scopes.{Scope}
use Rattle.ooo_checked.specs.Stats.{stats_of}
use Rattle.ooo_constants.specs.Bodies.{body_calls}
use Rattle.ooo_sound_model.specs.Naming.{Leave, MayAllBeNoted}

-- where nothing is wrong with a body, and each call that is noted of it may be made, it calls only what may be called
abbrev pub CallsAreNoted : Type 0
CallsAreNoted = (l : Leave) (s : Scope) (cx : Context) (xs : List Stat) → MayAllBeNoted l (stats_of xs cx s).notes →
    All (Contains l.calls) (body_calls (stats_of xs cx s).tree)
