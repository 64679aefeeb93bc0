-- A body of a checked text, with numbers in place of names, fits the bound model where its names mean what they denote.
use Rattle.std.specs.Prelude.{◌≡◌, ◌<◌, List, length, All, Contains, Bool, false}
use Rattle.ooo_syntax.specs.declared.stat.Stat.{Stat}
use Rattle.ooo_syntax.specs.declared.stat.Event.{Event}
use Rattle.ooo_bound.specs.declared.model.Bound.{Bound}
use Rattle.ooo_bound.specs.declared.stat.BoundStat.{BoundStat}
use Rattle.ooo_checked.specs.declared.context.Context.{Context}
use Rattle.ooo_checked.specs.Scopes.{Scope}
use Rattle.ooo_checked.specs.Notes.{trees, all_notes}
use Rattle.ooo_checked.specs.Stats.{events_of, stats_of}
use Rattle.ooo_numbers.specs.Names.{Numbering, events_of as event_numbers_of}
use Rattle.ooo_numbers.specs.Stats.{stats_of as numbered_of}
use Rattle.ooo_activation.specs.Kinds.{simples_in, calls_of}
use Rattle.ooo_activation.specs.Sound.{FitsBody, NeverWaits}
use Rattle.ooo_sound_model.specs.Naming.{Leave, Agrees, HasEvents, MayAllBeNoted}

-- a body fits, calls only what it may call, and waits only if it may
pub record FitsWith (b : Bound) (l : Leave) (body : List BoundStat) : Type 0 where
  pub fits : FitsBody b body
  pub calls : All (Contains l.functions) (calls_of (simples_in body))
  pub waits : l.waits ≡ false → NeverWaits body

-- the statements of a body outside of loops
abbrev pub BodiesFit : Type 0
BodiesFit = (b : Bound) (n : Numbering) (l : Leave) (s : Scope) (cx : Context) (xs : List Stat) → HasEvents b n → Agrees b n l s →
    cx.in_loop ≡ false → MayAllBeNoted l (stats_of xs cx s).notes → FitsWith b l (numbered_of n (stats_of xs cx s).tree)

-- the events in `sensitive` or in a wait
abbrev pub EventsFit : Type 0
EventsFit = (b : Bound) (n : Numbering) (l : Leave) (s : Scope) (in_sensitive : Bool) (es : List Event) → HasEvents b n → Agrees b n l s →
    MayAllBeNoted l (all_notes (events_of in_sensitive es s)) →
    All (λ e. e < length b.events) (event_numbers_of n (trees (events_of in_sensitive es s)))
