-- What is known of a text as far as it has been walked, and how it grows.
use Rattle.std.specs.Prelude.{ℕ, ◌+◌, ◌-◌, ◌<◌, nat_lt, nat_le, List, [], ◌∷◌, ◌++◌, length, take, Bool, true, false, Option, Some, None, is_some, slice_get, Result, Ok, Err, if◌then◌else◌}
use Rattle.ooo_lexer.specs.declared.position.Position.{Position}
use Rattle.ooo_value.specs.declared.bound.BoundChannel.{BoundChannel}
use Rattle.ooo_value.specs.declared.bound.BoundEvent.{BoundEvent}
use Rattle.ooo_value.specs.declared.bound.BoundEvent.TheVariants as event
use Rattle.ooo_value.specs.declared.bound.BoundVariable.{BoundVariable}
use Rattle.ooo_value.specs.declared.bound.ChannelKind.{ChannelKind}
use Rattle.ooo_value.specs.declared.bound.ChannelKind.TheVariants as channel
use Rattle.ooo_value.specs.declared.kinds.Kind.{Kind}
use Rattle.ooo_value.specs.declared.kinds.Kind.TheVariants as kind
use Rattle.ooo_value.specs.declared.operators.Fault.{Fault}
use Rattle.ooo_value.specs.declared.values.Value.{Value}
use Rattle.ooo_value.specs.Operators.{Answer}
use Rattle.ooo_value.specs.Values.{conversion_of}
use Rattle.ooo_checked.specs.declared.denotation.Thing.{Thing}
use Rattle.ooo_checked.specs.declared.expr.CheckedExpr.{CheckedExpr}
use Rattle.ooo_checked.specs.Places.{first_of}
use Rattle.ooo_checked.specs.Things.{is_bool}
use Rattle.ooo_constants.specs.declared.meaning.Meaning.{Meaning}
use Rattle.ooo_constants.specs.declared.meaning.Meaning.TheVariants as meaning
use Rattle.ooo_constants.specs.declared.times.TimeBreach.{TimeBreach}
use Rattle.ooo_constants.specs.declared.times.TimeBreach.TheVariants as time_breach
use Rattle.ooo_constants.specs.Meanings.{Constants, zero_of}
use Rattle.ooo_constants.specs.Values.{value_of}
use Rattle.ooo_walk.specs.declared.refusal.ElabBreach.{ElabBreach}
use Rattle.ooo_walk.specs.declared.refusal.ElabBreach.TheVariants as what
use Rattle.ooo_walk.specs.declared.refusal.Refusal.{Refusal}
use Rattle.ooo_walk.specs.declared.state.Evaluated.{Evaluated}
use Rattle.ooo_walk.specs.declared.state.Here.{Here}
use Rattle.ooo_walk.specs.declared.state.ProcessForm.{ProcessForm}
use Rattle.ooo_walk.specs.declared.state.Walk.{Walk}
use Rattle.ooo_walk.specs.declared.state.WalkedChannel.{WalkedChannel}

-- ---- refusals

-- the first refusal counts
abbrev pub refused : ElabBreach → Position → (name : List ℕ) → Walk → Walk
refused what at name w = elim w.refusal [
  | None ↦ record w { refusal = Some (record { what = what; at = at; names = name ∷ [] }) }
  | Some r ↦ w
]

-- once something is refused, nothing more is walked
abbrev pub unless_refused : (Walk → Walk) → Walk → Walk
unless_refused f w = if is_some w.refusal then w else f w

-- a constant expression that faults is refused
abbrev pub after_answer : Answer → Position → (name : List ℕ) → Walk → Walk
after_answer (Ok v) at name w = w
after_answer (Err f) at name w = refused what.BadConstant at name w

-- what is wrong with a constant time is refused
abbrev pub as_breach : TimeBreach → ElabBreach
as_breach time_breach.Bad = what.BadConstant
as_breach time_breach.TooLarge = what.TimeTooLarge

-- ---- names

-- identifiers joined by dots (IEEE 1666-2011, 5.16.5)
abbrev pub joined : (path name : List ℕ) → List ℕ
joined [] name = name
joined (b ∷ path) name = (b ∷ path) ++ 46 ∷ name

-- the full name of a part of what is walked
abbrev pub full_name : Walk → List ℕ → List ℕ
full_name w name = joined w.here.name name

-- what the next name of what is walked means
abbrev pub meant : Meaning → Walk → Walk
meant m w = record w { here = record w.here { members = w.here.members ++ m ∷ [] } }

-- ---- constants

-- what is known where the walk stands
abbrev pub known_here : Walk → Constants
known_here w =
    record { file = w.file; statics = w.here.statics; members = w.here.members; parameters = w.here.parameters }

-- what is known where a static member is declared: the static members before it
abbrev pub known_statics : Walk → ℕ → Constants
known_statics w n =
    record { file = w.file; statics = take n w.here.statics; members = []; parameters = w.here.parameters }

-- what a constant expression gives, and where it stands
abbrev pub evaluated : Constants → CheckedExpr → Evaluated
evaluated c e = record { answer = value_of c e; at = first_of e }

-- the same of one, if there is one
abbrev pub option_evaluated : Constants → Option CheckedExpr → Option Evaluated
option_evaluated c None = None
option_evaluated c (Some e) = Some (evaluated c e)

-- the value of an answer in a kind; a fault counts as 0
abbrev pub in_kind : Kind → Answer → Value
in_kind k (Ok v) = conversion_of v k
in_kind k (Err f) = zero_of k

-- the value that is given in a kind, if one is given, else the one before
abbrev pub later_value : Kind → Value → Option Evaluated → Value
later_value k before None = before
later_value k before (Some e) = in_kind k e.answer

-- a start value: by the declaration, and then by the initialiser
abbrev pub start_value : Kind → (declared initial : Option Evaluated) → Value
start_value k declared initial = later_value k (later_value k (zero_of k) declared) initial

-- what faults is refused, if something is given
abbrev pub after_option : (name : List ℕ) → Option Evaluated → Walk → Walk
after_option name None w = w
after_option name (Some e) w = after_answer e.answer e.at name w

-- the same of both parts of a start value
abbrev pub after_start : (name : List ℕ) → (declared initial : Option Evaluated) → Walk → Walk
after_start name declared initial w = after_option name initial (after_option name declared w)

-- ---- limits

-- the most objects, elements and processes
abbrev pub most_objects : ℕ
most_objects = 4096

abbrev pub most_cells : ℕ
most_cells = 1048576

abbrev pub most_processes : ℕ
most_processes = 256

-- one object more
abbrev pub with_object : Position → (name : List ℕ) → Walk → Walk
with_object at name w =
    if nat_lt w.objects most_objects then record w { objects = w.objects + 1 } else refused what.TooManyObjects at name w

-- elements more
abbrev pub with_cells : ℕ → Position → (name : List ℕ) → Walk → Walk
with_cells n at name w =
    if nat_le n (most_cells - w.cells) then record w { cells = w.cells + n } else refused what.TooManyCells at name w

-- one process more
abbrev pub with_process : ProcessForm → Position → (name : List ℕ) → Walk → Walk
with_process form at name w =
    if nat_lt (length w.processes) most_processes
    then record w { processes = w.processes ++ record { form = form; name = name } ∷ [] }
    else refused what.TooManyProcesses at name w

-- ---- what is declared

-- a variable
abbrev pub with_variable : BoundVariable → Walk → Walk
with_variable x w = meant (meaning.Variable (length w.variables)) (record w { variables = w.variables ++ x ∷ [] })

-- the events of a channel: of a signal its change, and of one of bool its rise and fall (IEEE 1666-2011, 6.4 and 6.5);
-- of a fifo that values were written and read (6.23)
abbrev pub channel_events : ChannelKind → Kind → ℕ → List BoundEvent
channel_events channel.Signal k c =
    if is_bool k then event.Changed c ∷ event.Rise c ∷ event.Fall c ∷ [] else event.Changed c ∷ []
channel_events channel.Fifo k c = event.Written c ∷ event.Taken c ∷ []

-- a channel, with its events
abbrev pub with_channel : BoundChannel → (is_clock : Bool) → Position → (name : List ℕ) → Walk → Walk
with_channel b is_clock at name w =
    let c = length w.channels in
    meant (meaning.Channel c) (record w {
      channels = w.channels
          ++ record { bound = b; is_clock = is_clock; first_event = length w.events; name = name; at = at } ∷ [];
      events = w.events ++ channel_events b.kind b.value c;
    })

-- a port
abbrev pub with_port : Thing → Position → (name : List ℕ) → Walk → Walk
with_port form at name w =
    meant (meaning.Port (length w.ports)) (record w {
      ports = w.ports ++ record { form = form; name = name; at = at } ∷ [];
    })

-- an `sc_event`
abbrev pub with_event : Walk → Walk
with_event w = meant (meaning.Event (length w.events)) (record w { events = w.events ++ event.Own ∷ [] })

-- ---- parts one after the other

-- each part behind the ones before it, until something is refused
abbrev pub in_order : {A : Type 0} → (A → Walk → Walk) → List A → Walk → Walk
in_order f [] w = w
in_order f (x ∷ xs) w = in_order f xs (unless_refused (f x) w)
