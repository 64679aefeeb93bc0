-- What the names of a scope mean in a bound model, and what is noted of a body that may stand there.
use Rattle.std.specs.Prelude.{◌≡◌, ℕ, ◌+◌, ◌<◌, List, length, Bool, true, Some, IsSome, IsSomeAnd, Contains, slice_get, if◌then◌else◌, ⊤}
use Rattle.std.specs.List.{AllByRecursion}
use Rattle.ooo_value.specs.declared.kinds.Kind.{Kind}
use Rattle.ooo_code.specs.Sound.{IsOwn, variable_kind, signal_kind, fifo_kind}
use Rattle.ooo_bound.specs.declared.model.Bound.{Bound}
use Rattle.ooo_checked.specs.declared.denotation.Denotation.{Denotation}
use Rattle.ooo_checked.specs.declared.denotation.Thing.{Thing}
use Rattle.ooo_checked.specs.declared.denotation.Thing.TheVariants as thing
use Rattle.ooo_checked.specs.Notes.{Note, Breaks, Calls, Waits, Triggers}
use Rattle.ooo_checked.specs.Scopes.{Scope, meaning_of}
use Rattle.ooo_checked.specs.Things.{is_bool}
use Rattle.ooo_numbers.specs.Names.{Numbering, number_in, channel_of, variable_of, function_of, own_event_of}

-- what a body may do: the functions of its module that it may call, by their numbers among the module's names, those of the
-- model that these mean, and whether it may wait
pub record Leave : Type 0 where
  pub calls : List ℕ
  pub functions : List ℕ
  pub waits : Bool

-- ---- names

-- a function that may be called is there, takes so many arguments, and is one of those that may be called
pub record MeansFunction (b : Bound) (l : Leave) (f params : ℕ) : Type 0 where
  pub takes : IsSomeAnd (slice_get b.functions f) (λ function. length function.params ≡ params)
  pub within : Contains l.functions f

-- a name that denotes a thing means in the model what that thing needs
abbrev pub MeansThing : Bound → Numbering → Leave → Denotation → Thing → Type 0
MeansThing b n l d (thing.Variable k) = IsSome (variable_kind (slice_get b.variables (variable_of n d)))
MeansThing b n l d (thing.Array k) = IsSome (variable_kind (slice_get b.variables (variable_of n d)))
MeansThing b n l d (thing.FixedArray k) = IsSome (variable_kind (slice_get b.variables (variable_of n d)))
MeansThing b n l d (thing.Signal k) = signal_kind (slice_get b.channels (channel_of n d)) ≡ Some k
MeansThing b n l d (thing.SignalPort direction k) = signal_kind (slice_get b.channels (channel_of n d)) ≡ Some k
MeansThing b n l d (thing.Fifo k) = fifo_kind (slice_get b.channels (channel_of n d)) ≡ Some k
MeansThing b n l d (thing.FifoIn k) = fifo_kind (slice_get b.channels (channel_of n d)) ≡ Some k
MeansThing b n l d (thing.FifoOut k) = fifo_kind (slice_get b.channels (channel_of n d)) ≡ Some k
MeansThing b n l d thing.Event = IsOwn (slice_get b.events (own_event_of n d))
MeansThing b n l d (thing.Function gives params) = Contains l.calls d.number → MeansFunction b l (function_of n d) params
MeansThing b n l d _ = ⊤

-- each name of a scope means what the thing needs that it denotes
abbrev pub Agrees : Bound → Numbering → Leave → Scope → Type 0
Agrees b n l s = (name : List ℕ) → let d = meaning_of s name in MeansThing b n l d d.thing

-- ---- events

-- how far the last event of a signal stands behind its first: of bool it has a rise and a fall
abbrev pub last_event : Kind → ℕ
last_event k = if is_bool k then 2 else 0

-- the events of each channel are there
pub record HasEvents (b : Bound) (n : Numbering) : Type 0 where
  pub signals : (c : ℕ) (k : Kind) → signal_kind (slice_get b.channels c) ≡ Some k →
      number_in (slice_get n.events c) + last_event k < length b.events
  pub fifos : (c : ℕ) (k : Kind) → fifo_kind (slice_get b.channels c) ≡ Some k →
      number_in (slice_get n.events c) + 1 < length b.events

-- ---- notes

-- it is no breach, and a call or a wait only where it may be
abbrev pub MayBeNoted : Leave → Note → Type 0
MayBeNoted l (Breaks what at) = ⊥
MayBeNoted l (Calls at f) = Contains l.calls f
MayBeNoted l (Waits at) = l.waits ≡ true
MayBeNoted l (Triggers at) = ⊤

-- each of these
abbrev pub MayAllBeNoted : Leave → List Note → Type 0
MayAllBeNoted l ns = AllByRecursion (MayBeNoted l) ns
