-- What may be done with the thing that a name denotes.
use Rattle.std.specs.Prelude.{ℕ, List, [], ◌∷◌, Bool, true, false, ◌&&◌, not, Option, Some, None, find, codes, if◌then◌else◌}
use Rattle.std.specs.Option.{unwrap_or}
use Rattle.std.specs.Str.{bytes_eq}
use Rattle.ooo_value.specs.declared.kinds.Kind.{Kind}
use Rattle.ooo_value.specs.declared.kinds.Kind.TheVariants as kind
use Rattle.ooo_checked.specs.declared.denotation.Direction.{Direction}
use Rattle.ooo_checked.specs.declared.denotation.Direction.TheVariants as direction
use Rattle.ooo_checked.specs.declared.denotation.Thing.{Thing}
use Rattle.ooo_checked.specs.declared.denotation.Thing.TheVariants as thing
use Rattle.ooo_checked.specs.declared.denotation.Method.{Method}
use Rattle.ooo_checked.specs.declared.denotation.Method.TheVariants as method
use Rattle.ooo_checked.specs.declared.denotation.EventForm.{EventForm}
use Rattle.ooo_checked.specs.declared.denotation.EventForm.TheVariants as form
use Rattle.ooo_checked.specs.declared.denotation.EventWord.{EventWord}
use Rattle.ooo_checked.specs.declared.denotation.EventWord.TheVariants as word

-- ---- values

-- the name is known
abbrev pub is_known : Thing → Bool
is_known thing.Nothing = false
is_known _ = true

-- the thing's name by itself has a value: a variable of one value, a constant, a parameter, a local, or what a signal shows
abbrev pub has_value : Thing → Bool
has_value (thing.FileConstant k) = true
has_value (thing.MainConstant k) = true
has_value thing.Clock = true
has_value (thing.Variable k) = true
has_value (thing.Fixed k is_static) = true
has_value (thing.Signal k) = true
has_value (thing.SignalPort d k) = true
has_value (thing.Parameter k) = true
has_value (thing.Local k) = true
has_value _ = false

-- the thing has several values
abbrev pub is_array : Thing → Bool
is_array (thing.Array k) = true
is_array (thing.FixedArray k) = true
is_array _ = false

-- the kind of the thing's values; int where it has none
abbrev pub value_kind : Thing → Kind
value_kind (thing.FileConstant k) = k
value_kind (thing.MainConstant k) = k
value_kind thing.Clock = kind.Bool
value_kind (thing.Variable k) = k
value_kind (thing.Fixed k is_static) = k
value_kind (thing.Array k) = k
value_kind (thing.FixedArray k) = k
value_kind (thing.Signal k) = k
value_kind (thing.Fifo k) = k
value_kind (thing.SignalPort d k) = k
value_kind (thing.FifoIn k) = k
value_kind (thing.FifoOut k) = k
value_kind (thing.Parameter k) = k
value_kind (thing.Local k) = k
value_kind _ = kind.Int

-- the kind of what a function gives; int where it gives nothing
abbrev pub result_kind : Thing → Kind
result_kind (thing.Function (Some k) n) = k
result_kind _ = kind.Int

-- the value is known before the simulation: a constant, a member that keeps its value, or a parameter
abbrev pub is_constant_thing : Thing → Bool
is_constant_thing (thing.FileConstant k) = true
is_constant_thing (thing.MainConstant k) = true
is_constant_thing (thing.Fixed k is_static) = true
is_constant_thing (thing.Parameter k) = true
is_constant_thing _ = false

-- the kind is bool
abbrev pub is_bool : Kind → Bool
is_bool kind.Bool = true
is_bool _ = false

-- ---- assignments

-- the thing, or its element, may be assigned to: with an index just where it is an array, by another operator than `=`
-- only where it is no signal and no bool
abbrev pub is_assignable : Thing → (has_index is_compound : Bool) → Bool
is_assignable (thing.Variable k) has_index is_compound = not has_index && not (is_compound && is_bool k)
is_assignable (thing.Local k) has_index is_compound = not has_index && not (is_compound && is_bool k)
is_assignable (thing.Parameter k) has_index is_compound = not has_index && not (is_compound && is_bool k)
is_assignable (thing.Array k) has_index is_compound = has_index && not (is_compound && is_bool k)
is_assignable (thing.Signal k) has_index is_compound = not has_index && not is_compound
is_assignable (thing.SignalPort direction.Out k) has_index is_compound = not has_index && not is_compound
is_assignable (thing.SignalPort direction.Inout k) has_index is_compound = not has_index && not is_compound
is_assignable _ has_index is_compound = false

-- ---- calls of channels and ports

-- how a call is written
abbrev pub method_text : Method → List ℕ
method_text method.Nothing = []
method_text method.Read = codes "read"
method_text method.Write = codes "write"
method_text method.Event = codes "event"
method_text method.Posedge = codes "posedge"
method_text method.Negedge = codes "negedge"
method_text method.NbRead = codes "nb_read"
method_text method.NbWrite = codes "nb_write"
method_text method.NumAvailable = codes "num_available"
method_text method.NumFree = codes "num_free"

abbrev pub methods : List Method
methods = method.Read ∷ method.Write ∷ method.Event ∷ method.Posedge ∷ method.Negedge ∷ method.NbRead ∷ method.NbWrite
    ∷ method.NumAvailable ∷ method.NumFree ∷ []

-- the call that a word names
abbrev pub method_named : List ℕ → Option Method
method_named name = find (λ m. bytes_eq name (method_text m)) methods

-- the calls of a signal (IEEE 1666-2011, 6.4), and those of a signal of bool (6.5)
abbrev pub of_signal : Kind → Method → Bool
of_signal k method.Read = true
of_signal k method.Write = true
of_signal k method.Event = true
of_signal k method.Posedge = is_bool k
of_signal k method.Negedge = is_bool k
of_signal k _ = false

-- the calls of a signal port: `sc_in` has no `write` (6.8 to 6.10)
abbrev pub of_port : Direction → Kind → Method → Bool
of_port direction.In k method.Write = false
of_port _ k m = of_signal k m

-- the calls that take values of a fifo (6.23)
abbrev pub is_reading : Method → Bool
is_reading method.Read = true
is_reading method.NbRead = true
is_reading method.NumAvailable = true
is_reading _ = false

-- the calls that put values into a fifo (6.23)
abbrev pub is_writing : Method → Bool
is_writing method.Write = true
is_writing method.NbWrite = true
is_writing method.NumFree = true
is_writing _ = false

-- the thing has the call
abbrev pub has_method : Thing → Method → Bool
has_method (thing.Signal k) m = of_signal k m
has_method (thing.SignalPort d k) m = of_port d k m
has_method (thing.Fifo k) m = if is_reading m then true else is_writing m
has_method (thing.FifoIn k) m = is_reading m
has_method (thing.FifoOut k) m = is_writing m
has_method _ m = false

-- the thing has the call that a word names, if it names one
abbrev pub has_method_named : Thing → Option Method → Bool
has_method_named t None = false
has_method_named t (Some m) = has_method t m

-- the thing's call
abbrev pub own_method : Thing → Option Method → Method
own_method t None = method.Nothing
own_method t (Some m) = if has_method t m then m else method.Nothing

-- the call of the thing that a word names
abbrev pub method_of : Thing → List ℕ → Method
method_of t name = own_method t (method_named name)

-- the thing is a fifo or a port for one
abbrev pub is_fifo : Thing → Bool
is_fifo (thing.Fifo k) = true
is_fifo (thing.FifoIn k) = true
is_fifo (thing.FifoOut k) = true
is_fifo _ = false

-- a call of a fifo that may have to wait: `read` and `write`
abbrev pub is_blocking : Thing → Method → Bool
is_blocking t method.Read = is_fifo t
is_blocking t method.Write = is_fifo t
is_blocking t _ = false

-- a call that does more than give a value: `read`, `nb_read` and `nb_write` of a fifo
abbrev pub has_effect : Thing → Method → Bool
has_effect t method.Read = is_fifo t
has_effect t method.NbRead = true
has_effect t method.NbWrite = true
has_effect t _ = false

-- the call gives no value
abbrev pub gives_nothing : Method → Bool
gives_nothing method.Write = true
gives_nothing _ = false

-- how many arguments the call has
abbrev pub argument_count : Method → ℕ
argument_count method.Write = 1
argument_count method.NbRead = 1
argument_count method.NbWrite = 1
argument_count _ = 0

-- the kind of what the call gives: a value of the channel, a count, or whether something is so
abbrev pub method_kind : Thing → Method → Kind
method_kind t method.Read = value_kind t
method_kind t method.NumAvailable = kind.Int
method_kind t method.NumFree = kind.Int
method_kind t method.Write = kind.Int
method_kind t method.Nothing = kind.Int
method_kind t _ = kind.Bool

-- ---- events

-- how the call of an event is written
abbrev pub event_text : EventWord → List ℕ
event_text word.ValueChangedEvent = codes "value_changed_event"
event_text word.DefaultEvent = codes "default_event"
event_text word.PosedgeEvent = codes "posedge_event"
event_text word.NegedgeEvent = codes "negedge_event"
event_text word.DataWrittenEvent = codes "data_written_event"
event_text word.DataReadEvent = codes "data_read_event"
event_text word.ValueChanged = codes "value_changed"
event_text word.Pos = codes "pos"
event_text word.Neg = codes "neg"
event_text word.DataWritten = codes "data_written"
event_text word.DataRead = codes "data_read"

abbrev pub event_words : List EventWord
event_words = word.ValueChangedEvent ∷ word.DefaultEvent ∷ word.PosedgeEvent ∷ word.NegedgeEvent
    ∷ word.DataWrittenEvent ∷ word.DataReadEvent ∷ word.ValueChanged ∷ word.Pos ∷ word.Neg ∷ word.DataWritten
    ∷ word.DataRead ∷ []

-- the call of an event that a word names
abbrev pub event_named : List ℕ → Option EventWord
event_named name = find (λ w. bytes_eq name (event_text w)) event_words

-- an edge, which only a signal of bool has
abbrev pub edge_of : Kind → EventForm → EventForm
edge_of k e = if is_bool k then e else form.Nothing

-- the events of a signal (6.4, 6.5)
abbrev pub signal_event : Kind → EventWord → EventForm
signal_event k word.ValueChangedEvent = form.Changed
signal_event k word.DefaultEvent = form.Changed
signal_event k word.PosedgeEvent = edge_of k form.Rise
signal_event k word.NegedgeEvent = edge_of k form.Fall
signal_event k _ = form.Nothing

-- the events of a signal port, by its event finders too (6.8, 6.9)
abbrev pub port_event : Kind → EventWord → EventForm
port_event k word.ValueChanged = form.Changed
port_event k word.Pos = edge_of k form.Rise
port_event k word.Neg = edge_of k form.Fall
port_event k w = signal_event k w

-- the events of a fifo (6.23)
abbrev pub fifo_event : EventWord → EventForm
fifo_event word.DataWrittenEvent = form.Written
fifo_event word.DataReadEvent = form.Taken
fifo_event _ = form.Nothing

-- the events of an `sc_fifo_in` (6.25)
abbrev pub fifo_in_event : EventWord → EventForm
fifo_in_event word.DataWrittenEvent = form.Written
fifo_in_event word.DataWritten = form.Written
fifo_in_event _ = form.Nothing

-- the events of an `sc_fifo_out` (6.26)
abbrev pub fifo_out_event : EventWord → EventForm
fifo_out_event word.DataReadEvent = form.Taken
fifo_out_event word.DataRead = form.Taken
fifo_out_event _ = form.Nothing

-- the event that a thing has by a word
abbrev pub own_event : Thing → EventWord → EventForm
own_event (thing.Signal k) w = signal_event k w
own_event (thing.SignalPort d k) w = port_event k w
own_event (thing.Fifo k) w = fifo_event w
own_event (thing.FifoIn k) w = fifo_in_event w
own_event (thing.FifoOut k) w = fifo_out_event w
own_event _ w = form.Nothing

-- the event of the thing that the word names, if it names one
abbrev pub event_by : Thing → Option EventWord → EventForm
event_by t None = form.Nothing
event_by t (Some w) = own_event t w

-- the word is an event finder, which stands in `sensitive` alone (5.7)
abbrev pub is_finder : EventWord → Bool
is_finder word.ValueChanged = true
is_finder word.Pos = true
is_finder word.Neg = true
is_finder word.DataWritten = true
is_finder word.DataRead = true
is_finder _ = false

-- the event that a word means in `sensitive`, or in a wait
abbrev pub called_event : (in_sensitive : Bool) → Thing → Option EventWord → EventForm
called_event in_sensitive t None = form.Nothing
called_event true t (Some w) = own_event t w
called_event false t (Some w) = if is_finder w then form.Nothing else own_event t w

-- the event that a name by itself means: an `sc_event`, and in `sensitive` the value changed of a signal or its port
abbrev pub named_event : (in_sensitive : Bool) → Thing → EventForm
named_event in_sensitive thing.Event = form.Own
named_event true (thing.Signal k) = form.Changed
named_event true (thing.SignalPort d k) = form.Changed
named_event in_sensitive _ = form.Nothing

-- an event is meant
abbrev pub is_event : EventForm → Bool
is_event form.Nothing = false
is_event _ = true
