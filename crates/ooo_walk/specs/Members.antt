-- The members of an instance, but for its children.
use Rattle.std.specs.Prelude.{ℕ, ◌+◌, ◌-◌, nat_le, List, [], ◌∷◌, ◌++◌, length, replicate, Bool, true, false, ◌&&◌, Option, Some, None, slice_get, Result, Ok, Err, ℤ, pos, int_le, unsigned_abs, if◌then◌else◌}
use Rattle.ooo_lexer.specs.declared.position.Position.{Position}
use Rattle.ooo_value.specs.declared.bound.ChannelKind.{ChannelKind}
use Rattle.ooo_value.specs.declared.bound.ChannelKind.TheVariants as channel
use Rattle.ooo_value.specs.declared.kinds.Kind.{Kind}
use Rattle.ooo_value.specs.declared.kinds.Kind.TheVariants as kind
use Rattle.ooo_value.specs.Operators.{Answer}
use Rattle.ooo_value.specs.Values.{number_of}
use Rattle.ooo_syntax.specs.declared.module.ChannelWord.{ChannelWord}
use Rattle.ooo_syntax.specs.declared.module.ChannelWord.TheVariants as channel_word
use Rattle.ooo_syntax.specs.declared.leaves.Word.{Word}
use Rattle.ooo_checked.specs.declared.denotation.Direction.TheVariants as direction
use Rattle.ooo_checked.specs.declared.denotation.Resolved.{Resolved}
use Rattle.ooo_checked.specs.declared.denotation.Thing.{Thing}
use Rattle.ooo_checked.specs.declared.denotation.Thing.TheVariants as thing
use Rattle.ooo_checked.specs.declared.expr.CheckedExpr.{CheckedExpr}
use Rattle.ooo_checked.specs.declared.module.CheckedArg.{CheckedArg}
use Rattle.ooo_checked.specs.declared.module.CheckedArg.TheVariants as arg
use Rattle.ooo_checked.specs.declared.module.CheckedConstant.{CheckedConstant}
use Rattle.ooo_checked.specs.declared.module.CheckedField.{CheckedField}
use Rattle.ooo_checked.specs.declared.module.CheckedFieldForm.{CheckedFieldForm}
use Rattle.ooo_checked.specs.declared.module.CheckedFieldForm.TheVariants as form
use Rattle.ooo_checked.specs.declared.module.CheckedMember.{CheckedMember}
use Rattle.ooo_checked.specs.declared.module.CheckedMember.TheVariants as member
use Rattle.ooo_checked.specs.declared.module.CheckedPart.{CheckedPart}
use Rattle.ooo_checked.specs.Exprs.{kind_written}
use Rattle.ooo_checked.specs.Places.{first_of}
use Rattle.ooo_constants.specs.declared.meaning.Meaning.{Meaning}
use Rattle.ooo_constants.specs.declared.meaning.Meaning.TheVariants as meaning
use Rattle.ooo_constants.specs.Meanings.{Constants, zero_of}
use Rattle.ooo_constants.specs.Values.{value_of}
use Rattle.ooo_walk.specs.declared.refusal.ElabBreach.TheVariants as what
use Rattle.ooo_walk.specs.declared.state.Evaluated.{Evaluated}
use Rattle.ooo_walk.specs.declared.state.Walk.{Walk}
use Rattle.ooo_walk.specs.Plans.{Viewed, init_args, names_in}
use Rattle.ooo_walk.specs.States.{after_start, evaluated, full_name, known_here, known_statics, meant, most_cells, option_evaluated, refused, start_value, with_cells, with_channel, with_event, with_object, with_port, with_variable}

-- ---- arguments

-- the first value among arguments: the others are texts
abbrev pub value_among : List CheckedArg → Option CheckedExpr
value_among [] = None
value_among (arg.Value e ∷ xs) = Some e
value_among (x ∷ xs) = value_among xs

-- the arguments of a part in braces or parentheses
abbrev pub args_given : Option (List CheckedArg) → List CheckedArg
args_given None = []
args_given (Some xs) = xs

-- the value that the initialiser of the next name gives
abbrev pub initialised : Viewed → Walk → Option CheckedExpr
initialised v w = value_among (init_args v (length w.here.members))

-- ---- variables

-- a variable of one value: it is an object and an element
abbrev pub scalar_of : Kind → Word → (declared initial : Option Evaluated) → Walk → Walk
scalar_of k word declared initial w =
    let name = full_name w word.name in
    with_variable (record { kind = k; length = 1; start = start_value k declared initial })
    (with_cells 1 word.position name (after_start name declared initial (with_object word.position name w)))

-- a member that keeps its value: it is a constant, no object and no element
abbrev pub fixed_of : Kind → Word → (declared initial : Option Evaluated) → Walk → Walk
fixed_of k word declared initial w =
    meant (meaning.Constant (start_value k declared initial)) (after_start (full_name w word.name) declared initial w)

-- how many elements an array has, by the value of its length: at least one
abbrev pub length_of : Answer → Option ℕ
length_of (Ok v) = if int_le (pos 1) (number_of v) then Some (unsigned_abs (number_of v)) else None
length_of (Err f) = None

-- an array of so many elements, each of which starts at 0
abbrev pub elements_of : Kind → ℕ → Position → (name : List ℕ) → Walk → Walk
elements_of k n at name w =
    if nat_le n (most_cells - w.cells)
    then with_variable (record { kind = k; length = n; start = zero_of k }) (record w { cells = w.cells + n })
    else refused what.TooManyCells at name w

-- the same, where its length is one
abbrev pub array_with : Kind → Option ℕ → (at expression : Position) → (name : List ℕ) → Walk → Walk
array_with k (Some n) at expression name w = elements_of k n at name w
array_with k None at expression name w = refused what.BadConstant expression name w

-- an array: it is an object
abbrev pub array_of : Kind → Word → Evaluated → Walk → Walk
array_of k word e w =
    let name = full_name w word.name in
    array_with k (length_of e.answer) word.position e.at name (with_object word.position name w)

-- a field whose name is followed by a value, or by nothing
abbrev pub plain_of : (is_const : Bool) → Kind → Word → (declared initial : Option Evaluated) → Walk → Walk
plain_of true k word declared initial w = fixed_of k word declared initial w
plain_of false k word declared initial w = scalar_of k word declared initial w

-- what the initialiser of the next name gives, where the walk stands
abbrev pub initial_here : Viewed → Walk → Option Evaluated
initial_here v w = option_evaluated (known_here w) (initialised v w)

-- a field
abbrev pub field_with : Viewed → (is_const : Bool) → Kind → Word → CheckedFieldForm → Walk → Walk
field_with v is_const k word form.Plain w = plain_of is_const k word None (initial_here v w) w
field_with v is_const k word (form.Value e) w =
    plain_of is_const k word (Some (evaluated (known_here w) e)) (initial_here v w) w
field_with v is_const k word (form.Length e) w = array_of k word (evaluated (known_here w) e) w

abbrev pub field_of : Viewed → (is_const : Bool) → Kind → CheckedField → Walk → Walk
field_of v is_const k x w = field_with v is_const k x.name.word x.form w

-- ---- constants

-- of a name that is no static member nothing is known before the others
abbrev pub no_static : Walk → Walk
no_static w = record w { here = record w.here { statics = w.here.statics ++ meaning.Nothing ∷ [] } }

-- the value that the initialiser of the next static member gives
abbrev pub static_initialised : Viewed → Walk → Option CheckedExpr
static_initialised v w = value_among (init_args v (length w.here.statics))

-- a static member's value, which is known before all members that aren't static
abbrev pub with_static : Viewed → Kind → CheckedExpr → Walk → Walk
with_static v k e w =
    let c = known_statics w (length w.here.statics) in
    let value = start_value k (Some (evaluated c e)) (option_evaluated c (static_initialised v w)) in
    record w { here = record w.here { statics = w.here.statics ++ meaning.Constant value ∷ [] } }

-- what static members of a member are worth
abbrev pub statics_by : Viewed → CheckedMember → Walk → Walk
statics_by v (member.Constant c) w = if c.is_static then with_static v (kind_written c.form.form) c.value w else no_static w
statics_by v m w = record w { here = record w.here { statics = w.here.statics ++ replicate (names_in m) meaning.Nothing } }

-- of all members one after the other
abbrev pub statics_of : Viewed → List CheckedMember → Walk → Walk
statics_of v [] w = w
statics_of v (m ∷ ms) w = statics_of v ms (statics_by v m w)

-- a constant of a module, where these constants are known
abbrev pub constant_with : Viewed → Constants → CheckedConstant → Walk → Walk
constant_with v known c w =
    fixed_of (kind_written c.form.form) c.name.word (Some (evaluated known c.value)) (option_evaluated known (initialised v w)) w

-- what is known where the next member is declared: of a static one the static ones before it
abbrev pub constants_to : (is_static : Bool) → Walk → Constants
constants_to true w = known_statics w (length w.here.members)
constants_to false w = known_here w

-- a constant of a module
abbrev pub constant_of : Viewed → CheckedConstant → Walk → Walk
constant_of v c w = constant_with v (constants_to c.is_static w) c w

-- ---- channels, events and ports

-- how many values a fifo may hold (IEEE 1666-2011, 6.23.4); that of an expression that faults doesn't matter
abbrev pub size_in : Answer → Option ℕ
size_in (Ok v) =
    if int_le (pos 1) (number_of v) && int_le (number_of v) (pos 65536) then Some (unsigned_abs (number_of v)) else None
size_in (Err f) = Some 16

abbrev pub later_size : Option ℕ → Option Evaluated → Option ℕ
later_size before None = before
later_size before (Some e) = size_in e.answer

-- the size of a fifo: by its arguments, and then by its initialiser
abbrev pub size_of : (declared initial : Option Evaluated) → Option ℕ
size_of declared initial = later_size (later_size (Some 16) declared) initial

-- a fifo of a size
abbrev pub fifo_with : Kind → Option ℕ → Position → (name : List ℕ) → Walk → Walk
fifo_with k (Some n) at name w = with_channel (record { kind = channel.Fifo; value = k; size = n }) false at name w
fifo_with k None at name w = refused what.FifoSize at name w

-- a fifo: it is an object
abbrev pub fifo_of : Kind → Word → (declared initial : Option Evaluated) → Walk → Walk
fifo_of k word declared initial w =
    let name = full_name w word.name in
    fifo_with k (size_of declared initial) word.position name
    (after_start name declared initial (with_object word.position name w))

-- a signal: it is an object
abbrev pub signal_of : Kind → Word → Walk → Walk
signal_of k word w =
    let name = full_name w word.name in
    with_channel (record { kind = channel.Signal; value = k; size = 0 }) false word.position name
    (with_object word.position name w)

-- a channel
abbrev pub channel_of : ChannelWord → Kind → Word → (declared initial : Option Evaluated) → Walk → Walk
channel_of channel_word.Signal k word declared initial w = signal_of k word w
channel_of channel_word.Fifo k word declared initial w = fifo_of k word declared initial w

abbrev pub part_of : Viewed → ChannelWord → Kind → CheckedPart → Walk → Walk
part_of v c k p w =
    channel_of c k p.name.word (option_evaluated (known_here w) (value_among (args_given p.args))) (initial_here v w) w

-- a port
abbrev pub port_of : Thing → Resolved → Walk → Walk
port_of t r w = with_port t r.word.position (full_name w r.word.name) w

-- an `sc_event`: it is an object
abbrev pub event_of : Resolved → Walk → Walk
event_of r w = with_event (with_object r.word.position (full_name w r.word.name) w)
