-- Instances of modules, depth first: what is inside stands before what follows, and the processes behind the members.
use Rattle.std.specs.Prelude.{ℕ, zero, suc, ◌+◌, List, [], ◌∷◌, ◌++◌, length, Option, Some, None, slice_get}
use Rattle.ooo_lexer.specs.declared.position.Position.{Position}
use Rattle.ooo_value.specs.declared.kinds.Kind.{Kind}
use Rattle.ooo_value.specs.declared.kinds.Kind.TheVariants as kind
use Rattle.ooo_value.specs.declared.values.Value.{Value}
use Rattle.ooo_syntax.specs.declared.leaves.Word.{Word}
use Rattle.ooo_syntax.specs.declared.module.PortWord.{PortWord}
use Rattle.ooo_syntax.specs.declared.module.PortWord.TheVariants as port
use Rattle.ooo_checked.specs.declared.denotation.Direction.TheVariants as direction
use Rattle.ooo_checked.specs.declared.denotation.Thing.{Thing}
use Rattle.ooo_checked.specs.declared.denotation.Thing.TheVariants as thing
use Rattle.ooo_checked.specs.declared.module.CheckedArg.{CheckedArg}
use Rattle.ooo_checked.specs.declared.module.CheckedArg.TheVariants as arg
use Rattle.ooo_checked.specs.declared.module.CheckedMember.{CheckedMember}
use Rattle.ooo_checked.specs.declared.module.CheckedMember.TheVariants as member
use Rattle.ooo_checked.specs.declared.module.CheckedParam.{CheckedParam}
use Rattle.ooo_checked.specs.declared.module.CheckedPart.{CheckedPart}
use Rattle.ooo_checked.specs.Exprs.{kind_written}
use Rattle.ooo_constants.specs.declared.meaning.Meaning.TheVariants as meaning
use Rattle.ooo_constants.specs.Meanings.{Constants}
use Rattle.ooo_walk.specs.declared.state.Evaluated.{Evaluated}
use Rattle.ooo_walk.specs.declared.state.Here.{Here}
use Rattle.ooo_walk.specs.declared.state.Walk.{Walk}
use Rattle.ooo_walk.specs.Members.{args_given, constant_of, event_of, field_of, part_of, port_of, statics_of}
use Rattle.ooo_walk.specs.Plans.{Filed, Viewed, init_args, view_at}
use Rattle.ooo_walk.specs.Setups.{setups_from}
use Rattle.ooo_walk.specs.States.{after_answer, evaluated, full_name, in_kind, in_order, known_here, meant, unless_refused, with_object}

-- ---- arguments

-- what the values among arguments give; the others are texts
abbrev pub args_evaluated : Constants → List CheckedArg → List Evaluated
args_evaluated c [] = []
args_evaluated c (arg.Value e ∷ xs) = evaluated c e ∷ args_evaluated c xs
args_evaluated c (x ∷ xs) = args_evaluated c xs

-- the value of an argument in the kind of its parameter
abbrev pub value_for : Option CheckedParam → Evaluated → Value
value_for (Some p) e = in_kind (kind_written p.form.form) e.answer
value_for None e = in_kind kind.Int e.answer

-- the values of arguments in the kinds of parameters, the first of which has this place
abbrev pub values_from : List CheckedParam → (place : ℕ) → List Evaluated → List Value
values_from ps place [] = []
values_from ps place (e ∷ es) = value_for (slice_get ps place) e ∷ values_from ps (place + 1) es

-- the first of arguments that faults is refused
abbrev pub after_args : (name : List ℕ) → List Evaluated → Walk → Walk
after_args name [] w = w
after_args name (e ∷ es) w = after_args name es (after_answer e.answer e.at name w)

-- of the arguments of a declaration and of an initialiser, those that count: the latter, if there are some
abbrev pub counting : (declared initial : List Evaluated) → List Evaluated
counting declared [] = declared
counting declared (x ∷ xs) = x ∷ xs

-- ---- what is inside an instance

-- what is known of an instance as its walk begins
abbrev pub entered : (name : List ℕ) → List Value → Here
entered name values = record { name = name; parameters = values; statics = []; members = [] }

-- a walk of an instance of the module of this number
abbrev pub Inside : Type 0
Inside = ℕ → Walk → Walk

-- behind an instance: its walk is over, and its name means it
abbrev pub left_to : Here → (module_number : ℕ) → Walk → Walk
left_to outer n inner =
    meant (meaning.Instance (length inner.instances)) (record inner {
      here = outer;
      instances = inner.instances ++ record { module_number = n; members = inner.here.members } ∷ [];
    })

-- an instance of the module of this number, of which this is known as its walk begins
abbrev pub instance_from : Inside → (module_number : ℕ) → Here → Walk → Walk
instance_from inside n known w = left_to w.here n (inside n (record w { here = known }))

-- an instance with arguments: it is an object
abbrev pub instance_with : Inside → Viewed → (module_number : ℕ) → Word → (declared initial : List Evaluated) → Walk → Walk
instance_with inside child n word declared initial w =
    let name = full_name w word.name in
    instance_from inside n (entered name (values_from child.params 0 (counting declared initial)))
    (after_args name initial (after_args name declared (with_object word.position name w)))

-- ---- members

-- a child: an instance of the module of this number
abbrev pub child_of : Inside → Filed → Viewed → (module_number : ℕ) → CheckedPart → Walk → Walk
child_of inside f v n p w =
    let c = known_here w in
    instance_with inside (view_at f n) n p.name.word (args_evaluated c (args_given p.args))
    (args_evaluated c (init_args v (length w.here.members))) w

-- the sort of port that a word means
abbrev pub port_form : PortWord → Kind → Thing
port_form port.In k = thing.SignalPort direction.In k
port_form port.Out k = thing.SignalPort direction.Out k
port_form port.Inout k = thing.SignalPort direction.Inout k
port_form port.FifoIn k = thing.FifoIn k
port_form port.FifoOut k = thing.FifoOut k

-- a member; a function means nothing until it is reached
abbrev pub member_of : Inside → Filed → Viewed → CheckedMember → Walk → Walk
member_of inside f v member.Public w = w
member_of inside f v (member.Constant c) w = constant_of v c w
member_of inside f v (member.HasProcess name) w = w
member_of inside f v (member.Fields x) w = in_order (field_of v x.is_const (kind_written x.form.form)) x.fields w
member_of inside f v (member.Ports p) w = in_order (port_of (port_form p.port (kind_written p.form.form))) p.names w
member_of inside f v (member.Clocks names) w = in_order (port_of (thing.SignalPort direction.In kind.Bool)) names w
member_of inside f v (member.Channels c) w = in_order (part_of v c.channel (kind_written c.form.form)) c.parts w
member_of inside f v (member.Events names) w = in_order event_of names w
member_of inside f v (member.Children c) w = in_order (child_of inside f v c.module_name.denotes.number) c.parts w
member_of inside f v (member.Function x) w = meant meaning.Nothing w
member_of inside f v (member.Constructor c) w = w

-- ---- modules

-- an instance's members and then what its constructor sets up
abbrev pub walked_with : Inside → Filed → Viewed → Walk → Walk
walked_with inside f v w =
    setups_from v 0 v.setups (in_order (member_of inside f v) v.members (statics_of v v.members w))

-- an instance of the module of a number, of which no more levels than these are walked: a child's module stands before its
-- own in the file, so that there are no more levels than names of the file
abbrev pub inside_of : (levels : ℕ) → Filed → Inside
inside_of zero f n w = w
inside_of (suc levels) f n w = walked_with (inside_of levels f) f (view_at f n) w
