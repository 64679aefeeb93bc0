-- What a constructor sets up: processes, bindings and start values.
use Rattle.std.specs.Prelude.{ℕ, ◌+◌, List, [], ◌∷◌, ◌++◌, length, Option, Some, None, slice_get, slice_set}
use Rattle.ooo_lexer.specs.declared.position.Position.{Position}
use Rattle.ooo_value.specs.declared.bound.BoundVariable.{BoundVariable}
use Rattle.ooo_value.specs.declared.bound.ProcessKind.{ProcessKind}
use Rattle.ooo_value.specs.declared.bound.ProcessKind.TheVariants as process
use Rattle.ooo_value.specs.Operators.{Answer}
use Rattle.ooo_checked.specs.declared.denotation.Denotation.{Denotation}
use Rattle.ooo_checked.specs.declared.denotation.Resolved.{Resolved}
use Rattle.ooo_checked.specs.declared.denotation.Thing.TheVariants as thing
use Rattle.ooo_checked.specs.declared.expr.CheckedExpr.{CheckedExpr}
use Rattle.ooo_checked.specs.declared.module.CheckedBinding.{CheckedBinding}
use Rattle.ooo_checked.specs.declared.module.CheckedFunction.{CheckedFunction}
use Rattle.ooo_checked.specs.declared.module.CheckedSetup.{CheckedSetup}
use Rattle.ooo_checked.specs.declared.module.CheckedSetup.TheVariants as setup
use Rattle.ooo_constants.specs.Bodies.{body_refusals, told_of}
use Rattle.ooo_constants.specs.declared.bodies.TimeRefusal.{TimeRefusal}
use Rattle.ooo_constants.specs.declared.meaning.Meaning.{Meaning}
use Rattle.ooo_constants.specs.declared.meaning.Meaning.TheVariants as meaning
use Rattle.ooo_constants.specs.Meanings.{Constants}
use Rattle.ooo_walk.specs.declared.state.Evaluated.{Evaluated}
use Rattle.ooo_walk.specs.declared.state.ProcessForm.TheVariants.{Registered}
use Rattle.ooo_walk.specs.declared.state.Walk.{Walk}
use Rattle.ooo_walk.specs.declared.state.WalkedInstance.{WalkedInstance}
use Rattle.ooo_walk.specs.Plans.{Viewed, function_at}
use Rattle.ooo_walk.specs.Reach.{calls_in, reached_by}
use Rattle.ooo_walk.specs.States.{after_answer, as_breach, evaluated, full_name, in_kind, known_here, refused, unless_refused, with_process}

-- ---- start values

-- a variable that starts otherwise
abbrev pub with_start : ℕ → Option BoundVariable → Answer → Walk → Walk
with_start x None answer w = w
with_start x (Some b) answer w =
    record w { variables = slice_set w.variables x (record b { start = in_kind b.kind answer }) }

abbrev pub set_meant : Option Meaning → Answer → Walk → Walk
set_meant (Some (meaning.Variable x)) answer w = with_start x (slice_get w.variables x) answer w
set_meant _ answer w = w

-- a start value that is set
abbrev pub set_with : Resolved → Evaluated → Walk → Walk
set_with r e w =
    set_meant (slice_get w.here.members r.denotes.number) e.answer (after_answer e.answer e.at (full_name w r.word.name) w)

abbrev pub set_of : Resolved → CheckedExpr → Walk → Walk
set_of r e w = set_with r (evaluated (known_here w) e) w

-- ---- bindings

-- what a port may be bound to: a channel or a port of what is walked
abbrev pub end_meant : Option Meaning → Meaning
end_meant (Some m) = m
end_meant None = meaning.Nothing

abbrev pub end_of : Denotation → Walk → Meaning
end_of d w = elim d.thing [
  | thing.Clock ↦ end_meant (slice_get w.here.members d.number)
  | thing.Signal k ↦ end_meant (slice_get w.here.members d.number)
  | thing.Fifo k ↦ end_meant (slice_get w.here.members d.number)
  | thing.SignalPort direction k ↦ end_meant (slice_get w.here.members d.number)
  | thing.FifoIn k ↦ end_meant (slice_get w.here.members d.number)
  | thing.FifoOut k ↦ end_meant (slice_get w.here.members d.number)
  | _ ↦ meaning.Nothing
]

-- a binding of a port, if it is one
abbrev pub bound_to : Option Meaning → Meaning → Position → Walk → Walk
bound_to (Some (meaning.Port p)) to at w =
    record w { bindings = w.bindings ++ record { port = p; to = to; at = at } ∷ [] }
bound_to _ to at w = w

-- what the port's name means in an instance
abbrev pub port_in : Option WalkedInstance → ℕ → Option Meaning
port_in None n = None
port_in (Some i) n = slice_get i.members n

-- a binding of a port of what is an instance
abbrev pub bind_meant : Option Meaning → CheckedBinding → Walk → Walk
bind_meant (Some (meaning.Instance i)) b w =
    bound_to (port_in (slice_get w.instances i) b.port.denotes.number) (end_of b.channel.denotes w) b.instance.word.position w
bind_meant _ b w = w

-- a binding
abbrev pub bind_of : CheckedBinding → Walk → Walk
bind_of b w = bind_meant (slice_get w.here.members b.instance.denotes.number) b w

-- ---- processes

-- what is wrong with the constant times of a function
abbrev pub function_refusals : Constants → Option CheckedFunction → List TimeRefusal
function_refusals c None = []
function_refusals c (Some f) = body_refusals c f.body

-- what is told of the constant times of functions, and what was told before
abbrev pub told_times : Viewed → Constants → Option TimeRefusal → List ℕ → Option TimeRefusal
told_times v c first [] = first
told_times v c first (n ∷ ns) = told_times v c (told_of first (function_refusals c (function_at v n))) ns

-- what is told of the constant times of a process: of its function's, and of those that it reaches by calls
abbrev pub process_told : Viewed → Constants → ℕ → Option TimeRefusal
process_told v c n = told_times v c None (n ∷ reached_by v (calls_in (function_at v n)))

-- it is refused with the process's name
abbrev pub after_times : Option TimeRefusal → (name : List ℕ) → Walk → Walk
after_times None name w = w
after_times (Some r) name w = refused (as_breach r.what) r.at name w

-- a process of a kind, which is registered at a place of the constructor; its instance comes behind those inside
abbrev pub process_of : Viewed → ProcessKind → (place : ℕ) → Resolved → Walk → Walk
process_of v k place r w =
    let name = full_name w r.word.name in
    unless_refused (after_times (process_told v (known_here w) r.denotes.number) name)
    (with_process (Registered k (length w.instances) place r.denotes.number) r.word.position name w)

-- ---- statements of a constructor

-- a statement at a place of the constructor
abbrev pub setup_of : Viewed → (place : ℕ) → CheckedSetup → Walk → Walk
setup_of v place (setup.Thread at r) w = process_of v process.Thread place r w
setup_of v place (setup.Method at r) w = process_of v process.Method place r w
setup_of v place (setup.Sensitive at es) w = w
setup_of v place (setup.DontInitialize at) w = w
setup_of v place (setup.Bind b) w = bind_of b w
setup_of v place (setup.Set r e) w = set_of r e w

-- the statements one after the other, the first of which has this place
abbrev pub setups_from : Viewed → (place : ℕ) → List CheckedSetup → Walk → Walk
setups_from v place [] w = w
setups_from v place (x ∷ xs) w = setups_from v (place + 1) xs (unless_refused (setup_of v place x) w)
