-- Constructors: what they initialise, and what they set up.
use Rattle.std.specs.Prelude.{ℕ, ◌==◌, List, [], ◌∷◌, ◌++◌, map, Bool, true, false, not, ◌&&◌, codes, Option, None, is_none, if◌then◌else◌}
use Rattle.std.specs.Str.{bytes_eq}
use Rattle.ooo_lexer.specs.declared.position.Position.{Position}
use Rattle.ooo_value.specs.declared.bound.ProcessKind.{ProcessKind}
use Rattle.ooo_value.specs.declared.bound.ProcessKind.TheVariants as process
use Rattle.ooo_syntax.specs.declared.leaves.Word.{Word}
use Rattle.ooo_syntax.specs.declared.expr.Expr.{Expr, Expr-F, out-Expr}
use Rattle.ooo_syntax.specs.declared.expr.Expr.TheOpen as layer
use Rattle.ooo_syntax.specs.declared.module.Arg.{Arg}
use Rattle.ooo_syntax.specs.declared.module.Arg.TheVariants as arg
use Rattle.ooo_syntax.specs.declared.module.Init.{Init}
use Rattle.ooo_syntax.specs.declared.module.Param.{Param}
use Rattle.ooo_syntax.specs.declared.module.Binding.{Binding}
use Rattle.ooo_syntax.specs.declared.module.Setup.{Setup}
use Rattle.ooo_syntax.specs.declared.module.Setup.TheVariants as setup
use Rattle.ooo_syntax.specs.declared.module.Constructor.{Constructor}
use Rattle.ooo_syntax.specs.declared.module.Constructor.TheVariants as constructor
use Rattle.ooo_checked.specs.declared.breach.TypeBreach.TheVariants as what
use Rattle.ooo_checked.specs.declared.denotation.Denotation.{Denotation}
use Rattle.ooo_checked.specs.declared.denotation.Thing.{Thing}
use Rattle.ooo_checked.specs.declared.denotation.Thing.TheVariants as thing
use Rattle.ooo_checked.specs.declared.denotation.Resolved.{Resolved}
use Rattle.ooo_checked.specs.declared.module.CheckedInit.{CheckedInit}
use Rattle.ooo_checked.specs.declared.module.CheckedBinding.{CheckedBinding}
use Rattle.ooo_checked.specs.declared.module.CheckedParam.{CheckedParam}
use Rattle.ooo_checked.specs.declared.module.CheckedSetup.{CheckedSetup}
use Rattle.ooo_checked.specs.declared.module.CheckedSetup.TheVariants as checked_setup
use Rattle.ooo_checked.specs.declared.module.CheckedConstructor.{CheckedConstructor}
use Rattle.ooo_checked.specs.declared.module.CheckedConstructor.TheVariants as checked
use Rattle.ooo_checked.specs.Exprs.{resolved, name_notes, expr_of}
use Rattle.ooo_checked.specs.Notes.{Note, Breaks, Checked, breach_when, trees, all_notes}
use Rattle.ooo_checked.specs.Places.{first_of}
use Rattle.ooo_checked.specs.Scopes.{Scope, entered, left, meaning_of, size_of, unknown}
use Rattle.ooo_checked.specs.Stats.{Stepped, events_of}
use Rattle.ooo_checked.specs.Things.{is_known}
use Rattle.ooo_members.specs.declared.known.ModuleFacts.{ModuleFacts}
use Rattle.ooo_members.specs.declared.known.Sofar.{Sofar}
use Rattle.ooo_members.specs.Args.{args_of, constant_right, is_form_of}
use Rattle.ooo_members.specs.Bodies.{params_of}
use Rattle.ooo_members.specs.Declarations.{name_of}
use Rattle.ooo_members.specs.Known.{Modules, Registered, is_process, module_at, params_of as params_of_module, port_of, registration_at, with_process}
use Rattle.ooo_members.specs.Turns.{Turn, in_turn}

-- ---- initialisers

-- the member may be initialised: a channel, a port, an event, a child, a variable of one value that is not static
abbrev pub is_initialisable : Thing → Bool
is_initialisable (thing.Variable k) = true
is_initialisable (thing.Fixed k is_static) = not is_static
is_initialisable (thing.Signal k) = true
is_initialisable (thing.Fifo k) = true
is_initialisable (thing.SignalPort d k) = true
is_initialisable (thing.FifoIn k) = true
is_initialisable (thing.FifoOut k) = true
is_initialisable thing.Event = true
is_initialisable (thing.Instance m) = true
is_initialisable _ = false

-- how many parameters the constructor of a child's module has
abbrev pub params_by : Modules → Thing → Option ℕ
params_by ms (thing.Instance m) = params_of_module (module_at ms m)
params_by ms _ = None

-- a member's initialiser, whose name denotes this thing
abbrev pub member_init_notes : Modules → Init → Thing → List Note
member_init_notes ms i t =
    name_notes t (is_initialisable t) i.name.position
    ++ breach_when (is_initialisable t && not (is_form_of t (params_by ms t) i.args)) what.WrongCount i.name.position

-- the thing is the name that the module is given
abbrev pub is_module_name : Thing → Bool
is_module_name thing.ModuleName = true
is_module_name _ = false

-- the expression is that name
abbrev pub name_step : Expr-F Expr → Scope → Bool
name_step (layer.Name w) s = is_module_name (meaning_of s w.name).thing
name_step _ s = false

-- what is noted of an expression that stands where the name of the module is due
abbrev pub name_due_notes : Expr → Scope → List Note
name_due_notes e s =
    if name_step (out-Expr e) s then [] else (expr_of e s).notes ++ Breaks what.WrongKind (first_of (expr_of e s).tree) ∷ []

-- what `sc_module` is given: the name of the module, or a text
abbrev pub own_name_notes : List Arg → Position → Scope → List Note
own_name_notes (arg.Text t ∷ []) at s = []
own_name_notes (arg.Value e ∷ []) at s = name_due_notes e s
own_name_notes xs at s = Breaks what.WrongCount at ∷ []

-- the word is `sc_module`
abbrev pub is_own_name : Word → Bool
is_own_name w = bytes_eq w.name (codes "sc_module")

-- a member's initialiser, or that of `sc_module`: arguments are looked up in the constructor
abbrev pub init_of : Modules → Denotation → Init → (inside : Scope) → Checked CheckedInit
init_of ms d i inside = if is_own_name i.name
    then record {
      tree = record { name = record { word = i.name; denotes = unknown }; args = trees (args_of i.args inside) };
      notes = own_name_notes i.args i.name.position inside;
    }
    else record {
      tree = record { name = record { word = i.name; denotes = d }; args = trees (args_of i.args inside) };
      notes = member_init_notes ms i d.thing ++ all_notes (args_of i.args inside);
    }

-- initialisers one after the other, whose names denote these
abbrev pub inits_with : Modules → List Denotation → List Init → (inside : Scope) → List (Checked CheckedInit)
inits_with ms (d ∷ ds) (i ∷ is) inside = init_of ms d i inside ∷ inits_with ms ds is inside
inits_with ms ds is inside = []

-- the initialisers of a constructor: their names are looked up in the module
abbrev pub inits_of : Modules → List Init → (inside : Scope) → Scope → List (Checked CheckedInit)
inits_of ms is inside s = inits_with ms (map (λ (i : Init). meaning_of s i.name.name) is) is inside

-- ---- bindings

-- the module of an instance, if it is known
abbrev pub module_of : Modules → Thing → Option ModuleFacts
module_of ms (thing.Instance m) = module_at ms m
module_of ms _ = None

-- the thing is an instance of a module that is not known: that is told where the instance is declared
abbrev pub is_stranger : Modules → Thing → Bool
is_stranger ms (thing.Instance m) = is_none (module_at ms m)
is_stranger ms _ = false

-- what is noted of the name of a port: it has to be one of the instance's module
abbrev pub port_notes : Modules → Thing → Resolved → List Note
port_notes ms t port =
    breach_when (is_known t && not (is_stranger ms t) && not (is_known port.denotes.thing)) what.NotAPort port.word.position

-- an instance, one of its ports and what the port is bound to
abbrev pub binding_of : Modules → Binding → Scope → Checked CheckedBinding
binding_of ms b s =
    let instance = resolved s b.instance in
    let port : Resolved = record { word = b.port; denotes = port_of (module_of ms instance.denotes.thing) b.port.name } in
    let channel = resolved s b.channel in record {
      tree = record { instance = instance; port = port; is_by_bind = b.is_by_bind; channel = channel };
      notes = breach_when (not (is_known instance.denotes.thing)) what.UnknownName b.instance.position
          ++ port_notes ms instance.denotes.thing port
          ++ breach_when (not (is_known channel.denotes.thing)) what.UnknownName b.channel.position;
    }

-- ---- what is set up

-- a process: a function of `void` without parameters that is none yet
abbrev pub process_notes : Registered → Resolved → List Note
process_notes rs r = elim r.denotes.thing [
  | thing.Nothing ↦ Breaks what.UnknownName r.word.position ∷ []
  | thing.Function None params ↦ if params == 0
      then breach_when (is_process (registration_at rs r.denotes.number)) what.DeclaredTwice r.word.position
      else Breaks what.WrongKind r.word.position ∷ []
  | _ ↦ Breaks what.WrongKind r.word.position ∷ []
]

-- what the name of a process denotes in the module, whatever the constructor's parameters are called
abbrev pub in_module : Scope → Word → Resolved
in_module inside w = resolved (left inside) w

-- a process is registered
abbrev pub registering : ProcessKind → Resolved → Sofar → Sofar
registering k r before = record before { registered = with_process before.registered k r.denotes; has_process = true }

-- what is said of the process before: there has to be one
abbrev pub after_process : Sofar → Position → List Note
after_process before at = breach_when (not before.has_process) what.WrongKind at

-- the thing is a variable of one value
abbrev pub is_variable : Thing → Bool
is_variable (thing.Variable k) = true
is_variable _ = false

-- a start value that a constructor gives to a variable
abbrev pub set_of : Word → Expr → Scope → Checked CheckedSetup
set_of w e s =
    let r = resolved s w in
    let value = constant_right e s in record {
      tree = checked_setup.Set r value.tree;
      notes = name_notes r.denotes.thing (is_variable r.denotes.thing) w.position ++ value.notes;
    }

-- a statement of a constructor, behind others
abbrev pub setup_of : Modules → Scope → Setup → Sofar → Turn Sofar CheckedSetup
setup_of ms s (setup.Thread at w) before = record {
  tree = checked_setup.Thread at (in_module s w);
  behind = registering process.Thread (in_module s w) before;
  notes = process_notes before.registered (in_module s w);
}
setup_of ms s (setup.Method at w) before = record {
  tree = checked_setup.Method at (in_module s w);
  behind = registering process.Method (in_module s w) before;
  notes = process_notes before.registered (in_module s w);
}
setup_of ms s (setup.Sensitive at es) before = record {
  tree = checked_setup.Sensitive at (trees (events_of true es s));
  behind = before;
  notes = after_process before at ++ all_notes (events_of true es s);
}
setup_of ms s (setup.DontInitialize at) before =
    record { tree = checked_setup.DontInitialize at; behind = before; notes = after_process before at }
setup_of ms s (setup.Bind b) before =
    record { tree = checked_setup.Bind (binding_of ms b s).tree; behind = before; notes = (binding_of ms b s).notes }
setup_of ms s (setup.Set w e) before =
    record { tree = (set_of w e s).tree; behind = before; notes = (set_of w e s).notes }

-- the statements one after the other
abbrev pub setups_of : Modules → Scope → List Setup → Sofar → Turn Sofar (List CheckedSetup)
setups_of ms s xs before = in_turn (λ x before. setup_of ms s x before) xs before

-- ---- constructors

-- a constructor's name has to be that of its module, and the constructor the only one
abbrev pub constructor_notes : (module_name : List ℕ) → (is_again : Bool) → Word → List Note
constructor_notes module_name is_again w =
    breach_when is_again what.DeclaredTwice w.position
    ++ breach_when (not (bytes_eq w.name module_name)) what.WrongKind w.position

-- the parameters of a constructor: the name that the module is given, and others
abbrev pub head_of : Word → List Param → Scope → Stepped (Resolved × List CheckedParam)
head_of own_name params s =
    let first = name_of (size_of s) thing.ModuleName own_name (entered s) in
    let others = params_of (size_of s) params first.scope in
    record { tree = (first.tree, others.tree); scope = others.scope; notes = first.notes ++ others.notes }

-- what is so behind a constructor
abbrev pub behind_constructor : Sofar → Sofar
behind_constructor before = record before { has_constructor = true }

-- `SC_CTOR`, behind the word that names it
abbrev pub named_of : Modules → Word → List Init → List Setup → Scope → Sofar → Turn Sofar CheckedConstructor
named_of ms w inits xs s before =
    let is = inits_of ms inits (entered s) s in
    let ss = setups_of ms (entered s) xs before in record {
      tree = checked.Named w (trees is) ss.tree;
      behind = behind_constructor ss.behind;
      notes = all_notes is ++ ss.notes;
    }

-- a constructor whose parameters are written, behind the word that names it
abbrev pub written_of : Modules → Word → Word → List Param → List Init → List Setup → Scope → Sofar → Turn Sofar CheckedConstructor
written_of ms w own_name params inits xs s before =
    let head = head_of own_name params s in
    let is = inits_of ms inits head.scope s in
    let ss = setups_of ms head.scope xs before in record {
      tree = checked.Written w head.tree.0 head.tree.1 (trees is) ss.tree;
      behind = behind_constructor ss.behind;
      notes = head.notes ++ all_notes is ++ ss.notes;
    }

-- what comes behind notes
abbrev pub noted_first : {S T : Type 0} → List Note → Turn S T → Turn S T
noted_first ns t = record { tree = t.tree; behind = t.behind; notes = ns ++ t.notes }

-- a constructor
abbrev pub constructor_of : Modules → (module_name : List ℕ) → Scope → Constructor → Sofar → Turn Sofar CheckedConstructor
constructor_of ms module_name s (constructor.Named w inits xs) before =
    noted_first (constructor_notes module_name before.has_constructor w) (named_of ms w inits xs s before)
constructor_of ms module_name s (constructor.Written w own_name params inits xs) before =
    noted_first (constructor_notes module_name before.has_constructor w) (written_of ms w own_name params inits xs s before)
