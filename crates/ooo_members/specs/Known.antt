-- What is known of the modules before, and of a module's functions and processes.
use Rattle.std.specs.Prelude.{ℕ, List, [], ◌∷◌, Bool, true, false, ◌||◌, Option, Some, None, slice_get, slice_set, if◌then◌else◌}
use Rattle.std.specs.Option.{unwrap_or}
use Rattle.ooo_lexer.specs.declared.position.Position.{Position}
use Rattle.ooo_value.specs.declared.bound.ProcessKind.{ProcessKind}
use Rattle.ooo_value.specs.declared.bound.ProcessKind.TheVariants as process
use Rattle.ooo_checked.specs.declared.denotation.Denotation.{Denotation}
use Rattle.ooo_checked.specs.declared.denotation.Thing.{Thing}
use Rattle.ooo_checked.specs.declared.denotation.Thing.TheVariants as thing
use Rattle.ooo_checked.specs.Notes.{Note, Breaks, Calls, Waits, Triggers}
use Rattle.ooo_checked.specs.Scopes.{meaning_of, unknown}
use Rattle.ooo_bodies.specs.declared.notes.Call.{Call}
use Rattle.ooo_members.specs.declared.known.ModuleFacts.{ModuleFacts}
use Rattle.ooo_members.specs.declared.known.Registration.{Registration}

-- ---- modules

-- of each name that the file has declared so far, the module that it names; of another thing nothing is known
abbrev pub Modules : Type 0
Modules = List (Option ModuleFacts)

-- the thing is a port
abbrev pub is_port : Thing → Bool
is_port (thing.SignalPort d k) = true
is_port (thing.FifoIn k) = true
is_port (thing.FifoOut k) = true
is_port _ = false

-- a port, or nothing that is known
abbrev pub only_port : Denotation → Denotation
only_port d = if is_port d.thing then d else unknown

-- the module of this number, if it is one
abbrev pub module_found : Option (Option ModuleFacts) → Option ModuleFacts
module_found None = None
module_found (Some m) = m

abbrev pub module_at : Modules → ℕ → Option ModuleFacts
module_at ms n = module_found (slice_get ms n)

-- what a name denotes among a module's ports
abbrev pub port_of : Option ModuleFacts → List ℕ → Denotation
port_of None name = unknown
port_of (Some m) name = only_port (meaning_of m.names name)

-- how many parameters the constructor of a module has
abbrev pub params_of : Option ModuleFacts → Option ℕ
params_of None = None
params_of (Some m) = Some m.params

-- ---- processes

-- of each name that a module declares, by which words it is registered as a process
abbrev pub Registered : Type 0
Registered = List Registration

-- as nothing
abbrev pub not_registered : Registration
not_registered = record { as_thread = false; as_method = false }

-- how the function of this number is registered
abbrev pub registration_at : Registered → ℕ → Registration
registration_at rs n = unwrap_or (slice_get rs n) not_registered

-- it is a process
abbrev pub is_process : Registration → Bool
is_process r = r.as_thread || r.as_method

-- registered by one word more
abbrev pub registered_as : ProcessKind → Registration → Registration
registered_as process.Thread r = record r { as_thread = true }
registered_as process.Method r = record r { as_method = true }

-- a function is registered
abbrev pub with_process : Registered → ProcessKind → Denotation → Registered
with_process rs k d = elim d.thing [
  | thing.Function gives params ↦ slice_set rs d.number (registered_as k (registration_at rs d.number))
  | _ ↦ rs
]

-- ---- functions

-- the calls of what is noted of a function
abbrev pub calls_in : List Note → List Call
calls_in [] = []
calls_in (Calls at n ∷ ns) = record { at = at; function = n } ∷ calls_in ns
calls_in (Breaks w at ∷ ns) = calls_in ns
calls_in (Waits at ∷ ns) = calls_in ns
calls_in (Triggers at ∷ ns) = calls_in ns

-- its waits
abbrev pub waits_in : List Note → List Position
waits_in [] = []
waits_in (Waits at ∷ ns) = at ∷ waits_in ns
waits_in (Breaks w at ∷ ns) = waits_in ns
waits_in (Calls at n ∷ ns) = waits_in ns
waits_in (Triggers at ∷ ns) = waits_in ns

-- and its `next_trigger`s
abbrev pub triggers_in : List Note → List Position
triggers_in [] = []
triggers_in (Triggers at ∷ ns) = at ∷ triggers_in ns
triggers_in (Breaks w at ∷ ns) = triggers_in ns
triggers_in (Calls at n ∷ ns) = triggers_in ns
triggers_in (Waits at ∷ ns) = triggers_in ns
