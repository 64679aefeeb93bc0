-- Which functions of a module wait and call, where nothing is wrong with it.
use Rattle.std.specs.Prelude.{◌≡◌, ℕ, ◌<◌, List, [], false, Some, Contains, map, slice_get}
use Rattle.ooo_lexer.specs.declared.position.Position.{Position}
use Rattle.ooo_syntax.specs.declared.module.Function.{Function}
use Rattle.ooo_syntax.specs.declared.module.Member.TheVariants as written
use Rattle.ooo_syntax.specs.declared.module.Module.{Module}
use Rattle.ooo_calls.specs.declared.call.Call.{Call as Edge}
use Rattle.ooo_calls.specs.Cycles.{is_on_cycle}
use Rattle.ooo_checked.specs.declared.denotation.Resolved.{Resolved}
use Rattle.ooo_checked.specs.declared.module.CheckedMember.{CheckedMember}
use Rattle.ooo_checked.specs.declared.module.CheckedSetup.TheVariants as setup
use Rattle.ooo_checked.specs.Scopes.{Scope}
use Rattle.ooo_bodies.specs.declared.notes.Call.{Call}
use Rattle.ooo_members.specs.declared.known.FunctionFacts.{FunctionFacts}
use Rattle.ooo_members.specs.Bodies.{facts_of}
use Rattle.ooo_members.specs.Members.{functions_of}
use Rattle.ooo_types.specs.Processes.{all_edges}
use Rattle.ooo_sound_text.specs.Modules.{IsRead, names_of, scope_of, view_of}

-- what is known of a function in its module
abbrev pub known_of : Module → (file : Scope) → Function → FunctionFacts
known_of m file f = facts_of f (scope_of m file)

-- the calls among the functions of a module
abbrev pub edges_of : Module → (file : Scope) → List Edge
edges_of m file = all_edges (functions_of m.members (scope_of m file))

-- the numbers of the functions whose calls are noted of a function
abbrev pub called_by : FunctionFacts → List ℕ
called_by f = map (λ (c : Call). c.function) f.calls

-- each call that is noted of a function is one of its module's
abbrev pub CallsAreEdges : Type 0
CallsAreEdges = (file : Scope) (m : Module) (f : Function) (y : ℕ) → Contains m.members (written.Function f) →
    Contains (called_by (known_of m file f)) y → Contains (edges_of m file) (record { from = (known_of m file f).number; to = y })

-- none of them lies on a cycle
abbrev pub NoCallOnCycle : Type 0
NoCallOnCycle = (file : Scope) (m : Module) (ms : List CheckedMember) → IsRead file m ms →
    (c : Edge) → Contains (edges_of m file) c → is_on_cycle (edges_of m file) c ≡ false

-- a function that another one calls doesn't wait
abbrev pub CalledDontWait : Type 0
CalledDontWait = (file : Scope) (m : Module) (ms : List CheckedMember) → IsRead file m ms →
    (f g : Function) → Contains m.members (written.Function f) → Contains m.members (written.Function g) →
    Contains (called_by (known_of m file f)) (known_of m file g).number → (known_of m file g).waits ≡ []

-- nor does one that a constructor registers as a method
abbrev pub MethodsDontWait : Type 0
MethodsDontWait = (file : Scope) (m : Module) (ms : List CheckedMember) → IsRead file m ms →
    (place : ℕ) (at : Position) (r : Resolved) (f : Function) → slice_get (view_of ms).setups place ≡ Some (setup.Method at r) →
    Contains m.members (written.Function f) → (known_of m file f).number ≡ r.denotes.number → r.denotes.number < names_of m file →
    (known_of m file f).waits ≡ []
