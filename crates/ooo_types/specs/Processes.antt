-- Which functions of a module may wait, and which calls lie on a cycle.
use Rattle.std.specs.Prelude.{ℕ, List, [], ◌∷◌, ◌++◌, map, Bool, not, ◌&&◌}
use Rattle.ooo_lexer.specs.declared.position.Position.{Position}
use Rattle.ooo_calls.specs.declared.call.Call.{Call as Edge}
use Rattle.ooo_calls.specs.Cycles.{is_called, is_on_cycle}
use Rattle.ooo_checked.specs.declared.breach.TypeBreach.TheVariants as what
use Rattle.ooo_checked.specs.Notes.{Note, breach_when}
use Rattle.ooo_bodies.specs.declared.notes.Call.{Call}
use Rattle.ooo_members.specs.declared.known.FunctionFacts.{FunctionFacts}
use Rattle.ooo_members.specs.Known.{Registered, is_process, registration_at}

-- the calls of a function, each with the numbers of both functions
abbrev pub edges_of : FunctionFacts → List Edge
edges_of f = map (λ (c : Call). record { from = f.number; to = c.function }) f.calls

-- the calls of all functions
abbrev pub all_edges : List FunctionFacts → List Edge
all_edges [] = []
all_edges (f ∷ fs) = edges_of f ++ all_edges fs

-- calls in the function of this number that lie on a cycle
abbrev pub call_notes : List Edge → (number : ℕ) → List Call → List Note
call_notes es number [] = []
call_notes es number (c ∷ cs) =
    breach_when (is_on_cycle es (record { from = number; to = c.function })) what.RecursiveCall c.at ++ call_notes es number cs

-- a wait where a process may not wait: in a method, or in a function that is called or is no process (IEEE 1666-2011, 5.2.10)
abbrev pub wait_notes_at : (is_method may_wait : Bool) → Position → List Note
wait_notes_at is_method may_wait at =
    breach_when is_method what.WaitInMethod at ++ breach_when (not may_wait) what.WaitInFunction at

abbrev pub wait_notes : (is_method may_wait : Bool) → List Position → List Note
wait_notes is_method may_wait [] = []
wait_notes is_method may_wait (at ∷ ats) = wait_notes_at is_method may_wait at ++ wait_notes is_method may_wait ats

-- a `next_trigger` elsewhere than in a method
abbrev pub trigger_notes : (is_method : Bool) → List Position → List Note
trigger_notes is_method [] = []
trigger_notes is_method (at ∷ ats) = breach_when (not is_method) what.WrongKind at ++ trigger_notes is_method ats

-- waits and `next_trigger`s in a function
abbrev pub other_notes : List Edge → Registered → FunctionFacts → List Note
other_notes es rs f =
    let registration = registration_at rs f.number in
    wait_notes registration.as_method (is_process registration && not (is_called es f.number)) f.waits
    ++ trigger_notes registration.as_method f.triggers

-- what hangs on all functions, of one of them
abbrev pub function_notes : List Edge → Registered → FunctionFacts → List Note
function_notes es rs f = call_notes es f.number f.calls ++ other_notes es rs f

-- of all functions
abbrev pub functions_notes : List Edge → Registered → List FunctionFacts → List Note
functions_notes es rs [] = []
functions_notes es rs (f ∷ fs) = function_notes es rs f ++ functions_notes es rs fs
