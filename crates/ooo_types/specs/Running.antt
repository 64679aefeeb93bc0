-- What is noted of functions, where each call is known by its place among all calls.
use Rattle.std.specs.Prelude.{ℕ, ◌+◌, List, [], ◌∷◌, ◌++◌, length, Bool, false, slice_get}
use Rattle.std.specs.Option.{option_map, unwrap_or}
use Rattle.ooo_calls.specs.declared.call.Call.{Call as Edge}
use Rattle.ooo_calls.specs.Cycles.{is_on_cycle}
use Rattle.ooo_checked.specs.declared.breach.TypeBreach.TheVariants as what
use Rattle.ooo_checked.specs.Notes.{Note, breach_when}
use Rattle.ooo_bodies.specs.declared.notes.Call.{Call}
use Rattle.ooo_members.specs.declared.known.FunctionFacts.{FunctionFacts}
use Rattle.ooo_members.specs.Known.{Registered}
use Rattle.ooo_types.specs.Processes.{other_notes}

-- the call at a place lies on a cycle
abbrev pub is_cyclic : List Edge → ℕ → Bool
is_cyclic es place = unwrap_or (option_map (is_on_cycle es) (slice_get es place)) false

-- calls whose places go on from one
abbrev pub calls_from : List Edge → ℕ → List Call → List Note
calls_from es place [] = []
calls_from es place (c ∷ cs) =
    breach_when (is_cyclic es place) what.RecursiveCall c.at ++ calls_from es (place + 1) cs

-- a function whose calls have places from one on
abbrev pub function_from : List Edge → Registered → ℕ → FunctionFacts → List Note
function_from es rs place f = calls_from es place f.calls ++ other_notes es rs f

-- functions whose calls have places from one on
abbrev pub functions_from : List Edge → Registered → ℕ → List FunctionFacts → List Note
functions_from es rs place [] = []
functions_from es rs place (f ∷ fs) =
    function_from es rs place f ++ functions_from es rs (place + length f.calls) fs
