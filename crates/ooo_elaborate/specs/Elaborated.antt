-- The bound model of a text, or what is refused first: in the walk, among the bindings, among the ports, among the channels.
use Rattle.std.specs.Prelude.{◌≡◌, ℕ, ◌+◌, List, [], ◌∷◌, ◌++◌, length, replicate, Option, Some, None, slice_get, Result, Ok, Err}
use Rattle.ooo_value.specs.declared.bound.BoundChannel.{BoundChannel}
use Rattle.ooo_bound.specs.declared.model.Bound.{Bound}
use Rattle.ooo_bound.specs.declared.model.BoundFunction.{BoundFunction}
use Rattle.ooo_bound.specs.declared.model.BoundProcess.{BoundProcess}
use Rattle.ooo_checked.specs.declared.unit.CheckedUnit.{CheckedUnit}
use Rattle.ooo_constants.specs.declared.meaning.Meaning.{Meaning}
use Rattle.ooo_walk.specs.declared.refusal.ElabError.{ElabError}
use Rattle.ooo_walk.specs.declared.refusal.ElabError.TheVariants as error
use Rattle.ooo_walk.specs.declared.refusal.Refusal.{Refusal}
use Rattle.ooo_walk.specs.declared.state.ProcessForm.{ProcessForm}
use Rattle.ooo_walk.specs.declared.state.ProcessForm.TheVariants.{Clock, Registered}
use Rattle.ooo_walk.specs.declared.state.Walk.{Walk}
use Rattle.ooo_walk.specs.declared.state.WalkedChannel.{WalkedChannel}
use Rattle.ooo_walk.specs.declared.state.WalkedInstance.{WalkedInstance}
use Rattle.ooo_walk.specs.declared.state.WalkedProcess.{WalkedProcess}
use Rattle.ooo_walk.specs.Plans.{Filed, Viewed, function_at}
use Rattle.ooo_walk.specs.Reach.{reached_by}
use Rattle.ooo_walk.specs.Reach.{calls_in}
use Rattle.ooo_walk.specs.Texts.{file_of, walk_of}
use Rattle.ooo_elaborate.specs.declared.bindings.Links.{Links}
use Rattle.ooo_elaborate.specs.declared.functions.Numbered.{Numbered}
use Rattle.ooo_elaborate.specs.declared.holders.Held.{Held}
use Rattle.ooo_elaborate.specs.Bindings.{channels_of, links_of, unbound_from}
use Rattle.ooo_elaborate.specs.Ends.{Holding, body_holds}
use Rattle.ooo_elaborate.specs.Functions.{numbered}
use Rattle.ooo_elaborate.specs.Holders.{functions_hold, holders_refusal}
use Rattle.ooo_elaborate.specs.Holding.{not_held}
use Rattle.ooo_elaborate.specs.declared.processes.Model.{Model}
use Rattle.ooo_elaborate.specs.Processes.{functions_of, members_in, processes_of, view_in}

-- ---- the model

-- the first event of each channel
abbrev pub first_events : List WalkedChannel → List ℕ
first_events [] = []
first_events (c ∷ cs) = c.first_event ∷ first_events cs

abbrev pub bound_channels : List WalkedChannel → List BoundChannel
bound_channels [] = []
bound_channels (c ∷ cs) = c.bound ∷ bound_channels cs

abbrev pub channel_names : List WalkedChannel → List (List ℕ)
channel_names [] = []
channel_names (c ∷ cs) = c.name ∷ channel_names cs

abbrev pub process_names : List WalkedProcess → List (List ℕ)
process_names [] = []
process_names (p ∷ ps) = p.name ∷ process_names ps

-- what the bodies stand in, behind the walk and the bindings
abbrev pub model_of : Walk → Links → Model
model_of w l = record { file = w.file; ports = channels_of l.ends l.ends; events = first_events w.channels }

-- the model that a walk, its bindings and its numbered functions make
abbrev pub assembled : Filed → Walk → Links → Numbered → Bound
assembled f w l n =
    let m = model_of w l in record {
      processes = processes_of f m n.instances w.processes;
      functions = functions_of f m n.instances n.functions;
      variables = w.variables;
      channels = bound_channels w.channels;
      events = w.events;
      stop = w.stop;
      names = record { processes = process_names w.processes; channels = channel_names w.channels };
    }

-- ---- who holds which ends

-- the functions that the function of a process reaches by calls
abbrev pub process_functions : Filed → List WalkedInstance → ProcessForm → List ℕ
process_functions f is (Clock c half line) = []
process_functions f is (Registered k i place function) =
    let v = view_in f (slice_get is i) in reached_by v (calls_in (function_at v function))

-- what the names of a process's instance mean in it
abbrev pub process_members : List WalkedInstance → ProcessForm → List Meaning
process_members is (Clock c half line) = []
process_members is (Registered k i place function) = members_in (slice_get is i)

-- behind the body of process p, if it has one
abbrev pub own_holds : (p : ℕ) → Option BoundProcess → Holding
own_holds p None hs = hs
own_holds p (Some b) hs = body_holds p b.body hs

-- behind the code of process p: its body and the functions that it reaches
abbrev pub process_holds : Filed → List WalkedInstance → Bound → (p : ℕ) → ProcessForm → Holding
process_holds f is b p form hs =
    functions_hold p b.functions (process_members is form) (process_functions f is form)
    (own_holds p (slice_get b.processes p) hs)

-- behind that of processes one after the other, the first of which has number p
abbrev pub processes_hold : Filed → List WalkedInstance → Bound → (p : ℕ) → List WalkedProcess → Holding
processes_hold f is b p [] hs = hs
processes_hold f is b p (x ∷ xs) hs = processes_hold f is b (p + 1) xs (process_holds f is b p x.form hs)

-- the processes that hold each end of each channel of a model
abbrev pub held_in : Filed → Walk → Numbered → Bound → List Held
held_in f w n b = processes_hold f n.instances b 0 w.processes (replicate (length w.channels) not_held)

-- ---- the four passes

-- a model, unless two processes hold one end of a channel
abbrev pub unless_held : Option Refusal → Bound → Result Bound Refusal
unless_held None b = Ok b
unless_held (Some r) b = Err r

-- the pass over the channels
abbrev pub channel_pass : Filed → Walk → Links → Numbered → Result Bound Refusal
channel_pass f w l n =
    let b = assembled f w l n in unless_held (holders_refusal w.processes 0 w.channels (held_in f w n b)) b

-- the pass over the ports: what is refused of them, or the pass over the channels
abbrev pub unless_unbound : Option Refusal → Filed → Walk → Links → Result Bound Refusal
unless_unbound None f w l = channel_pass f w l (numbered f w.instances)
unless_unbound (Some r) f w l = Err r

-- the pass over the bindings: what is refused of them, or the pass over the ports
abbrev pub unless_linked : Option Refusal → Filed → Walk → Links → Result Bound Refusal
unless_linked None f w l = unless_unbound (unbound_from 0 w.ports l.ends) f w l
unless_linked (Some r) f w l = Err r

-- the walk: what is refused in it, or the pass over the bindings
abbrev pub unless_walked : Option Refusal → Filed → Walk → Result Bound Refusal
unless_walked None f w = unless_linked (links_of w).refusal f w (links_of w)
unless_walked (Some r) f w = Err r

-- the bound model of a text, or its first refusal
unfoldable pub bound_of : CheckedUnit → Result Bound Refusal
bound_of u = unless_walked (walk_of u).refusal (file_of u) (walk_of u)

-- an answer: the bound model, or the first refusal, or memory ran out
abbrev pub IsAnswerTo : Result Bound Refusal → Result Bound ElabError → Type 0
IsAnswerTo r (Ok b) = r ≡ Ok b
IsAnswerTo r (Err (error.Refused refusal)) = r ≡ Err refusal
IsAnswerTo r (Err error.OutOfMemory) = Unit
