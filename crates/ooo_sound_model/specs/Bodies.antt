-- The bodies of an instance's module that are part of a model, and what is asked of them.
use Rattle.std.specs.Prelude.{◌≡◌, ℕ, ◌<◌, List, map, length, Bool, true, false, Option, Some, IsSome, All, Contains, slice_get}
use Rattle.ooo_value.specs.declared.bound.ProcessKind.{ProcessKind}
use Rattle.ooo_value.specs.declared.bound.ProcessKind.TheVariants as process
use Rattle.ooo_bound.specs.declared.model.Bound.{Bound}
use Rattle.ooo_calls.specs.declared.call.Call.{Call}
use Rattle.ooo_checked.specs.declared.module.CheckedFunction.{CheckedFunction}
use Rattle.ooo_checked.specs.declared.module.CheckedSetup.{CheckedSetup}
use Rattle.ooo_checked.specs.declared.module.CheckedSetup.TheVariants as setup
use Rattle.ooo_checked.specs.declared.stat.CheckedStat.{CheckedStat}
use Rattle.ooo_checked.specs.declared.unit.CheckedUnit.{CheckedUnit}
use Rattle.ooo_constants.specs.Bodies.{body_calls}
use Rattle.ooo_constants.specs.declared.meaning.Meaning.{Meaning}
use Rattle.ooo_numbers.specs.Names.{Numbering, function_meant}
use Rattle.ooo_numbers.specs.Stats.{stats_of}
use Rattle.ooo_walk.specs.declared.state.ProcessForm.TheVariants.{Registered}
use Rattle.ooo_walk.specs.declared.state.Walk.{Walk}
use Rattle.ooo_walk.specs.declared.state.WalkedInstance.{WalkedInstance}
use Rattle.ooo_walk.specs.declared.state.WalkedProcess.{WalkedProcess}
use Rattle.ooo_walk.specs.Plans.{Filed, Viewed, function_at, view_at}
use Rattle.ooo_walk.specs.Reach.{has}
use Rattle.ooo_walk.specs.Texts.{file_of, walk_of}
use Rattle.ooo_elaborate.specs.Bindings.{links_of}
use Rattle.ooo_elaborate.specs.Elaborated.{model_of}
use Rattle.ooo_elaborate.specs.Functions.{functions_in, numbered}
use Rattle.ooo_elaborate.specs.Processes.{members_in, numbering_in}
use Rattle.ooo_sound_model.specs.Ranks.{HasNoCycle}
use Rattle.ooo_sound_model.specs.Fitting.{FitsWith}
use Rattle.ooo_sound_model.specs.Naming.{Leave}

-- ---- processes

-- a statement of a constructor registers the function of this number as a process of this kind
abbrev pub IsRegistration : ProcessKind → (function : ℕ) → Option CheckedSetup → Type 0
IsRegistration k x (Some (setup.Thread at r)) = (k ≡ process.Thread) × (r.denotes.number ≡ x)
IsRegistration k x (Some (setup.Method at r)) = (k ≡ process.Method) × (r.denotes.number ≡ x)
IsRegistration k x _ = ⊥

-- a process of an instance is registered at this place of its module's constructor
pub record IsRegistered (f : Filed) (is : List WalkedInstance) (k : ProcessKind) (i place function : ℕ) : Type 0 where
  pub instance : WalkedInstance
  pub there : slice_get is i ≡ Some instance
  pub by : IsRegistration k function (slice_get (view_at f instance.module_number).setups place)

-- each process of a walk is, but for those of clocks
abbrev pub AreRegistered : Filed → Walk → Type 0
AreRegistered f w = (p : ℕ) (x : WalkedProcess) (k : ProcessKind) (i place function : ℕ) → slice_get w.processes p ≡ Some x →
    x.form ≡ Registered k i place function → IsRegistered f w.instances k i place function

-- a process of this kind may wait
abbrev pub is_thread : ProcessKind → Bool
is_thread process.Thread = true
is_thread process.Method = false

-- ---- bodies

-- a body may call the functions that it calls by name, and these are those of the model that the names mean
abbrev pub leave_of : List Meaning → (waits : Bool) → List CheckedStat → Leave
leave_of members waits body = record {
  calls = body_calls body;
  functions = map (λ x. function_meant (slice_get members x)) (body_calls body);
  waits = waits;
}

-- with numbers in place of names a body of a module fits the model, and it calls functions of the module
pub record FitsNumbered (b : Bound) (n : Numbering) (v : Viewed) (waits : Bool) (body : List CheckedStat) : Type 0 where
  pub fits : FitsWith b (leave_of n.members waits body) (stats_of n body)
  pub calls : All (λ x. IsSome (function_at v x)) (body_calls body)

-- each body of a module that is part of the model does: those of the functions that are reached by calls, which don't wait,
-- and those of the processes
pub record FitsModule (b : Bound) (n : Numbering) (v : Viewed) : Type 0 where
  pub functions : (x : ℕ) (f : CheckedFunction) → has (functions_in v) x ≡ true → function_at v x ≡ Some f → FitsNumbered b n v false f.body
  pub processes : (k : ProcessKind) (place x : ℕ) (f : CheckedFunction) → IsRegistration k x (slice_get v.setups place) →
      function_at v x ≡ Some f → FitsNumbered b n v (is_thread k) f.body

-- what the bodies of an instance of a text stand in, once its functions have numbers
abbrev pub numbering_at : CheckedUnit → (place : ℕ) → Numbering
numbering_at u place =
    let w = walk_of u in
    numbering_in (model_of w (links_of w)) (members_in (slice_get (numbered (file_of u) w.instances).instances place))

-- each function of an instance's module has a name there, and the bodies fit the model
pub record FitsInstance (u : CheckedUnit) (b : Bound) (place : ℕ) (i : WalkedInstance) : Type 0 where
  pub named : (x : ℕ) (f : CheckedFunction) → function_at (view_at (file_of u) i.module_number) x ≡ Some f → x < length i.members
  pub bodies : FitsModule b (numbering_at u place) (view_at (file_of u) i.module_number)

-- of each instance
abbrev pub FitInstances : CheckedUnit → Bound → Type 0
FitInstances u b = (place : ℕ) (i : WalkedInstance) → slice_get (walk_of u).instances place ≡ Some i → FitsInstance u b place i

-- ---- the order of functions

-- no call among the functions of a module lies on a cycle of calls
pub record HasOrder (v : Viewed) : Type 0 where
  pub calls : List Call
  pub all : (x y : ℕ) (f : CheckedFunction) → function_at v x ≡ Some f → Contains (body_calls f.body) y →
      Contains calls (record { from = x; to = y })
  pub no_cycle : HasNoCycle calls
