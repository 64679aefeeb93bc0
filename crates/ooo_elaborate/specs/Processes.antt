-- The processes and functions of a bound model.
use Rattle.std.specs.Prelude.{ℕ, ◌+◌, List, [], ◌∷◌, ◌++◌, drop, Bool, true, false, ◌&&◌, Option, Some, None, slice_get, pos}
use Rattle.ooo_time.specs.declared.time.Time.{Time}
use Rattle.ooo_value.specs.declared.bound.ProcessKind.{ProcessKind}
use Rattle.ooo_value.specs.declared.bound.ProcessKind.TheVariants as process
use Rattle.ooo_value.specs.declared.kinds.Kind.{Kind}
use Rattle.ooo_value.specs.declared.values.Value.TheVariants as value
use Rattle.ooo_syntax.specs.declared.module.ResultForm.{ResultForm}
use Rattle.ooo_syntax.specs.declared.module.ResultForm.TheVariants as result
use Rattle.ooo_bound.specs.declared.expr.BoundExpr.TheVariants as bound
use Rattle.ooo_bound.specs.declared.expr.BoundTime.TheVariants as bound_time
use Rattle.ooo_bound.specs.declared.model.BoundFunction.{BoundFunction}
use Rattle.ooo_bound.specs.declared.model.BoundProcess.{BoundProcess}
use Rattle.ooo_bound.specs.declared.stat.BoundRight.TheVariants as right
use Rattle.ooo_bound.specs.declared.stat.BoundSimple.{BoundSimple}
use Rattle.ooo_bound.specs.declared.stat.BoundSimple.TheVariants as simple
use Rattle.ooo_bound.specs.declared.stat.BoundStat.{BoundStat}
use Rattle.ooo_bound.specs.declared.stat.BoundStat.TheVariants as stat
use Rattle.ooo_bound.specs.declared.stat.BoundTarget.TheVariants as target
use Rattle.ooo_checked.specs.declared.module.CheckedFunction.{CheckedFunction}
use Rattle.ooo_checked.specs.declared.module.CheckedParam.{CheckedParam}
use Rattle.ooo_checked.specs.declared.module.CheckedSetup.{CheckedSetup}
use Rattle.ooo_checked.specs.declared.module.CheckedSetup.TheVariants as setup
use Rattle.ooo_checked.specs.declared.stat.CheckedStat.{CheckedStat}
use Rattle.ooo_checked.specs.Exprs.{kind_written}
use Rattle.ooo_constants.specs.declared.meaning.Meaning.{Meaning}
use Rattle.ooo_numbers.specs.Names.{Numbering, events_of}
use Rattle.ooo_numbers.specs.Stats.{stats_of}
use Rattle.ooo_walk.specs.declared.state.ProcessForm.{ProcessForm}
use Rattle.ooo_walk.specs.declared.state.ProcessForm.TheVariants.{Clock, Registered}
use Rattle.ooo_walk.specs.declared.state.WalkedInstance.{WalkedInstance}
use Rattle.ooo_walk.specs.declared.state.WalkedProcess.{WalkedProcess}
use Rattle.ooo_walk.specs.Plans.{Filed, Viewed, function_at, view_at}
use Rattle.ooo_elaborate.specs.declared.functions.WalkedFunction.{WalkedFunction}
use Rattle.ooo_elaborate.specs.declared.processes.Model.{Model}

-- ---- what bodies stand in

-- what the bodies of an instance stand in
abbrev pub numbering_in : Model → List Meaning → Numbering
numbering_in m members = record { file = m.file; members = members; ports = m.ports; events = m.events }

-- what the names of an instance's module mean in it, and the module
abbrev pub members_in : Option WalkedInstance → List Meaning
members_in None = []
members_in (Some i) = i.members

abbrev pub view_in : Filed → Option WalkedInstance → Viewed
view_in f None = view_at f 0
view_in f (Some i) = view_at f i.module_number

-- ---- clocks

-- a step of a clock's body, on the line of its declaration
abbrev pub clock_step : (line : ℕ) → BoundSimple → BoundStat
clock_step line x = stat.Simple (record { line = line; simple = x })

-- the signal gets a value
abbrev pub clock_write : (c : ℕ) → Bool → BoundSimple
clock_write c up = simple.Assign (target.Signal c) (right.Value (bound.Constant (value.Bool up)))

-- half the period passes
abbrev pub clock_wait : Time → BoundSimple
clock_wait half = simple.Wait (record { time = Some (bound_time.Fixed half); events = []; is_static = false })

-- a clock's body: it is true for half its period, and false for the other half, for ever (IEEE 1666-2011, 6.7)
abbrev pub clock_body : (c : ℕ) → (half : Time) → (line : ℕ) → List BoundStat
clock_body c half line =
    stat.Do line (stat.Block (clock_step line (clock_write c true) ∷ clock_step line (clock_wait half)
    ∷ clock_step line (clock_write c false) ∷ clock_step line (clock_wait half) ∷ [])) (bound.Constant (value.Bool true))
    ∷ []

-- ---- what is said of a process

-- what a constructor says of the process before: up to the next one
abbrev pub sensitive_by : Numbering → List CheckedSetup → List ℕ
sensitive_by n [] = []
sensitive_by n (setup.Thread at r ∷ xs) = []
sensitive_by n (setup.Method at r ∷ xs) = []
sensitive_by n (setup.Sensitive at es ∷ xs) = events_of n es ++ sensitive_by n xs
sensitive_by n (x ∷ xs) = sensitive_by n xs

abbrev pub initialized_by : List CheckedSetup → Bool
initialized_by [] = true
initialized_by (setup.Thread at r ∷ xs) = true
initialized_by (setup.Method at r ∷ xs) = true
initialized_by (setup.DontInitialize at ∷ xs) = false
initialized_by (x ∷ xs) = initialized_by xs

-- ---- processes and functions

-- the statements of a function
abbrev pub body_in : Option CheckedFunction → List CheckedStat
body_in None = []
body_in (Some f) = f.body

-- a process of an instance, whose function has this number and is registered at this place
abbrev pub registered_of : Model → Viewed → List Meaning → ProcessKind → (place function : ℕ) → BoundProcess
registered_of m v members k place function =
    let n = numbering_in m members in record {
      kind = k;
      body = stats_of n (body_in (function_at v function));
      sensitive = sensitive_by n (drop (place + 1) v.setups);
      initialize = initialized_by (drop (place + 1) v.setups);
    }

-- a process
abbrev pub process_of : Filed → Model → List WalkedInstance → ProcessForm → BoundProcess
process_of f m is (Clock c half line) =
    record { kind = process.Thread; body = clock_body c half line; sensitive = []; initialize = true }
process_of f m is (Registered k i place function) =
    registered_of m (view_in f (slice_get is i)) (members_in (slice_get is i)) k place function

abbrev pub processes_of : Filed → Model → List WalkedInstance → List WalkedProcess → List BoundProcess
processes_of f m is [] = []
processes_of f m is (p ∷ ps) = process_of f m is p.form ∷ processes_of f m is ps

-- the kinds of parameters
abbrev pub kinds_of : List CheckedParam → List Kind
kinds_of [] = []
kinds_of (p ∷ ps) = kind_written p.form.form ∷ kinds_of ps

-- the kind of what a function gives
abbrev pub result_of : ResultForm → Option Kind
result_of result.Nothing = None
result_of (result.Value t) = Some (kind_written t.form)

-- a function of an instance
abbrev pub function_of : Model → List Meaning → Option CheckedFunction → BoundFunction
function_of m members None = record { result = None; params = []; body = [] }
function_of m members (Some f) = record {
  result = result_of f.result;
  params = kinds_of f.params;
  body = stats_of (numbering_in m members) f.body;
}

abbrev pub walked_function_of : Filed → Model → List WalkedInstance → WalkedFunction → BoundFunction
walked_function_of f m is x =
    let i = slice_get is x.instance in function_of m (members_in i) (function_at (view_in f i) x.function)

-- the functions of a model
abbrev pub functions_of : Filed → Model → List WalkedInstance → List WalkedFunction → List BoundFunction
functions_of f m is [] = []
functions_of f m is (x ∷ xs) = walked_function_of f m is x ∷ functions_of f m is xs
