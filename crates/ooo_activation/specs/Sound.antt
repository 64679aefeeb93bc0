-- When a bound model is sound.
use Rattle.std.specs.Prelude.{◌≡◌, ℕ, ◌<◌, ◌≤◌, List, length, false, Some, IsSome, IfSome, IsSomeAnd, All, Contains, slice_get}
use Rattle.ooo_time.specs.Scales.{greatest_time}
use Rattle.ooo_value.specs.declared.bound.ProcessKind.TheVariants.{Method}
use Rattle.ooo_code.specs.Sound.{IsOwn, FitsEvent, FitsVariable, FitsChannel, variable_kind, signal_kind, fifo_kind}
use Rattle.ooo_code.specs.Touches.{Touch, WritesSignal, HoldsReading, HoldsWriting}
use Rattle.ooo_bound.specs.declared.expr.BoundExpr.{BoundExpr}
use Rattle.ooo_bound.specs.declared.expr.BoundTime.{BoundTime}
use Rattle.ooo_bound.specs.declared.expr.BoundTime.TheVariants as time
use Rattle.ooo_bound.specs.declared.expr.BoundWait.{BoundWait}
use Rattle.ooo_bound.specs.declared.model.Bound.{Bound}
use Rattle.ooo_bound.specs.declared.model.BoundFunction.{BoundFunction}
use Rattle.ooo_bound.specs.declared.model.BoundProcess.{BoundProcess}
use Rattle.ooo_bound.specs.declared.stat.BoundItem.{BoundItem}
use Rattle.ooo_bound.specs.declared.stat.BoundItem.TheVariants as item
use Rattle.ooo_bound.specs.declared.stat.BoundRight.{BoundRight}
use Rattle.ooo_bound.specs.declared.stat.BoundRight.TheVariants as right
use Rattle.ooo_bound.specs.declared.stat.BoundSimple.{BoundSimple}
use Rattle.ooo_bound.specs.declared.stat.BoundSimple.TheVariants as simple
use Rattle.ooo_bound.specs.declared.stat.BoundStat.{BoundStat}
use Rattle.ooo_bound.specs.declared.stat.BoundTarget.{BoundTarget}
use Rattle.ooo_bound.specs.declared.stat.BoundTarget.TheVariants as target
use Rattle.ooo_activation.specs.Kinds.{expression_kind, simples_in, values_in, some_jumps_out, may_wait, calls_of}
use Rattle.ooo_activation.specs.Touches.{process_touches}

-- ---- statements

-- all that an expression names is there, and is of the kind that it needs
abbrev pub FitsExpr : Bound → BoundExpr → Type 0
FitsExpr b e = IsSome (expression_kind b e)

-- a constant time is at most the greatest one
abbrev pub FitsTime : Bound → BoundTime → Type 0
FitsTime b (time.Fixed t) = t.0 ≤ greatest_time
FitsTime b (time.Amount e scale) = FitsExpr b e

pub record FitsWait (b : Bound) (w : BoundWait) : Type 0 where
  pub time : IfSome w.time (FitsTime b)
  pub events_are : All (λ e. e < length b.events) w.events

abbrev pub FitsTarget : Bound → BoundTarget → Type 0
FitsTarget b (target.Variable x) = IsSome (variable_kind (slice_get b.variables x))
FitsTarget b (target.Element x i) = IsSome (variable_kind (slice_get b.variables x)) × FitsExpr b i
FitsTarget b (target.Signal c) = IsSome (signal_kind (slice_get b.channels c))
FitsTarget b _ = Unit {0}

-- a call finds its function, and has an argument for each parameter
abbrev pub FitsCall : Bound → List BoundExpr → BoundFunction → Type 0
FitsCall b args f = (length args ≡ length f.params) × All (FitsExpr b) args

abbrev pub FitsRight : Bound → BoundRight → Type 0
FitsRight b (right.Value e) = FitsExpr b e
FitsRight b (right.Call f args) = IsSomeAnd (slice_get b.functions f) (FitsCall b args)
FitsRight b (right.Read c) = IsSome (fifo_kind (slice_get b.channels c))
FitsRight b (right.NbRead c into) = IsSome (fifo_kind (slice_get b.channels c)) × FitsTarget b into
FitsRight b (right.NbWrite c e) = IsSome (fifo_kind (slice_get b.channels c)) × FitsExpr b e

abbrev pub FitsItem : Bound → BoundItem → Type 0
FitsItem b (item.Value e) = FitsExpr b e
FitsItem b _ = Unit {0}

-- all that a statement names is there, and is of the kind that it needs
abbrev pub FitsSimple : Bound → BoundSimple → Type 0
FitsSimple b (simple.Assign t r) = FitsTarget b t × FitsRight b r
FitsSimple b (simple.Update t op e) = FitsTarget b t × FitsExpr b e
FitsSimple b (simple.Write c e) = IsSome (fifo_kind (slice_get b.channels c)) × FitsExpr b e
FitsSimple b (simple.Notify e t) = IsOwn (slice_get b.events e) × FitsTime b t
FitsSimple b (simple.Cancel e) = IsOwn (slice_get b.events e)
FitsSimple b (simple.Wait w) = FitsWait b w
FitsSimple b (simple.NextTrigger w) = FitsWait b w
FitsSimple b simple.Stop = Unit {0}
FitsSimple b (simple.Print items) = All (FitsItem b) items

-- ---- bodies

-- all that a body names is there, and no jump leaves it
pub record FitsBody (b : Bound) (body : List BoundStat) : Type 0 where
  pub simples : All (λ x. FitsSimple b x.simple) (simples_in body)
  pub values : All (FitsExpr b) (values_in body)
  pub jumps : some_jumps_out body ≡ false

-- no statement of a body waits
abbrev pub NeverWaits : List BoundStat → Type 0
NeverWaits body = All (λ x. may_wait x.simple ≡ false) (simples_in body)

pub record FitsFunction (b : Bound) (f : BoundFunction) : Type 0 where
  pub body : FitsBody b f.body
  pub waits : NeverWaits f.body

pub record FitsProcess (b : Bound) (process : BoundProcess) : Type 0 where
  pub body : FitsBody b process.body
  pub waits : process.kind ≡ Method → NeverWaits process.body
  pub events : All (λ e. e < length b.events) process.sensitive

-- ---- calls

-- a body calls a function
abbrev pub Calls : List BoundStat → ℕ → Type 0
Calls body f = Contains (calls_of (simples_in body)) f

-- each function has a rank, of which there are as many as functions, and calls functions of lower ranks: none reaches itself
-- by calls
pub record AreRanked (functions : List BoundFunction) : Type 0 where
  pub rank : ℕ → ℕ
  pub bounded : (f : ℕ) → f < length functions → rank f < length functions
  pub falls : (f g : ℕ) (function : BoundFunction) → slice_get functions f ≡ Some function → Calls function.body g → rank g < rank f

-- ---- one writer, and one holder of each end

-- the code of process p touches it
pub record Uses (b : Bound) (p : ℕ) (touch : Touch) : Type 0 where
  pub process : BoundProcess
  pub is : slice_get b.processes p ≡ Some process
  pub touches : Contains (process_touches b process) touch

-- no two processes touch it
abbrev pub IsOfOne : Bound → Touch → Type 0
IsOfOne b touch = (p q : ℕ) → Uses b p touch → Uses b q touch → p ≡ q

-- ---- sound models

-- all numbers are in range and the kinds agree; no function reaches itself by calls; only threads wait, and not in functions
-- that they call; each signal has one writer (IEEE 1666-2011, 6.4), and each end of a fifo one process that holds it
pub record IsSound (b : Bound) : Type 0 where
  pub variables : All FitsVariable b.variables
  pub channels : All FitsChannel b.channels
  pub events : All (FitsEvent b.channels) b.events
  pub functions : All (FitsFunction b) b.functions
  pub processes : All (FitsProcess b) b.processes
  pub ranked : AreRanked b.functions
  pub writers : (c : ℕ) → IsOfOne b (WritesSignal c)
  pub reading_ends : (c : ℕ) → IsOfOne b (HoldsReading c)
  pub writing_ends : (c : ℕ) → IsOfOne b (HoldsWriting c)
