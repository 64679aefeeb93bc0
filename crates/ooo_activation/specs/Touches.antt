-- What statements touch, whichever way their tests go: variables, signals, the ends of fifos, and events.
use Rattle.std.specs.Prelude.{ℕ, zero, suc, ◌==◌, if◌then◌else◌, List, [], ◌∷◌, ◌++◌, length, Option, Some, None, slice_get}
use Rattle.ooo_time.specs.declared.time.Time.{Time}
use Rattle.ooo_value.specs.declared.bound.BoundEvent.{BoundEvent}
use Rattle.ooo_code.specs.Touches.{Touch, Reads, Writes, ReadsSignal, WritesSignal, HoldsReading, HoldsWriting, Notifies, Cancels, numbers_where, is_of_signal, is_data_written, is_data_read, notified_next}
use Rattle.ooo_bound.specs.declared.expr.BoundExpr.{BoundExpr, BoundExpr-F, fold-BoundExpr}
use Rattle.ooo_bound.specs.declared.expr.BoundExpr.TheOpen as layer
use Rattle.ooo_bound.specs.declared.expr.BoundTime.{BoundTime}
use Rattle.ooo_bound.specs.declared.expr.BoundTime.TheVariants as time
use Rattle.ooo_bound.specs.declared.model.Bound.{Bound}
use Rattle.ooo_bound.specs.declared.model.BoundFunction.{BoundFunction}
use Rattle.ooo_bound.specs.declared.model.BoundProcess.{BoundProcess}
use Rattle.ooo_bound.specs.declared.stat.BoundItem.{BoundItem}
use Rattle.ooo_bound.specs.declared.stat.BoundItem.TheVariants as item
use Rattle.ooo_bound.specs.declared.stat.BoundRight.{BoundRight}
use Rattle.ooo_bound.specs.declared.stat.BoundRight.TheVariants as right
use Rattle.ooo_bound.specs.declared.stat.BoundSimple.{BoundSimple}
use Rattle.ooo_bound.specs.declared.stat.BoundSimple.TheVariants as simple
use Rattle.ooo_bound.specs.declared.stat.BoundStat.{BoundStat, BoundStat-F, fold-BoundStat}
use Rattle.ooo_bound.specs.declared.stat.BoundStat.TheOpen as stat
use Rattle.ooo_bound.specs.declared.stat.BoundTarget.{BoundTarget}
use Rattle.ooo_bound.specs.declared.stat.BoundTarget.TheVariants as target
use Rattle.ooo_bound.specs.declared.stat.LinedSimple.{LinedSimple}

abbrev pub Touched : Type 0
Touched = List Touch

-- ---- expressions

-- what each form of expression reads: all that its parts read, whether they are evaluated or not
abbrev pub reads_step : BoundExpr-F Touched → Touched
reads_step (layer.Constant v) = []
reads_step (layer.Local k n) = []
reads_step (layer.Variable x) = Reads x ∷ []
reads_step (layer.Element x i) = Reads x ∷ i
reads_step (layer.Signal c) = ReadsSignal c ∷ []
reads_step (layer.Changed c) = ReadsSignal c ∷ []
reads_step (layer.Edge c up) = ReadsSignal c ∷ []
reads_step (layer.Available c) = HoldsReading c ∷ []
reads_step (layer.Free c) = HoldsWriting c ∷ []
reads_step (layer.Convert k e) = e
reads_step (layer.Promote e) = e
reads_step (layer.Negate e) = e
reads_step (layer.Invert e) = e
reads_step (layer.Not e) = e
reads_step (layer.Binary op a b) = a ++ b
reads_step (layer.Both a b) = a ++ b
reads_step (layer.Either a b) = a ++ b
reads_step (layer.Choose k c a b) = c ++ a ++ b

unfoldable pub reads_of : BoundExpr → Touched
reads_of e = fold-BoundExpr Touched reads_step e

abbrev pub option_reads : Option BoundExpr → Touched
option_reads None = []
option_reads (Some e) = reads_of e

-- what the arguments of a call read, as many as there are parameters
abbrev pub arguments_read : {K : Type 0} → List K → List BoundExpr → Touched
arguments_read (k ∷ ks) (e ∷ es) = reads_of e ++ arguments_read ks es
arguments_read _ _ = []

-- of a time that is computed, what its amount reads
abbrev pub time_reads : BoundTime → Touched
time_reads (time.Fixed t) = []
time_reads (time.Amount e scale) = reads_of e

abbrev pub wait_reads : Option BoundTime → Touched
wait_reads None = []
wait_reads (Some t) = time_reads t

-- the time of a notification that is constant and not zero
abbrev pub constant_delay : BoundTime → Option Time
constant_delay (time.Fixed t) = if t.0 == 0 then None else Some t
constant_delay (time.Amount e scale) = None

-- ---- statements without statements in them

-- what is called: the parameters of a function and what its body touches, if there is the function
pub record Called : Type 0 where
  pub function : BoundFunction
  pub touched : Touched

-- the functions that may be called
abbrev pub Callees : Type 0
Callees = ℕ → Option Called

-- what putting a value into a target touches
abbrev pub target_touches : List BoundEvent → BoundTarget → Touched
target_touches events target.Nothing = []
target_touches events (target.Local k n) = []
target_touches events (target.Variable x) = Writes x ∷ []
target_touches events (target.Element x i) = Writes x ∷ reads_of i
target_touches events (target.Signal c) = WritesSignal c ∷ notified_next (numbers_where (is_of_signal c) 0 events)

-- what reading a target touches, as `a op= b` does
abbrev pub target_reads : BoundTarget → Touched
target_reads target.Nothing = []
target_reads (target.Local k n) = []
target_reads (target.Variable x) = Reads x ∷ []
target_reads (target.Element x i) = Reads x ∷ []
target_reads (target.Signal c) = ReadsSignal c ∷ []

-- what taking a value of a fifo touches, and what putting one does (6.23)
abbrev pub take_touches : List BoundEvent → ℕ → Touched
take_touches events c = HoldsReading c ∷ notified_next (numbers_where (is_data_read c) 0 events)

abbrev pub put_touches : List BoundEvent → ℕ → Touched
put_touches events c = HoldsWriting c ∷ notified_next (numbers_where (is_data_written c) 0 events)

-- what a call touches: its arguments and the function's body
abbrev pub call_touches : Option Called → List BoundExpr → Touched
call_touches None args = []
call_touches (Some f) args = arguments_read f.function.params args ++ f.touched

abbrev pub right_touches : List BoundEvent → Callees → BoundRight → Touched
right_touches events callees (right.Value e) = reads_of e
right_touches events callees (right.Call f args) = call_touches (callees f) args
right_touches events callees (right.Read c) = take_touches events c
right_touches events callees (right.NbRead c into) = take_touches events c ++ target_touches events into
right_touches events callees (right.NbWrite c e) = reads_of e ++ put_touches events c

abbrev pub item_reads : BoundItem → Touched
item_reads (item.Value e) = reads_of e
item_reads (item.Text text) = []
item_reads item.Time = []

abbrev pub items_read : List BoundItem → Touched
items_read [] = []
items_read (x ∷ xs) = item_reads x ++ items_read xs

abbrev pub simple_touches : List BoundEvent → Callees → BoundSimple → Touched
simple_touches events callees (simple.Assign t r) = right_touches events callees r ++ target_touches events t
simple_touches events callees (simple.Update t op e) = reads_of e ++ target_reads t ++ target_touches events t
simple_touches events callees (simple.Write c e) = reads_of e ++ put_touches events c
simple_touches events callees (simple.Notify e t) = Notifies e (constant_delay t) ∷ time_reads t
simple_touches events callees (simple.Cancel e) = Cancels e ∷ []
simple_touches events callees (simple.Wait w) = wait_reads w.time
simple_touches events callees (simple.NextTrigger w) = wait_reads w.time
simple_touches events callees simple.Stop = []
simple_touches events callees (simple.Print items) = items_read items

abbrev pub simples_touch : List BoundEvent → Callees → List LinedSimple → Touched
simples_touch events callees [] = []
simples_touch events callees (x ∷ xs) = simple_touches events callees x.simple ++ simples_touch events callees xs

abbrev pub after_touches : List BoundEvent → Callees → Option LinedSimple → Touched
after_touches events callees None = []
after_touches events callees (Some x) = simple_touches events callees x.simple

-- ---- statements

abbrev pub all_touch : List Touched → Touched
all_touch [] = []
all_touch (x ∷ xs) = x ++ all_touch xs

abbrev pub maybe_touches : Option Touched → Touched
maybe_touches None = []
maybe_touches (Some x) = x

abbrev pub touches_step : List BoundEvent → Callees → BoundStat-F Touched → Touched
touches_step events callees (stat.Block parts) = all_touch parts
touches_step events callees (stat.Simple x) = simple_touches events callees x.simple
touches_step events callees (stat.If line e a b) = reads_of e ++ a ++ maybe_touches b
touches_step events callees (stat.While line e a) = reads_of e ++ a
touches_step events callees (stat.Do line a e) = a ++ reads_of e
touches_step events callees (stat.For line begin e after a) =
    simples_touch events callees begin ++ after_touches events callees after ++ option_reads e ++ a
touches_step events callees (stat.Break line) = []
touches_step events callees (stat.Continue line) = []
touches_step events callees (stat.Return line e) = option_reads e

-- what a statement touches
unfoldable pub touches_of : List BoundEvent → Callees → BoundStat → Touched
touches_of events callees s = fold-BoundStat Touched (touches_step events callees) s

-- what the statements of a body touch
abbrev pub body_touches : List BoundEvent → Callees → List BoundStat → Touched
body_touches events callees [] = []
body_touches events callees (s ∷ ss) = touches_of events callees s ++ body_touches events callees ss

abbrev pub called_by : (List BoundStat → Touched) → Option BoundFunction → Option Called
called_by touched None = None
called_by touched (Some f) = Some (record { function = f; touched = touched f.body })

-- the functions that a statement may call where calls are nested no deeper than this
abbrev pub callees_within : (depth : ℕ) → List BoundEvent → List BoundFunction → Callees
callees_within zero events functions f = None
callees_within (suc depth) events functions f =
    called_by (body_touches events (callees_within depth events functions)) (slice_get functions f)

-- what the code of a process touches: its body, and the functions that it reaches by calls, which are nested no deeper than
-- there are functions
abbrev pub process_touches : Bound → BoundProcess → Touched
process_touches b process = body_touches b.events (callees_within (length b.functions) b.events b.functions) process.body
