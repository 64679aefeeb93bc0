-- An activation by the statements of a body (IEEE 1666-2011, 4.2.1.2 and 5.2): what a process does from what remains of its
-- body until it waits, ends, faults or would count one statement more than the limit.
use Rattle.std.specs.Prelude.{ℕ, zero, suc, true, false, if◌then◌else◌, List, [], ◌∷◌, ◌++◌, length, Option, Some, None, Result, Ok, Err, position, pos, slice_get, slice_set}
use Rattle.ooo_time.specs.declared.stamp.Stamp.{Stamp}
use Rattle.ooo_time.specs.declared.time.Time.{Time}
use Rattle.ooo_time.specs.TimeText.{time_text}
use Rattle.ooo_value.specs.declared.bound.BoundChannel.{BoundChannel}
use Rattle.ooo_value.specs.declared.bound.BoundVariable.{BoundVariable}
use Rattle.ooo_value.specs.declared.bound.ProcessKind.{ProcessKind}
use Rattle.ooo_value.specs.declared.bound.ProcessKind.TheVariants.{Thread, Method}
use Rattle.ooo_value.specs.declared.kinds.Kind.{Kind}
use Rattle.ooo_value.specs.declared.kinds.Kind.TheVariants as kind
use Rattle.ooo_value.specs.declared.operators.Fault.{Fault}
use Rattle.ooo_value.specs.declared.operators.Fault.TheVariants.{IndexRange}
use Rattle.ooo_value.specs.declared.values.Value.{Value}
use Rattle.ooo_value.specs.declared.values.Value.TheVariants as value
use Rattle.ooo_value.specs.Operators.{Answer, binary_of}
use Rattle.ooo_value.specs.Values.{number_of, conversion_of, value_of}
use Rattle.ooo_value.specs.ValueText.{value_text}
use Rattle.ooo_code.specs.declared.activation.Effect.{Effect}
use Rattle.ooo_code.specs.declared.activation.Effect.TheVariants as effect
use Rattle.ooo_code.specs.declared.activation.JobEnd.{JobEnd}
use Rattle.ooo_code.specs.declared.activation.JobEnd.TheVariants as job
use Rattle.ooo_code.specs.declared.activation.Seen.{Seen}
use Rattle.ooo_code.specs.declared.activation.WaitOn.{WaitOn}
use Rattle.ooo_code.specs.Expressions.{no_value, signal_seen, fifo_seen, cells_of, scalar_of, index_in, element_at, by_truth}
use Rattle.ooo_code.specs.Nodes.{seen_after_take, seen_after_put, with_first, if_free}
use Rattle.ooo_code.specs.Outcomes.{View, Outcome, Activate}
use Rattle.ooo_code.specs.Touches.{is_data_written, is_data_read}
use Rattle.ooo_bound.specs.declared.expr.BoundExpr.{BoundExpr}
use Rattle.ooo_bound.specs.declared.expr.BoundWait.{BoundWait}
use Rattle.ooo_bound.specs.declared.model.Bound.{Bound}
use Rattle.ooo_bound.specs.declared.model.BoundFunction.{BoundFunction}
use Rattle.ooo_bound.specs.declared.model.BoundProcess.{BoundProcess}
use Rattle.ooo_bound.specs.declared.stat.BoundItem.{BoundItem}
use Rattle.ooo_bound.specs.declared.stat.BoundItem.TheVariants as item
use Rattle.ooo_bound.specs.declared.stat.BoundRight.{BoundRight}
use Rattle.ooo_bound.specs.declared.stat.BoundRight.TheVariants as right
use Rattle.ooo_bound.specs.declared.stat.BoundSimple.{BoundSimple}
use Rattle.ooo_bound.specs.declared.stat.BoundSimple.TheVariants as simple
use Rattle.ooo_bound.specs.declared.stat.BoundTarget.{BoundTarget}
use Rattle.ooo_bound.specs.declared.stat.BoundTarget.TheVariants as target
use Rattle.ooo_bound.specs.declared.stat.LinedSimple.{LinedSimple}
use Rattle.ooo_activation.specs.Locals.{Locals, no_locals, with_local}
use Rattle.ooo_activation.specs.Expressions.{Sight, reading_of, time_given, wait_time}
use Rattle.ooo_activation.specs.Items.{Item, Do, Putting, Choose, Begin, Check, Again, Break, Continue, Return, Leave, maybe_do, entered, entered_if, entered_all, opened, after_loop, at_loop}

-- ---- what is known during an activation

-- where a process is: what remains of its body, and its locals
pub record Place : Type 0 where
  pub items : List Item
  pub locals : Locals

-- what an activation has come to: what it sees and did so far, and what its method waits for next, where that was set
pub record Course : Type 0 where
  pub variables : List (List Value)
  pub seen : List Seen
  pub output : List ℕ
  pub effects : List Effect
  pub trigger : Option WaitOn

-- a process as an activation meets it, in its model
pub record Setting : Type 0 where
  pub model : Bound
  pub process : BoundProcess
  pub stamp : Stamp

-- what an expression may read at this point of an activation
abbrev pub sight_of : Locals → Course → Sight
sight_of locals d = record { locals = locals; variables = d.variables; seen = d.seen }

-- after a variable's cells were set
abbrev pub with_cells : ℕ → List Value → Course → Course
with_cells x cells d = record d { variables = slice_set d.variables x cells }

-- after bytes were printed
abbrev pub with_output : List ℕ → Course → Course
with_output text d = record d { output = d.output ++ text }

-- after an effect: effects stand in the order in which they were made
abbrev pub with_effect : Effect → Course → Course
with_effect f d = record d { effects = d.effects ++ f ∷ [] }

-- after a value of a fifo was taken: the process sees one value less of it
abbrev pub with_take : ℕ → Course → Course
with_take c d = record (with_effect (effect.Take c) d) { seen = seen_after_take d.seen c }

-- after a value was put into a fifo: the process sees one free slot less of it
abbrev pub with_put : ℕ → Value → Course → Course
with_put c v d = record (with_effect (effect.Put c v) d) { seen = seen_after_put d.seen c }

-- ---- what the model says of a variable and a channel

-- the kind of a variable's elements; int, where there is no such variable
abbrev pub kind_of_variable : Option BoundVariable → Kind
kind_of_variable None = kind.Int
kind_of_variable (Some x) = x.kind

-- the kind of a channel's values; int, where there is no such channel
abbrev pub kind_of_channel : Option BoundChannel → Kind
kind_of_channel None = kind.Int
kind_of_channel (Some c) = c.value

abbrev pub variable_kind : Bound → ℕ → Kind
variable_kind b x = kind_of_variable (slice_get b.variables x)

abbrev pub channel_kind : Bound → ℕ → Kind
channel_kind b c = kind_of_channel (slice_get b.channels c)

-- the event, in a list, if there is it
abbrev pub one_event : Option ℕ → List ℕ
one_event None = []
one_event (Some e) = e ∷ []

-- the event that a fifo's written values notify (6.23)
abbrev pub data_written : Bound → ℕ → List ℕ
data_written b c = one_event (position (is_data_written c) b.events)

-- the event that a fifo's read values notify (6.23)
abbrev pub data_read : Bound → ℕ → List ℕ
data_read b c = one_event (position (is_data_read c) b.events)

-- ---- how an activation goes on and ends

-- what follows in an activation: from what remains and the locals on, by what it has come to
abbrev pub Next : Type 0
Next = List Item → Locals → Course → Outcome Place

-- what follows where the locals alone have changed
abbrev pub Onward : Type 0
Onward = Locals → Course → Outcome Place

-- it ends, and leaves the process so that it goes on with this
abbrev pub ends : List Item → Locals → JobEnd → Course → Outcome Place
ends items locals end d = record {
  deed = record { output = d.output; variables = d.variables; effects = d.effects; end = end };
  next = record { items = items; locals = locals };
}

-- a fault ends it on a line, for ever
abbrev pub faults : Fault → (line : ℕ) → Onward
faults f line locals d = ends [] locals (job.Faulted f line) d

-- goes on with a result, or faults on a line
abbrev pub with_result : {A : Type 0} → Result A Fault → (line : ℕ) → Locals → Course → (A → Outcome Place) → Outcome Place
with_result (Err f) line locals d go = faults f line locals d
with_result (Ok v) line locals d go = go v

-- goes on with an index, or faults on a line
abbrev pub with_index : Option ℕ → (line : ℕ) → Locals → Course → (ℕ → Outcome Place) → Outcome Place
with_index None line locals d go = faults IndexRange line locals d
with_index (Some i) line locals d go = go i

-- goes on with the value of an expression, or faults on a line
abbrev pub with_value : BoundExpr → (line : ℕ) → Locals → Course → (Value → Outcome Place) → Outcome Place
with_value e line locals d go = with_result (reading_of e (sight_of locals d)) line locals d go

-- ---- what a value is put into

-- goes on with the value of the target's index, if it has one
abbrev pub with_aim : BoundTarget → (line : ℕ) → Locals → Course → (Value → Outcome Place) → Outcome Place
with_aim (target.Element x i) line locals d go = with_value i line locals d go
with_aim _ line locals d go = go no_value

-- a value is converted to the kind of the target and put into it, at the value of its index ([expr.ass])
abbrev pub assigned : Setting → BoundTarget → (index v : Value) → (line : ℕ) → Locals → Course → Onward → Outcome Place
assigned s target.Nothing index v line locals d go = go locals d
assigned s (target.Local k n) index v line locals d go = go (with_local k n (conversion_of v k) locals) d
assigned s (target.Variable x) index v line locals d go =
    go locals (with_cells x (slice_set (cells_of d.variables x) 0 (conversion_of v (variable_kind s.model x))) d)
assigned s (target.Element x i) index v line locals d go =
    let cells = cells_of d.variables x in
    with_index (index_in (length cells) (number_of index)) line locals d (λ n.
    go locals (with_cells x (slice_set cells n (conversion_of v (variable_kind s.model x))) d))
assigned s (target.Signal c) index v line locals d go =
    go locals (with_effect (effect.Request c (conversion_of v (channel_kind s.model c))) d)

-- a value is put into a target, whose index is evaluated after the value ([expr.ass])
abbrev pub assign : Setting → BoundTarget → Value → (line : ℕ) → Locals → Course → Onward → Outcome Place
assign s t v line locals d go = with_aim t line locals d (λ index. assigned s t index v line locals d go)

-- what stands in a target, at the value of its index
abbrev pub current : BoundTarget → (index : Value) → Locals → Course → Answer
current target.Nothing index locals d = Ok no_value
current (target.Local k n) index locals d = Ok (locals k n)
current (target.Variable x) index locals d = Ok (scalar_of d.variables x)
current (target.Element x i) index locals d =
    let cells = cells_of d.variables x in element_at cells (index_in (length cells) (number_of index))
current (target.Signal c) index locals d = Ok (signal_seen d.seen c).value

-- ---- calls ([expr.call])

-- the values of arguments, from left to right, as the first locals of a function, each converted to the kind of its
-- parameter; the first of them has slot n
abbrev pub with_arguments : (n : ℕ) → List Kind → List BoundExpr → (line : ℕ) → Locals → Course → (given : Locals) → (Locals → Outcome Place) → Outcome Place
with_arguments n (k ∷ ks) (e ∷ es) line locals d given go =
    with_value e line locals d (λ v. with_arguments (suc n) ks es line locals d (with_local k n (conversion_of v k) given) go)
with_arguments n _ _ line locals d given go = go given

-- the result of a function that ends without `return`: 0 of its kind
abbrev pub first_result : Option Kind → Value
first_result None = no_value
first_result (Some k) = value_of k (pos 0)

-- a call whose result goes to a target; a function that there isn't does nothing
abbrev pub call : Option BoundFunction → BoundTarget → List BoundExpr → (line : ℕ) → Next → (rest : List Item) → Onward
call None t args line next rest locals d = ends [] locals job.Ended d
call (Some f) t args line next rest locals d =
    with_arguments 0 f.params args line locals d no_locals (λ given.
    next (entered_all f.body (Leave line t f.result (first_result f.result) locals ∷ rest)) given d)

-- the result after a `return`: its value in the function's kind, where both are there
abbrev pub result_of : Option Kind → Option Value → (so_far : Value) → Value
result_of (Some k) (Some v) so_far = conversion_of v k
result_of _ _ so_far = so_far

-- what remains after a `return`: the end of the function ([stmt.return])
abbrev pub returned : Option Value → List Item → List Item
returned v [] = []
returned v (Leave line t k so_far saved ∷ rest) = Leave line t k (result_of k v so_far) saved ∷ rest
returned v (_ ∷ rest) = returned v rest

-- goes on with the value of a `return`, if it has one
abbrev pub with_returned : Option BoundExpr → (line : ℕ) → Locals → Course → (Option Value → Outcome Place) → Outcome Place
with_returned None line locals d go = go None
with_returned (Some e) line locals d go = with_value e line locals d (λ v. go (Some v))

-- ---- printing

-- what a print writes, one item after the other
abbrev pub prints : Setting → List BoundItem → (line : ℕ) → Locals → Course → (Course → Outcome Place) → Outcome Place
prints s [] line locals d go = go d
prints s (item.Value e ∷ items) line locals d go =
    with_value e line locals d (λ v. prints s items line locals (with_output (value_text v) d) go)
prints s (item.Text text ∷ items) line locals d go = prints s items line locals (with_output text d) go
prints s (item.Time ∷ items) line locals d go = prints s items line locals (with_output (time_text s.stamp.time) d) go

-- ---- waits (5.2.17 and 5.2.18)

-- the events of a wait or a trigger: those that it names, or the static ones of the process
abbrev pub events_of : Setting → BoundWait → List ℕ
events_of s w = if w.is_static then s.process.sensitive else w.events

-- what a wait waits for: its events, and its time-out if it has one
abbrev pub wait_on : Setting → BoundWait → Option Time → WaitOn
wait_on s w time = record { time = time; events = events_of s w }

-- what a blocking statement of a fifo waits for
abbrev pub until : List ℕ → JobEnd
until events = job.Waits (record { time = None; events = events })

-- ---- a statement without statements in it

-- what gives a value, and where that goes. `again` is what remains where a fifo has to be waited for. A blocking read is
-- tested anew after each wait; what doesn't block tells whether it did anything (6.23).
abbrev pub act_assign : Setting → BoundTarget → BoundRight → (line : ℕ) → Next → (again rest : List Item) → Onward
act_assign s t (right.Value e) line next again rest locals d =
    with_value e line locals d (λ v. assign s t v line locals d (next rest))
act_assign s t (right.Call f args) line next again rest locals d =
    call (slice_get s.model.functions f) t args line next rest locals d
act_assign s t (right.Read c) line next again rest locals d =
    with_first (fifo_seen d.seen c).values (ends again locals (until (data_written s.model c)) d) (λ v.
    assign s t v line locals (with_take c d) (next rest))
act_assign s t (right.NbRead c into) line next again rest locals d =
    with_aim into line locals d (λ index.
    with_first (fifo_seen d.seen c).values
    (assign s t (value.Bool false) line locals d (next rest))
    (λ v. assigned s into index v line locals (with_take c d) (λ locals d.
    assign s t (value.Bool true) line locals d (next rest))))
act_assign s t (right.NbWrite c e) line next again rest locals d =
    with_value e line locals d (λ v.
    if_free (fifo_seen d.seen c).free
    (assign s t (value.Bool false) line locals d (next rest))
    (assign s t (value.Bool true) line locals (with_put c (conversion_of v (channel_kind s.model c)) d) (next rest)))

-- a simple statement, which counts one
abbrev pub act_simple : Setting → BoundSimple → (line : ℕ) → Next → (again rest : List Item) → Onward
act_simple s (simple.Assign t r) line next again rest locals d = act_assign s t r line next again rest locals d
act_simple s (simple.Update t op e) line next again rest locals d =
    with_value e line locals d (λ b.
    with_aim t line locals d (λ index.
    with_result (current t index locals d) line locals d (λ a.
    with_result (binary_of op a b) line locals d (λ v.
    assigned s t index v line locals d (next rest)))))
act_simple s (simple.Write c e) line next again rest locals d = ends [] locals job.Ended d
act_simple s (simple.Notify e t) line next again rest locals d =
    with_result (time_given t (sight_of locals d)) line locals d (λ k. next rest locals (with_effect (effect.Notify e k) d))
act_simple s (simple.Cancel e) line next again rest locals d = next rest locals (with_effect (effect.Cancel e) d)
act_simple s (simple.Wait w) line next again rest locals d =
    with_result (wait_time w.time (sight_of locals d)) line locals d (λ t. ends rest locals (job.Waits (wait_on s w t)) d)
act_simple s (simple.NextTrigger w) line next again rest locals d =
    with_result (wait_time w.time (sight_of locals d)) line locals d (λ t.
    next rest locals (record d { trigger = Some (wait_on s w t) }))
act_simple s simple.Stop line next again rest locals d = next rest locals (with_effect effect.Stop d)
act_simple s (simple.Print items) line next again rest locals d = prints s items line locals d (λ d. next rest locals d)

-- ---- an item that counts

-- the test of a loop that has none holds
abbrev pub with_test : Option BoundExpr → (line : ℕ) → Locals → Course → (Value → Outcome Place) → Outcome Place
with_test None line locals d go = go (value.Bool true)
with_test (Some e) line locals d go = with_value e line locals d go

-- a blocking write puts its value where a slot is free, and else waits until it tests again (6.23)
abbrev pub act_put : Setting → (line c : ℕ) → Value → Next → (rest : List Item) → Onward
act_put s line c v next rest locals d =
    if_free (fifo_seen d.seen c).free
    (ends (Putting line c v ∷ rest) locals (until (data_read s.model c)) d)
    (next rest locals (with_put c v d))

-- an item, before what remains behind it
abbrev pub act : Setting → Item → Next → (rest : List Item) → Onward
act s (Do x) next rest locals d = act_simple s x.simple x.line next (Do x ∷ rest) rest locals d
act s (Putting line c v) next rest locals d = act_put s line c v next rest locals d
act s (Choose line e a b) next rest locals d =
    with_value e line locals d (λ v. by_truth v (next (entered a rest) locals d) (next (entered_if b rest) locals d))
act s (Check l) next rest locals d =
    with_test l.test l.line locals d (λ v. by_truth v (next (entered l.body (Again l ∷ rest)) locals d) (next rest locals d))
act s (Break line) next rest locals d = next (after_loop rest) locals d
act s (Continue line) next rest locals d = next (at_loop rest) locals d
act s (Return line e) next rest locals d = with_returned e line locals d (λ v. next (returned v rest) locals d)
act s _ next rest locals d = ends [] locals job.Ended d

-- the line of an item that counts
abbrev pub line_of : Item → ℕ
line_of (Do x) = x.line
line_of (Putting line c v) = line
line_of (Choose line e a b) = line
line_of (Check l) = l.line
line_of (Break line) = line
line_of (Continue line) = line
line_of (Return line e) = line
line_of _ = 0

-- ---- what counts nothing

-- a thread ends as its body does (5.2.11); a method waits for what was set last, else for its static events (5.2.10, 5.2.17)
abbrev pub at_end : Setting → ProcessKind → Option WaitOn → Onward
at_end s Thread trigger locals d = ends [] locals job.Ended d
at_end s Method None locals d = ends (entered_all s.process.body []) locals (until s.process.sensitive) d
at_end s Method (Some on) locals d = ends (entered_all s.process.body []) locals (job.Waits on) d

-- a blocking write evaluates its value before it counts
abbrev pub ready_do : Setting → BoundSimple → LinedSimple → Next → Next
ready_do s (simple.Write c e) x go rest locals d =
    with_value e x.line locals d (λ v. go (Putting x.line c (conversion_of v (channel_kind s.model c)) ∷ rest) locals d)
ready_do s _ x go rest locals d = go (Do x ∷ rest) locals d

abbrev pub ready : Setting → Next → Next
ready s go (Do x ∷ rest) locals d = ready_do s x.simple x go rest locals d
ready s go items locals d = go items locals d

-- what counts nothing is done, up to an item that counts or the end of the body
abbrev pub arrive : Setting → (items : List Item) → Locals → Course → Next → Outcome Place
arrive s [] locals d go = at_end s s.process.kind d.trigger locals d
arrive s (Begin l ∷ rest) locals d go = ready s go (opened l.body (Check l ∷ rest) (Again l ∷ rest)) locals d
arrive s (Again l ∷ rest) locals d go = ready s go (maybe_do l.after (Check l ∷ rest)) locals d
arrive s (Leave line t k v saved ∷ rest) locals d go =
    assign s t v line saved d (λ locals d. arrive s rest locals d go)
arrive s (i ∷ rest) locals d go = ready s go (i ∷ rest) locals d

-- ---- an activation

-- one statement more than the limit
abbrev pub at_limit : Next
at_limit [] locals d = ends [] locals job.Ended d
at_limit (i ∷ rest) locals d = ends [] locals (job.Limit (line_of i)) d

abbrev pub act_first : Setting → Next → Next
act_first s next [] locals d = ends [] locals job.Ended d
act_first s next (i ∷ rest) locals d = act s i next rest locals d

-- at most n statements that count
unfoldable pub steps : Setting → ℕ → Next
steps s zero items locals d = arrive s items locals d at_limit
steps s (suc n) items locals d = arrive s items locals d (act_first s (steps s n))

-- an activation as it begins: nothing is printed, done or set yet
abbrev pub course_at : View → Course
course_at v = record { variables = v.variables; seen = v.seen; output = []; effects = []; trigger = None }

-- an activation of a process that there is; one that there isn't does nothing
abbrev pub act_found : Bound → (statements : ℕ) → Option BoundProcess → Place → View → Outcome Place
act_found b statements None place v = ends place.items place.locals job.Ended (course_at v)
act_found b statements (Some process) place v =
    steps (record { model = b; process = process; stamp = v.stamp }) statements place.items place.locals (course_at v)

-- an activation of process p by its statements, with a statement limit
abbrev pub by_statements : Bound → (statements : ℕ) → Activate Place
by_statements b statements p place v = act_found b statements (slice_get b.processes p) place v

-- a process as it starts: before its body, with each local at 0
abbrev pub first_place : BoundProcess → Place
first_place process = record { items = entered_all process.body []; locals = no_locals }
