-- An activation over nodes (IEEE 1666-2011, 4.2.1.2 and 5.2): what a process does from its entry until it waits, ends,
-- faults or would count one statement more than the limit.
use Rattle.std.specs.Prelude.{ℕ, zero, suc, ◌-◌, ◌==◌, List, [], ◌∷◌, ◌++◌, length, drop, map, if◌then◌else◌, Option, Some, None, Result, Ok, Err, slice_get, slice_set}
use Rattle.ooo_time.specs.declared.time.Time.{Time}
use Rattle.ooo_time.specs.declared.stamp.Stamp.{Stamp}
use Rattle.ooo_time.specs.TimeText.{time_text}
use Rattle.ooo_value.specs.declared.bound.ProcessKind.{ProcessKind}
use Rattle.ooo_value.specs.declared.bound.ProcessKind.TheVariants.{Thread, Method}
use Rattle.ooo_value.specs.declared.operators.Fault.{Fault}
use Rattle.ooo_value.specs.declared.operators.Fault.TheVariants.{IndexRange}
use Rattle.ooo_value.specs.declared.values.Value.{Value}
use Rattle.ooo_value.specs.Values.{number_of, value_of}
use Rattle.ooo_value.specs.ValueText.{value_text}
use Rattle.std.specs.Prelude.{pos}
use Rattle.ooo_code.specs.declared.activation.Effect.{Effect}
use Rattle.ooo_code.specs.declared.activation.Effect.TheVariants as effect
use Rattle.ooo_code.specs.declared.activation.Frame.{Frame}
use Rattle.ooo_code.specs.declared.activation.JobEnd.{JobEnd}
use Rattle.ooo_code.specs.declared.activation.JobEnd.TheVariants as job
use Rattle.ooo_code.specs.declared.activation.Seen.{Seen}
use Rattle.ooo_code.specs.declared.activation.Seen.TheVariants as seen
use Rattle.ooo_code.specs.declared.activation.WaitOn.{WaitOn}
use Rattle.ooo_code.specs.declared.design.Design.{Design}
use Rattle.ooo_code.specs.declared.design.Proc.{Proc}
use Rattle.ooo_code.specs.declared.node.Node.{Node}
use Rattle.ooo_code.specs.declared.node.NodeKind.{NodeKind}
use Rattle.ooo_code.specs.declared.node.NodeKind.TheVariants as kind
use Rattle.ooo_code.specs.declared.node.NodeTime.{NodeTime}
use Rattle.ooo_code.specs.declared.node.NodeWait.{NodeWait}
use Rattle.ooo_code.specs.declared.segment.SegmentEntry.{SegmentEntry}
use Rattle.ooo_code.specs.declared.segment.SegmentEntry.TheVariants.{Start, After}
use Rattle.ooo_code.specs.Outcomes.{View, Outcome, Activate}
use Rattle.ooo_code.specs.Expressions.{Sight, fifo_seen, cells_of, index_in, by_truth, reading_of, time_given}

-- ---- what is known during an activation

-- what an activation has come to: what it sees and did so far, and what its method waits for next, where that was set
pub record Doing : Type 0 where
  pub slots : List Value
  pub variables : List (List Value)
  pub seen : List Seen
  pub output : List ℕ
  pub effects : List Effect
  pub trigger : Option WaitOn

-- what an expression may read at this point of an activation
abbrev pub sight_of : Doing → Sight
sight_of d = record { slots = d.slots; variables = d.variables; seen = d.seen }

-- a process's own take leaves it one value less of that fifo
abbrev pub seen_after_take : List Seen → ℕ → List Seen
seen_after_take [] c = []
seen_after_take (seen.Signal b v changed ∷ others) c = seen.Signal b v changed ∷ seen_after_take others c
seen_after_take (seen.Fifo b values free ∷ others) c =
    (if c == b then seen.Fifo b (drop 1 values) free else seen.Fifo b values free) ∷ seen_after_take others c

-- a process's own put leaves it one free slot less of that fifo
abbrev pub seen_after_put : List Seen → ℕ → List Seen
seen_after_put [] c = []
seen_after_put (seen.Signal b v changed ∷ others) c = seen.Signal b v changed ∷ seen_after_put others c
seen_after_put (seen.Fifo b values free ∷ others) c =
    (if c == b then seen.Fifo b values (free - 1) else seen.Fifo b values free) ∷ seen_after_put others c

-- after a local was set
abbrev pub with_slot : ℕ → Value → Doing → Doing
with_slot n v d = record d { slots = slice_set d.slots n v }

-- after a variable's cells were set
abbrev pub with_cells : ℕ → List Value → Doing → Doing
with_cells x cells d = record d { variables = slice_set d.variables x cells }

-- after bytes were printed
abbrev pub with_output : List ℕ → Doing → Doing
with_output text d = record d { output = d.output ++ text }

-- after an effect: effects stand in the order in which they were made
abbrev pub with_effect : Effect → Doing → Doing
with_effect f d = record d { effects = d.effects ++ f ∷ [] }

-- a take into a slot
abbrev pub with_take : ℕ → ℕ → Value → Doing → Doing
with_take c n v d = record (with_effect (effect.Take c) (with_slot n v d)) { seen = seen_after_take d.seen c }

-- a put
abbrev pub with_put : ℕ → Value → Doing → Doing
with_put c v d = record (with_effect (effect.Put c v) d) { seen = seen_after_put d.seen c }

-- ---- how an activation goes on and ends

-- what follows in an activation of a process: from a node on, by what it has come to
abbrev pub Next : Type 0
Next = (node : ℕ) → Doing → Outcome Frame

-- it ends, and leaves the process so that it goes on from this entry
abbrev pub ends : SegmentEntry → JobEnd → Doing → Outcome Frame
ends entry end d = record {
  deed = record { output = d.output; variables = d.variables; effects = d.effects; end = end };
  next = record { entry = entry; slots = d.slots };
}

-- a process as an activation meets it: the process, and the entry of the segment that it runs
pub record Running : Type 0 where
  pub process : Proc
  pub entry : SegmentEntry
  pub stamp : Stamp

-- goes on with a result, or faults on a line
abbrev pub with_result : {A : Type 0} → Running → (line : ℕ) → Doing → Result A Fault → (A → Outcome Frame) → Outcome Frame
with_result r line d (Err f) go = ends r.entry (job.Faulted f line) d
with_result r line d (Ok v) go = go v

-- goes on with an index, or faults on a line
abbrev pub with_index : Running → (line : ℕ) → Doing → Option ℕ → (ℕ → Outcome Frame) → Outcome Frame
with_index r line d None go = ends r.entry (job.Faulted IndexRange line) d
with_index r line d (Some i) go = go i

-- a time, as the time-out that a wait has
abbrev pub some_time : Result Time Fault → Result (Option Time) Fault
some_time (Ok k) = Ok (Some k)
some_time (Err f) = Err f

-- the time of a wait, if it has one
abbrev pub wait_time : Option NodeTime → Sight → Result (Option Time) Fault
wait_time None s = Ok None
wait_time (Some t) s = some_time (time_given t s)

-- what a wait waits for: its events, and its time-out if it has one (5.2.18)
abbrev pub wait_on : NodeWait → Option Time → WaitOn
wait_on w time = record { time = time; events = w.events }

-- a thread ends as its body does (5.2.11); a method waits for what was set last, else for its static events (5.2.10, 5.2.17)
abbrev pub at_end : Running → ProcessKind → Option WaitOn → Doing → Outcome Frame
at_end r Thread trigger d = ends r.entry job.Ended d
at_end r Method None d = ends Start (job.Waits (record { time = None; events = r.process.sensitive })) d
at_end r Method (Some on) d = ends Start (job.Waits on) d

-- what is done with the first of some values, or where there is none
abbrev pub with_first : {A : Type 0} → List Value → A → (Value → A) → A
with_first [] none go = none
with_first (v ∷ vs) none go = go v

-- what is done where no slot is free, or where one is
abbrev pub if_free : {A : Type 0} → ℕ → A → A → A
if_free zero none some = none
if_free (suc n) none some = some

-- ---- one node

-- what a node of this kind does, with this number, line and next node
abbrev pub act : Running → NodeKind → (number line to : ℕ) → Next → Doing → Outcome Frame
act r (kind.Set n e) number line to next d = with_result r line d (reading_of e (sight_of d)) (λ v. next to (with_slot n v d))
act r (kind.Store x None e) number line to next d =
    with_result r line d (reading_of e (sight_of d)) (λ v. next to (with_cells x (slice_set (cells_of d.variables x) 0 v) d))
act r (kind.Store x (Some i) e) number line to next d =
    with_result r line d (reading_of e (sight_of d)) (λ v.
    with_result r line d (reading_of i (sight_of d)) (λ w.
    let cells = cells_of d.variables x in
    with_index r line d (index_in (length cells) (number_of w)) (λ k. next to (with_cells x (slice_set cells k v) d))))
act r (kind.Test e no_to) number line to next d =
    with_result r line d (reading_of e (sight_of d)) (λ v. by_truth v (next to d) (next no_to d))
act r kind.Goto number line to next d = next to d
act r (kind.PrintText text) number line to next d = next to (with_output text d)
act r (kind.PrintValue e) number line to next d =
    with_result r line d (reading_of e (sight_of d)) (λ v. next to (with_output (value_text v) d))
act r kind.PrintTime number line to next d = next to (with_output (time_text r.stamp.time) d)
act r (kind.Write c e) number line to next d =
    with_result r line d (reading_of e (sight_of d)) (λ v. next to (with_effect (effect.Request c v) d))
act r (kind.TestAvailable c no_to) number line to next d =
    with_first (fifo_seen d.seen c).values (next no_to d) (λ v. next to d)
act r (kind.TestFree c no_to) number line to next d = if_free (fifo_seen d.seen c).free (next no_to d) (next to d)
act r (kind.Take c n) number line to next d =
    with_first (fifo_seen d.seen c).values (next to d) (λ v. next to (with_take c n v d))
act r (kind.Put c e) number line to next d =
    with_result r line d (reading_of e (sight_of d)) (λ v. next to (with_put c v d))
act r (kind.Notify e t) number line to next d =
    with_result r line d (time_given t (sight_of d)) (λ k. next to (with_effect (effect.Notify e k) d))
act r (kind.Cancel e) number line to next d = next to (with_effect (effect.Cancel e) d)
act r kind.Stop number line to next d = next to (with_effect effect.Stop d)
act r (kind.Trigger w) number line to next d =
    with_result r line d (wait_time w.time (sight_of d)) (λ t. next to (record d { trigger = Some (wait_on w t) }))
act r (kind.Wait w) number line to next d =
    with_result r line d (wait_time w.time (sight_of d)) (λ t. ends (After number) (job.Waits (wait_on w t)) d)
act r kind.End number line to next d = at_end r r.process.kind d.trigger d

-- ---- many nodes

-- a node: one that counts, or one that doesn't, from which it goes on
abbrev pub at_node : Running → (counted : Node → Next) → Next → Option Node → Next
at_node r counted next None number d = ends r.entry job.Ended d
at_node r counted next (Some node) number d =
    if node.counts then counted node number d else act r node.kind number node.line node.next next d

-- at most m nodes, of which all but the last don't count
abbrev pub pass : List Node → Running → (counted : Node → Next) → ℕ → Next
pass nodes r counted zero number d = ends r.entry job.Ended d
pass nodes r counted (suc m) number d = at_node r counted (pass nodes r counted m) (slice_get nodes number) number d

-- of a sound design, fewer nodes than this stand between two that count (`law::enough_nodes`)
abbrev pub between : List Node → ℕ
between nodes = suc (suc (length nodes))

-- one statement more than the limit
abbrev pub at_limit : Running → Node → Next
at_limit r node number d = ends r.entry (job.Limit node.line) d

-- at most n nodes that count
unfoldable pub steps : List Node → Running → ℕ → Next
steps nodes r zero = pass nodes r (at_limit r) (between nodes)
steps nodes r (suc n) = pass nodes r (λ node number d. act r node.kind number node.line node.next (steps nodes r n) d) (between nodes)

-- ---- an activation

-- the node at which a segment begins
abbrev pub next_of : Option Node → ℕ
next_of None = 0
next_of (Some node) = node.next

-- the node at which a segment begins: the first of its process, or the one that its wait leads to
abbrev pub entry_node : Design → Proc → SegmentEntry → ℕ
entry_node design process Start = process.first
entry_node design process (After wait) = next_of (slice_get design.nodes wait)

-- an activation as it begins: nothing is printed, done or set yet
abbrev pub doing_at : Frame → View → Doing
doing_at frame v = record { slots = frame.slots; variables = v.variables; seen = v.seen; output = []; effects = []; trigger = None }

-- an activation of a process that there is
abbrev pub run_process : Design → (statements : ℕ) → Proc → Frame → View → Outcome Frame
run_process design statements process frame v =
    let r : Running = record { process = process; entry = frame.entry; stamp = v.stamp } in
    steps design.nodes r statements (entry_node design process frame.entry) (doing_at frame v)

-- a process that there isn't does nothing
abbrev pub run_found : Design → (statements : ℕ) → Option Proc → Frame → View → Outcome Frame
run_found design statements None frame v = ends frame.entry job.Ended (doing_at frame v)
run_found design statements (Some process) frame v = run_process design statements process frame v

-- an activation of process p by its nodes, with a statement limit
abbrev pub by_nodes : Design → (statements : ℕ) → Activate Frame
by_nodes design statements p frame v = run_found design statements (slice_get design.processes p) frame v

-- a process as it starts: at its first node, each slot at 0 of its kind
abbrev pub first_frame : Proc → Frame
first_frame process = record { entry = Start; slots = map (λ k. value_of k (pos 0)) process.slots }
