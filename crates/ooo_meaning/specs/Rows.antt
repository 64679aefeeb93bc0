-- Models worked by hand as designs. `WorkedRuns` says which report the run of each gives, which is computed from the
-- definitions alone (`law::worked_runs`).
use Rattle.std.specs.Prelude.{◌≡◌, ℕ, zero, suc, ◌+◌, ◌*◌, ◌==◌, List, [], ◌∷◌, ◌++◌, length, map, replicate, true, false, not, if◌then◌else◌, Option, Some, None, codes, pos}
use Rattle.ooo_time.specs.declared.time.Time.{Time}
use Rattle.ooo_time.specs.TimeText.{time_text}
use Rattle.ooo_value.specs.declared.bound.BoundChannel.{BoundChannel}
use Rattle.ooo_value.specs.declared.bound.BoundEvent.{BoundEvent}
use Rattle.ooo_value.specs.declared.bound.BoundEvent.TheVariants as event
use Rattle.ooo_value.specs.declared.bound.BoundVariable.{BoundVariable}
use Rattle.ooo_value.specs.declared.bound.ChannelKind.TheVariants as channel
use Rattle.ooo_value.specs.declared.bound.ProcessKind.TheVariants.{Thread, Method}
use Rattle.ooo_value.specs.declared.kinds.Kind.{Kind}
use Rattle.ooo_value.specs.declared.kinds.Kind.TheVariants as value_kind
use Rattle.ooo_value.specs.declared.naming.Names.{Names}
use Rattle.ooo_value.specs.declared.operators.Op.TheVariants as op
use Rattle.ooo_value.specs.declared.values.Value.{Value}
use Rattle.ooo_value.specs.declared.values.Value.TheVariants as value
use Rattle.ooo_value.specs.Values.{truth_of}
use Rattle.ooo_value.specs.ValueText.{value_text}
use Rattle.ooo_code.specs.declared.design.Design.{Design}
use Rattle.ooo_code.specs.declared.design.Proc.{Proc}
use Rattle.ooo_code.specs.declared.expression.NodeExpr.{NodeExpr}
use Rattle.ooo_code.specs.declared.expression.NodeExpr.TheVariants as expression
use Rattle.ooo_code.specs.declared.limits.Limits.{Limits}
use Rattle.ooo_code.specs.declared.node.Node.{Node}
use Rattle.ooo_code.specs.declared.node.NodeKind.{NodeKind}
use Rattle.ooo_code.specs.declared.node.NodeKind.TheVariants as kind
use Rattle.ooo_code.specs.declared.node.NodeTime.TheVariants as time
use Rattle.ooo_code.specs.declared.activation.Effect.{Effect}
use Rattle.ooo_code.specs.declared.activation.Effect.TheVariants as effect
use Rattle.ooo_code.specs.declared.activation.JobEnd.{JobEnd}
use Rattle.ooo_code.specs.declared.activation.JobEnd.TheVariants as job
use Rattle.ooo_code.specs.Channels.{Channel, IsSignal, IsFifo}
use Rattle.ooo_code.specs.Expressions.{signal_seen, fifo_seen}
use Rattle.ooo_code.specs.Outcomes.{View, Outcome, Activate}
use Rattle.ooo_history.specs.declared.run.Run.{Run}
use Rattle.ooo_history.specs.Reporting.{report_text}
use Rattle.ooo_meaning.specs.World.{awake}
use Rattle.ooo_meaning.specs.Sequence.{Result, state_of, run_whole}
use Rattle.ooo_meaning.specs.Runs.{sequential_run, first_world, numbers_from}

-- ---- how a design is written here

-- a time of n nanoseconds
abbrev pub ns : ℕ → Time
ns n = record { 0 = n * 1000 }

-- a node that counts, and one that doesn't
abbrev pub counted : NodeKind → (line next : ℕ) → Node
counted k line next = record { kind = k; line = line; counts = true; next = next }

abbrev pub uncounted : NodeKind → (line next : ℕ) → Node
uncounted k line next = record { kind = k; line = line; counts = false; next = next }

-- a method of these nodes, with its static events
abbrev pub method : (first end : ℕ) → (sensitive : List ℕ) → Proc
method first end sensitive =
    record { kind = Method; first = first; end = end; slots = []; sensitive = sensitive; initialize = true }

-- a thread of these nodes, with the kinds of its locals and its static events
abbrev pub thread : (first end : ℕ) → List Kind → (sensitive : List ℕ) → Proc
thread first end slots sensitive =
    record { kind = Thread; first = first; end = end; slots = slots; sensitive = sensitive; initialize = true }

-- a signal of this kind
abbrev pub signal : Kind → BoundChannel
signal k = record { kind = channel.Signal; value = k; size = 0 }

-- a number of kind int
abbrev pub int : ℕ → NodeExpr
int n = expression.Constant (value.Int (pos n))

-- a sum
abbrev pub add : NodeExpr → NodeExpr → NodeExpr
add a b = expression.Binary op.Add a b

-- a stop time in nanoseconds, a delta limit, and a limit of 9 statements
abbrev pub limits : (stop deltas : ℕ) → Limits
limits stop deltas = record { stop = ns stop; deltas = deltas; statements = 9 }

-- a run as its result shows it, with a piece for each activation
abbrev pub run_of : Result → Run
run_of r = record {
  pieces = map (λ m. record { place = m.place; bytes = m.deed.output }) r.made;
  channels = r.histories;
  end = r.end;
  activations = length r.made;
}

-- the report of a result, if there is one
abbrev pub report_of : Names → Option Result → List ℕ
report_of names None = []
report_of names (Some r) = report_text (run_of r) names

-- the report of a design's run that is over after so many cycles at most
abbrev pub report_in : ℕ → Design → Limits → Names → List ℕ
report_in cycles design limits names = report_of names (sequential_run design limits cycles)

-- the full names of processes and channels
abbrev pub names : (processes channels : List (List ℕ)) → Names
names processes channels = record { processes = processes; channels = channels }

-- ---- event-overrides

-- a wait for n nanoseconds
abbrev pub fixed : ℕ → NodeKind
fixed n = kind.Wait (record { time = Some (time.Fixed (ns n)); events = []; is_static = false })

-- a wait for an event
abbrev pub on_event : ℕ → NodeKind
on_event e = kind.Wait (record { time = None; events = e ∷ []; is_static = false })

-- until a time has passed or an event is notified
abbrev pub fixed_or_event : ℕ → ℕ → NodeKind
fixed_or_event n e = kind.Wait (record { time = Some (time.Fixed (ns n)); events = e ∷ []; is_static = false })

-- a notification of event 0 after n nanoseconds
abbrev pub notify : ℕ → NodeKind
notify n = kind.Notify 0 (time.Fixed (ns n))

-- a thread that notifies and cancels one event, and one that prints the time whenever it comes
abbrev pub event_overrides : Design
event_overrides = record {
  nodes =
      counted (notify 20) 4 1 ∷ counted (notify 10) 4 2 ∷ counted (notify 30) 4 3 ∷ counted (fixed 15) 4 4
      ∷ counted (notify 10) 5 5 ∷ counted (notify 0) 5 6 ∷ counted (fixed 5) 5 7 ∷ counted (notify 10) 6 8 ∷ counted (kind.Cancel 0) 6 9 ∷ uncounted kind.End 6 9
      ∷ counted kind.Goto 7 11 ∷ counted (on_event 0) 7 12 ∷ counted kind.PrintTime 7 13 ∷ uncounted (kind.PrintText (10 ∷ [])) 7 10 ∷ [];
  processes = thread 0 10 [] [] ∷ thread 10 14 [] [] ∷ [];
  variables = [];
  channels = [];
  events = event.Own ∷ [];
}

abbrev pub event_overrides_report : List ℕ
event_overrides_report = report_in 9 event_overrides (limits 100 10) (names [] [])

-- ---- crossed-signals: both methods read 0

-- two methods, each of which writes one more than the signal that the other writes
abbrev pub crossed_signals : Design
crossed_signals = record {
  nodes =
      counted (kind.Write 0 (add (expression.Signal 1) (int 1))) 4 1 ∷ uncounted kind.End 4 1
      ∷ counted (kind.Write 1 (add (expression.Signal 0) (int 1))) 5 3 ∷ uncounted kind.End 5 3 ∷ [];
  processes = method 0 2 [] ∷ method 2 4 [] ∷ [];
  variables = [];
  channels = signal value_kind.Int ∷ signal value_kind.Int ∷ [];
  events = [];
}

abbrev pub crossed_signals_report : List ℕ
crossed_signals_report = report_in 5 crossed_signals (limits 100 9) (names [] (codes "m.x" ∷ codes "m.y" ∷ []))

-- ---- two printing threads

-- two threads that print, one of which waits in between
abbrev pub two_printing_threads : Design
two_printing_threads = record {
  nodes =
      counted (kind.PrintText (codes "a\n")) 3 1 ∷ counted (fixed 10) 3 2 ∷ counted kind.PrintTime 3 3 ∷ uncounted (kind.PrintText (10 ∷ [])) 3 4 ∷ uncounted kind.End 3 4
      ∷ counted (kind.PrintText (codes "b\n")) 4 6 ∷ uncounted kind.End 4 6 ∷ [];
  processes = thread 0 5 [] [] ∷ thread 5 7 [] [] ∷ [];
  variables = [];
  channels = [];
  events = [];
}

abbrev pub two_printing_threads_report : List ℕ
two_printing_threads_report = report_in 3 two_printing_threads (limits 100 10) (names [] [])

-- the same up to 5 ns alone
abbrev pub stopped_at_5_ns_report : List ℕ
stopped_at_5_ns_report = report_in 3 two_printing_threads (limits 5 10) (names [] [])

-- ---- a model without processes

-- no process at all
abbrev pub empty_model : Design
empty_model = record { nodes = []; processes = []; variables = []; channels = []; events = [] }

abbrev pub empty_model_report : List ℕ
empty_model_report = report_in 1 empty_model (limits 10 10) (names [] [])

-- ---- time-or-event: a time-out and an event at one stamp wake a process once

-- a thread that waits twice for an event or a time, and one that notifies the event once
abbrev pub time_or_event : Design
time_or_event = record {
  nodes =
      counted (notify 10) 4 1 ∷ uncounted kind.End 4 1
      ∷ counted (fixed_or_event 10 0) 5 3 ∷ counted kind.PrintTime 5 4 ∷ uncounted (kind.PrintText (10 ∷ [])) 5 5
      ∷ counted (fixed_or_event 10 0) 5 6 ∷ counted kind.PrintTime 5 7 ∷ uncounted (kind.PrintText (10 ∷ [])) 5 8 ∷ uncounted kind.End 5 8 ∷ [];
  processes = thread 0 2 [] [] ∷ thread 2 9 [] [] ∷ [];
  variables = [];
  channels = [];
  events = event.Own ∷ [];
}

abbrev pub time_or_event_report : List ℕ
time_or_event_report = report_in 4 time_or_event (limits 100 10) (names [] [])

-- ---- endless-loop: the statement limit, here of 9, ends the run before the second process has its turn

-- a thread that prints and then never waits, and one that isn't reached
abbrev pub endless_loop : Design
endless_loop = record {
  nodes =
      counted (kind.PrintText (codes "x\n")) 3 1 ∷ counted kind.Goto 3 1
      ∷ counted kind.Goto 4 3 ∷ counted (kind.PrintText (codes "y\n")) 4 4 ∷ counted (fixed 10) 4 2 ∷ [];
  processes = thread 0 2 [] [] ∷ thread 2 5 [] [] ∷ [];
  variables = [];
  channels = [];
  events = [];
}

abbrev pub endless_loop_report : List ℕ
endless_loop_report = report_in 2 endless_loop (limits 100 10) (names (codes "m.a" ∷ codes "m.b" ∷ []) [])

-- ---- stop-or-fault: a fault in the cycle of sc_stop ends the run at its place, one in a later cycle comes too late

-- a division by the variable
abbrev pub one_over_z : NodeExpr
one_over_z = expression.Binary op.Divide (int 1) (expression.Variable 0)

-- an int that starts at 0
abbrev pub z : BoundVariable
z = record { kind = value_kind.Int; length = 1; start = value.Int (pos 0) }

-- a thread that calls sc_stop, and one that divides by zero in the same cycle
abbrev pub stop_or_fault : Design
stop_or_fault = record {
  nodes = counted kind.Stop 4 1 ∷ uncounted kind.End 4 1 ∷ counted (kind.Store 0 None one_over_z) 5 3 ∷ uncounted kind.End 5 3 ∷ [];
  processes = thread 0 2 [] [] ∷ thread 2 4 [] [] ∷ [];
  variables = z ∷ [];
  channels = [];
  events = [];
}

abbrev pub stop_or_fault_report : List ℕ
stop_or_fault_report = report_in 2 stop_or_fault (limits 100 10) (names (codes "m.a" ∷ codes "m.b" ∷ []) [])

-- the same, where the division comes a delta cycle later
abbrev pub stop_before_fault : Design
stop_before_fault = record {
  nodes =
      counted kind.Stop 4 1 ∷ uncounted kind.End 4 1 ∷ counted (fixed 0) 5 3 ∷ counted (kind.Store 0 None one_over_z) 5 4 ∷ uncounted kind.End 5 4 ∷ [];
  processes = thread 0 2 [] [] ∷ thread 2 5 [] [] ∷ [];
  variables = z ∷ [];
  channels = [];
  events = [];
}

abbrev pub stop_before_fault_report : List ℕ
stop_before_fault_report = report_in 2 stop_before_fault (limits 100 10) (names (codes "m.a" ∷ codes "m.b" ∷ []) [])

-- ---- endless deltas: a thread that waits for no time again and again, with a delta limit of 4

-- a thread that waits for no time, again and again
abbrev pub endless_deltas : Design
endless_deltas = record {
  nodes = counted (fixed 0) 3 1 ∷ counted kind.PrintTime 3 2 ∷ uncounted (kind.PrintText (10 ∷ [])) 3 0 ∷ [];
  processes = thread 0 3 [] [] ∷ [];
  variables = [];
  channels = [];
  events = [];
}

abbrev pub endless_deltas_report : List ℕ
endless_deltas_report = report_in 5 endless_deltas (limits 100 4) (names [] [])

-- ---- processes that are told by what they do at each place, so that channels can be tried without expressions

-- what a process did: it printed, had these effects, ended so, and goes on at a place; its variables stay
abbrev pub does : View → (output : List ℕ) → List Effect → JobEnd → (next : ℕ) → Outcome ℕ
does v output effects end next =
    record { deed = record { output = output; variables = v.variables; effects = effects; end = end }; next = next }

-- it waits for n nanoseconds
abbrev pub waits_for : ℕ → JobEnd
waits_for n = job.Waits (record { time = Some (ns n); events = [] })

-- it waits for an event
abbrev pub waits_on : ℕ → JobEnd
waits_on e = job.Waits (record { time = None; events = e ∷ [] })

-- a run of such processes, each of which is runnable at first
abbrev pub told_report : Activate ℕ → (processes cycles : ℕ) → List BoundEvent → List Channel → Limits → List (List ℕ) → List ℕ
told_report activate processes cycles events channels bounds channel_names =
    report_of
    (names [] channel_names)
    (run_whole activate (numbers_from 0 processes) bounds cycles
    (state_of (first_world (replicate processes awake) [] events channels) (replicate processes 0)))

-- an empty fifo of this size, with the processes that hold its ends
abbrev pub fifo_from : (size writer reader : ℕ) → Channel
fifo_from size writer reader =
    IsFifo (record { size = size; held = []; read = 0; written = []; reader = Some reader; writer = Some writer })

-- a signal with this value
abbrev pub signal_at : Value → Channel
signal_at v = IsSignal (record { current = v; requested = None; changed = None })

-- a value of kind int
abbrev pub number : ℕ → Value
number n = value.Int (pos n)

-- the events of a fifo that is channel c
abbrev pub events_of_fifo : ℕ → List BoundEvent
events_of_fifo c = event.Written c ∷ event.Taken c ∷ []

-- ---- fifo-of-one: a value put is read a delta cycle later, and a slot freed is used a delta cycle later

-- the writer at place n has put n values of 3; of a fifo of one it waits after each for data read
abbrev pub puts_three : ℕ → View → (free : ℕ) → Outcome ℕ
puts_three n v zero = does v [] [] (waits_on 1) n
puts_three n v (suc free) =
    does v [] (effect.Put 0 (number (n + 1)) ∷ []) (if n == 2 then job.Ended else waits_on 1) (n + 1)

-- the reader prints each value, and waits for data written
abbrev pub takes_all : ℕ → View → List Value → Outcome ℕ
takes_all n v [] = does v [] [] (waits_on 0) n
takes_all n v (x ∷ xs) = does v (value_text x ++ 10 ∷ []) (effect.Take 0 ∷ []) (waits_on 0) n

-- the writer is process 0, the reader process 1
abbrev pub fifo_of_one : Activate ℕ
fifo_of_one zero n v = puts_three n v (fifo_seen v.seen 0).free
fifo_of_one (suc p) n v = takes_all n v (fifo_seen v.seen 0).values

abbrev pub fifo_of_one_report : List ℕ
fifo_of_one_report =
    told_report fifo_of_one 2 7 (events_of_fifo 0) (fifo_from 1 0 1 ∷ []) (limits 100 10) (codes "m.q" ∷ [])

-- ---- the second text of fifo-of-one: a slot that is freed isn't free in the same delta cycle

-- the reader takes at 5 ns; the writer, which runs after it in that delta cycle, prints the free slots
abbrev pub freed_slot : Activate ℕ
freed_slot zero zero v = does v [] [] (waits_for 5) 1
freed_slot zero (suc n) v = does v [] (effect.Take 0 ∷ []) job.Ended 2
freed_slot (suc p) zero v = does v [] (effect.Put 0 (number 1) ∷ []) (waits_for 5) 1
freed_slot (suc p) (suc n) v = does v (value_text (number (fifo_seen v.seen 0).free) ++ 10 ∷ []) [] job.Ended 2

abbrev pub freed_slot_report : List ℕ
freed_slot_report =
    told_report freed_slot 2 4 (events_of_fifo 0) (fifo_from 1 1 0 ∷ []) (limits 100 10) (codes "m.q" ∷ [])

-- ---- endless-deltas with a delta limit of 4: two methods, each sensitive to the signal that the other writes

-- one method writes the opposite of what the other writes, and the other copies it
abbrev pub crossed_methods : Activate ℕ
crossed_methods zero n v =
    does v [] (effect.Request 0 (value.Bool (not (truth_of (signal_seen v.seen 1).value))) ∷ []) (waits_on 1) 0
crossed_methods (suc p) n v = does v [] (effect.Request 1 (signal_seen v.seen 0).value ∷ []) (waits_on 0) 0

abbrev pub crossed_methods_report : List ℕ
crossed_methods_report =
    told_report crossed_methods 2 5
    (event.Changed 0 ∷ event.Changed 1 ∷ [])
    (signal_at (value.Bool false) ∷ signal_at (value.Bool false) ∷ [])
    (limits 100 4)
    (codes "m.a" ∷ codes "m.b" ∷ [])

-- ---- the clocked producer: a clock, a thread that puts a number at each rise, and one that takes and prints them

-- a clock that rises at place 0 and falls at place 1
abbrev pub clock : ℕ → View → Outcome ℕ
clock zero v = does v [] (effect.Request 0 (value.Bool true) ∷ []) (waits_for 5) 1
clock (suc n) v = does v [] (effect.Request 0 (value.Bool false) ∷ []) (waits_for 5) 0

-- the producer waits for a rise first, and puts n at place n
abbrev pub producer : ℕ → View → Outcome ℕ
producer zero v = does v [] [] (waits_on 0) 1
producer (suc n) v = does v [] (effect.Put 1 (number (suc n)) ∷ []) (waits_on 0) (suc n + 1)

-- the consumer prints the time and the next value, and waits for data written
abbrev pub consumer : View → List Value → Outcome ℕ
consumer v [] = does v [] [] (waits_on 1) 0
consumer v (x ∷ xs) = does v (time_text v.stamp.time ++ codes ": " ++ value_text x ++ 10 ∷ []) (effect.Take 1 ∷ []) (waits_on 1) 0

-- the clock is process 0, the producer process 1, the consumer process 2
abbrev pub clocked_producer : Activate ℕ
clocked_producer zero n v = clock n v
clocked_producer (suc zero) n v = producer n v
clocked_producer (suc (suc p)) n v = consumer v (fifo_seen v.seen 1).values

abbrev pub clocked_producer_report : List ℕ
clocked_producer_report =
    told_report clocked_producer 3 20
    (event.Rise 0 ∷ event.Written 1 ∷ event.Taken 1 ∷ [])
    (signal_at (value.Bool false) ∷ fifo_from 16 1 2 ∷ [])
    (limits 25 10)
    (codes "clk" ∷ codes "queue" ∷ [])

-- ---- the reports

-- what the sequential runs above give
pub record WorkedRuns : Type 0 where
  pub two_printing_threads : two_printing_threads_report ≡ codes "a\nb\n10 ns\n== histories\n== end\nidle 10 ns 0\n"
  pub stopped_at_5_ns : stopped_at_5_ns_report ≡ codes "a\nb\n== histories\n== end\ntime 5 ns\n"
  pub empty_model : empty_model_report ≡ codes "== histories\n== end\nidle 0 s 0\n"
  pub event_overrides : event_overrides_report ≡ codes "10 ns\n15 ns\n== histories\n== end\nidle 20 ns 0\n"
  pub time_or_event : time_or_event_report ≡ codes "10 ns\n20 ns\n== histories\n== end\nidle 20 ns 0\n"
  pub endless_loop : endless_loop_report ≡ codes "x\n== histories\n== end\nstatements 0 s 0 m.a 3\n"
  pub crossed_signals :
      crossed_signals_report
      ≡ codes "== histories\nm.x @ 0 s 0 = 1\nm.y @ 0 s 0 = 1\n== end\nidle 0 s 0\n"
  pub stop_or_fault : stop_or_fault_report ≡ codes "== histories\n== end\nfault DivideByZero 0 s 0 m.b 5\n"
  pub stop_before_fault : stop_before_fault_report ≡ codes "== histories\n== end\nstop 0 s 0\n"
  pub endless_deltas : endless_deltas_report ≡ codes "0 s\n0 s\n0 s\n== histories\n== end\ndeltas 0 s 4\n"
  pub fifo_of_one :
      fifo_of_one_report
      ≡ codes "1\n2\n3\n== histories\nm.q @ 0 s 0 in 1\nm.q @ 0 s 1 out 1\nm.q @ 0 s 2 in 2\n"
      ++ codes "m.q @ 0 s 3 out 2\nm.q @ 0 s 4 in 3\nm.q @ 0 s 5 out 3\n== end\nidle 0 s 5\n"
  pub freed_slot :
      freed_slot_report
      ≡ codes "0\n== histories\nm.q @ 0 s 0 in 1\nm.q @ 5 ns 0 out 1\n== end\nidle 5 ns 0\n"
  pub crossed_methods :
      crossed_methods_report
      ≡ codes "== histories\nm.a @ 0 s 0 = 1\nm.a @ 0 s 2 = 0\nm.b @ 0 s 1 = 1\n"
      ++ codes "m.b @ 0 s 3 = 0\n== end\ndeltas 0 s 4\n"
  pub clocked_producer :
      clocked_producer_report
      ≡ codes "0 s: 1\n10 ns: 2\n20 ns: 3\n== histories\nclk @ 0 s 0 = 1\nclk @ 5 ns 0 = 0\n"
      ++ codes "clk @ 10 ns 0 = 1\nclk @ 15 ns 0 = 0\nclk @ 20 ns 0 = 1\nclk @ 25 ns 0 = 0\n"
      ++ codes "queue @ 0 s 1 in 1\nqueue @ 0 s 2 out 1\nqueue @ 10 ns 1 in 2\n"
      ++ codes "queue @ 10 ns 2 out 2\nqueue @ 20 ns 1 in 3\nqueue @ 20 ns 2 out 3\n== end\n"
      ++ codes "time 25 ns\n"
