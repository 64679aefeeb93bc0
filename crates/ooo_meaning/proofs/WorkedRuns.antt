-- The reports of worked models, computed.
use Rattle.std.proofs.Common.{◌≡◌, ◌++◌, refl}
use Rattle.std.specs.Prelude.{codes}
use Rattle.std.specs.Fmt.{digits}
use Rattle.std.specs.Int.{int_wrap}
use Rattle.ooo_code.specs.Nodes.{steps}
use Rattle.ooo_meaning.specs.World.{after_deed, runs_now, update, reach, notified, settle}
use Rattle.ooo_meaning.specs.Sequence.{turn, evaluate, run, run_whole}
use Rattle.ooo_meaning.specs.Rows.{two_printing_threads_report, stopped_at_5_ns_report, empty_model_report, event_overrides_report, time_or_event_report, endless_loop_report, crossed_signals_report, stop_or_fault_report, stop_before_fault_report, endless_deltas_report, fifo_of_one_report, freed_slot_report, crossed_methods_report, clocked_producer_report}
use Rattle.ooo_meaning.proofs.Readings.{reading-Constant, reading-Signal, reading-Binary, reading-Variable}

-- two printing threads
pub two_printing_threads : two_printing_threads_report ≡ codes "a\nb\n10 ns\n== histories\n== end\nidle 10 ns 0\n"
unfolding digits int_wrap steps after_deed runs_now update reach notified settle turn evaluate run run_whole
two_printing_threads = refl

-- stopped at 5 ns
pub stopped_at_5_ns : stopped_at_5_ns_report ≡ codes "a\nb\n== histories\n== end\ntime 5 ns\n"
unfolding digits int_wrap steps after_deed runs_now update reach notified settle turn evaluate run run_whole
stopped_at_5_ns = refl

-- empty model
pub empty_model : empty_model_report ≡ codes "== histories\n== end\nidle 0 s 0\n"
unfolding digits int_wrap steps after_deed runs_now update reach notified settle turn evaluate run run_whole
empty_model = refl

-- event overrides
pub event_overrides : event_overrides_report ≡ codes "10 ns\n15 ns\n== histories\n== end\nidle 20 ns 0\n"
unfolding digits int_wrap steps after_deed runs_now update reach notified settle turn evaluate run run_whole
event_overrides = refl

-- time or event
pub time_or_event : time_or_event_report ≡ codes "10 ns\n20 ns\n== histories\n== end\nidle 20 ns 0\n"
unfolding digits int_wrap steps after_deed runs_now update reach notified settle turn evaluate run run_whole
time_or_event = refl

-- endless loop
pub endless_loop : endless_loop_report ≡ codes "x\n== histories\n== end\nstatements 0 s 0 m.a 3\n"
unfolding digits int_wrap steps after_deed runs_now update reach notified settle turn evaluate run run_whole
endless_loop = refl

-- crossed signals
pub crossed_signals : crossed_signals_report ≡ codes "== histories\nm.x @ 0 s 0 = 1\nm.y @ 0 s 0 = 1\n== end\nidle 0 s 0\n"
unfolding digits int_wrap steps after_deed runs_now update reach notified settle turn evaluate run run_whole
crossed_signals = rw (reading-Binary, reading-Signal, reading-Constant, reading-Binary, reading-Signal, reading-Constant) refl

-- stop or fault
pub stop_or_fault : stop_or_fault_report ≡ codes "== histories\n== end\nfault DivideByZero 0 s 0 m.b 5\n"
unfolding digits int_wrap steps after_deed runs_now update reach notified settle turn evaluate run run_whole
stop_or_fault = rw (reading-Binary, reading-Constant, reading-Variable) refl

-- stop before fault
pub stop_before_fault : stop_before_fault_report ≡ codes "== histories\n== end\nstop 0 s 0\n"
unfolding digits int_wrap steps after_deed runs_now update reach notified settle turn evaluate run run_whole
stop_before_fault = refl

-- endless deltas
pub endless_deltas : endless_deltas_report ≡ codes "0 s\n0 s\n0 s\n== histories\n== end\ndeltas 0 s 4\n"
unfolding digits int_wrap steps after_deed runs_now update reach notified settle turn evaluate run run_whole
endless_deltas = refl

-- fifo of one
pub fifo_of_one : fifo_of_one_report ≡ codes "1\n2\n3\n== histories\nm.q @ 0 s 0 in 1\nm.q @ 0 s 1 out 1\nm.q @ 0 s 2 in 2\n" ++ codes "m.q @ 0 s 3 out 2\nm.q @ 0 s 4 in 3\nm.q @ 0 s 5 out 3\n== end\nidle 0 s 5\n"
unfolding digits int_wrap steps after_deed runs_now update reach notified settle turn evaluate run run_whole
fifo_of_one = refl

-- freed slot
pub freed_slot : freed_slot_report ≡ codes "0\n== histories\nm.q @ 0 s 0 in 1\nm.q @ 5 ns 0 out 1\n== end\nidle 5 ns 0\n"
unfolding digits int_wrap steps after_deed runs_now update reach notified settle turn evaluate run run_whole
freed_slot = refl

-- crossed methods
pub crossed_methods : crossed_methods_report ≡ codes "== histories\nm.a @ 0 s 0 = 1\nm.a @ 0 s 2 = 0\nm.b @ 0 s 1 = 1\n" ++ codes "m.b @ 0 s 3 = 0\n== end\ndeltas 0 s 4\n"
unfolding digits int_wrap steps after_deed runs_now update reach notified settle turn evaluate run run_whole
crossed_methods = refl

-- clocked producer
pub clocked_producer : clocked_producer_report ≡ codes "0 s: 1\n10 ns: 2\n20 ns: 3\n== histories\nclk @ 0 s 0 = 1\nclk @ 5 ns 0 = 0\n" ++ codes "clk @ 10 ns 0 = 1\nclk @ 15 ns 0 = 0\nclk @ 20 ns 0 = 1\nclk @ 25 ns 0 = 0\n" ++ codes "queue @ 0 s 1 in 1\nqueue @ 0 s 2 out 1\nqueue @ 10 ns 1 in 2\n" ++ codes "queue @ 10 ns 2 out 2\nqueue @ 20 ns 1 in 3\nqueue @ 20 ns 2 out 3\n== end\n" ++ codes "time 25 ns\n"
unfolding digits int_wrap steps after_deed runs_now update reach notified settle turn evaluate run run_whole
clocked_producer = refl
