use Rattle.ooo_meaning.proofs.WorkedRuns.{two_printing_threads, stopped_at_5_ns, empty_model, event_overrides, time_or_event, endless_loop, crossed_signals, stop_or_fault, stop_before_fault, endless_deltas, fifo_of_one, freed_slot, crossed_methods, clocked_producer}
use Rattle.ooo_meaning.proofs.law.worked_runs.Goals as goal

pub returns : goal.returns
returns c = record { two_printing_threads = two_printing_threads; stopped_at_5_ns = stopped_at_5_ns; empty_model = empty_model; event_overrides = event_overrides; time_or_event = time_or_event; endless_loop = endless_loop; crossed_signals = crossed_signals; stop_or_fault = stop_or_fault; stop_before_fault = stop_before_fault; endless_deltas = endless_deltas; fifo_of_one = fifo_of_one; freed_slot = freed_slot; crossed_methods = crossed_methods; clocked_producer = clocked_producer }
