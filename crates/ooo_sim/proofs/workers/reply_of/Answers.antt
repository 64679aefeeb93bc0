use Rattle.ooo_sim.proofs.workers.reply_of.Goals as goal

pub told_of_run-requires-clause-shown : goal.told_of_run-requires-clause-shown
told_of_run-requires-clause-shown c = rw (c.requires.may.design, c.requires.may.limits) at c.in_ok-shown.ensures

pub run_of-requires-clause-some_deltas : goal.run_of-requires-clause-some_deltas
run_of-requires-clause-some_deltas c = rw c.requires.may.limits c.requires.may.some_deltas
