use Rattle.ooo_sim.proofs.Reports.{channels_named, ending_named}
use Rattle.ooo_sim.proofs.running.told_of_run.Goals as goal

pub text_of_run-requires-clause-channels : goal.text_of_run-requires-clause-channels
text_of_run-requires-clause-channels c =
    channels_named c.same_runs.ensures c.histories.ensures c.endings.ensures c.args.model.now c.requires.names.processes
    c.requires.names.channels c.args.limits _ c.requires.shown

pub text_of_run-requires-clause-process : goal.text_of_run-requires-clause-process
text_of_run-requires-clause-process c =
    ending_named c.same_runs.ensures c.histories.ensures c.endings.ensures c.args.model.now c.requires.names.processes
    c.requires.names.channels c.args.limits _ c.requires.shown
