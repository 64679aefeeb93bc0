use Rattle.ooo_channels_checks.proofs.Trials.{tried, trial_may}
use Rattle.ooo_channels_checks.proofs.channels.act.Goals as goal

pub returns : goal.returns
returns c =
    let may = c.requires in
    tried c.args.kind c.args.bank.now c.args.last c.args.now c.args.effect may c.apply.new.self
    (c.apply.ensures.after may.trial.ops (c.reserve.ensures.after may.trial.ops may.trial.after) (trial_may c.args.kind c.args.bank.now c.args.last c.args.now c.args.effect may, tt))
