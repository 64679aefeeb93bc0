use Rattle.ooo_channels_checks.proofs.Trials.{forgotten}
use Rattle.ooo_channels_checks.proofs.channels.forget.Goals as goal

pub returns : goal.returns
returns c = forgotten c.args.kind c.args.bank.now c.forget.new.self c.args.last c.args.below c.requires (c.forget.ensures.after c.requires.ops c.requires.after)
