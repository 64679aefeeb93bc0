use Rattle.ooo_board_checks.proofs.Keeping.{held_abandoned}
use Rattle.ooo_board_checks.proofs.trial.Trial.abandon.Goals as goal

pub returns : goal.returns
returns c = held_abandoned c.args.self.now.board c.abandon.new.self c.args.p c.args.self.now.given.items c.abandon.ensures.step c.requires
