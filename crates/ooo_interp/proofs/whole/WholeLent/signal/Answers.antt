-- What the ports show of a signal they show with whatever values of fifos.
use Rattle.ooo_interp.proofs.whole.WholeLent.signal.Goals as goal

pub returns-clause-value : goal.returns-clause-value
returns-clause-value g c = c.signal.ensures.value (g.F.FifoValues.values c.args.self.now.fifos)

pub returns-clause-changed : goal.returns-clause-changed
returns-clause-changed g c = c.signal.ensures.changed (g.F.FifoValues.values c.args.self.now.fifos)
