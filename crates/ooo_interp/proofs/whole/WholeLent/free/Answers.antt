-- What its port shows, with the values of their owner.
use Rattle.std.proofs.Common.{refl, rules}
use Rattle.ooo_interp.proofs.whole.WholeLent.free.Goals as goal

pub returns-in-Some : goal.returns-in-Some
returns-in-Some g c = rw (c.in-Some.ensures (g.F.FifoValues.values c.args.self.now.fifos)) (search rules)

pub returns-in-None : goal.returns-in-None
returns-in-None g c = rw (c.in-None.ensures (g.F.FifoValues.values c.args.self.now.fifos)) refl
