-- What the ports show after the put, with the values of their owner.
use Rattle.std.proofs.Common.{List, ap}
use Rattle.ooo_code.specs.declared.activation.Seen.{Seen}
use Rattle.ooo_code.specs.Expressions.{Sight}
use Rattle.ooo_interp.proofs.whole.WholeLent.put.Goals as goal

pub returns-clause-sight : goal.returns-clause-sight
returns-clause-sight g c =
    ap (λ (v : List Seen). let s : Sight = record { slots = c.args.self.now.slots.items; variables = c.args.self.now.variables.items; seen = v } in s)
    (c.put.ensures (g.F.FifoValues.values c.args.self.now.fifos))
