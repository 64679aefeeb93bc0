-- What is taken is the first value, and the take is the node's effect.
use Rattle.ooo_interp.proofs.Acted.{took}
use Rattle.ooo_interp.proofs.changes.take.Goals as goal

pub returns-clause-acts : goal.returns-clause-acts
returns-clause-acts g c = λ p r number line. took r number line _ _ _ _ _ _ _ c.args.emitted.now c.go_with.new.self p _ c.in-Some.ensures c.set_slot.ensures.sight c.take.ensures.sight c.go_with.ensures
