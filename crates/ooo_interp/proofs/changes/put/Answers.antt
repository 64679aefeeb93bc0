-- What is put is the node's effect.
use Rattle.ooo_interp.proofs.Acted.{filled}
use Rattle.ooo_interp.proofs.changes.put.Goals as goal

pub returns-clause-acts : goal.returns-clause-acts
returns-clause-acts g c = λ p r number line. filled r number line _ _ _ _ _ _ c.args.emitted.now c.go_with.new.self p _ c.in_ok-v.ensures c.put.ensures.sight c.go_with.ensures
