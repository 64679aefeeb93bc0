-- A request that is added is the node's effect.
use Rattle.std.proofs.Common.{refl, sym}
use Rattle.ooo_interp.proofs.Acted.{goes_with}
use Rattle.ooo_interp.proofs.changes.write.Goals as goal

pub returns : goal.returns
returns g c = λ p r number line. goes_with r line _ _ _ _ _ _ (c.go_with.ensures (g.L.Lent.sight c.args.lent.now) p) (λ next. rw (sym c.in_ok-v.ensures) refl)
