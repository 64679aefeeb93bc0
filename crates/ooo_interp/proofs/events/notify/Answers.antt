-- A notification that is added is the node's effect, and a time that isn't one is its fault.
use Rattle.std.proofs.Common.{refl, sym}
use Rattle.ooo_interp.proofs.Acted.{fault_breaks, goes_with}
use Rattle.ooo_interp.proofs.events.notify.Goals as goal

pub returns-in_err-time : goal.returns-in_err-time
returns-in_err-time g c = λ p r number line. fault_breaks r line _ _ _ _ c.from_residual.ensures.1 (λ next. rw (sym c.in_err-time.ensures) refl)

pub returns : goal.returns
returns g c = λ p r number line. goes_with r line _ _ _ _ _ _ (c.go_with.ensures (g.L.Lent.sight c.args.lent.now) p) (λ next. rw (sym c.in_ok-time.ensures) refl)
