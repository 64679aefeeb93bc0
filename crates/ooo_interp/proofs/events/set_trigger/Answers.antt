-- A time that isn't one is the node's fault.
use Rattle.std.proofs.Common.{refl, sym}
use Rattle.ooo_interp.proofs.Acted.{fault_breaks}
use Rattle.ooo_interp.proofs.events.set_trigger.Goals as goal

pub returns-in_err-time : goal.returns-in_err-time
returns-in_err-time g c = λ m r number line. fault_breaks r line _ _ _ _ c.from_residual.ensures.1 (λ next. rw (sym c.in_err-time.ensures) refl)
