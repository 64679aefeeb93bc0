use Rattle.std.proofs.Common.{subst}
use Rattle.ooo_channels.specs.Kept.{IsNotice}
use Rattle.ooo_channels.proofs.Reserving.{notice_reserved}
use Rattle.ooo_channels.proofs.notices.Notice.reserve.Goals as goal

pub returns-in-Kept-clause-after : goal.returns-in-Kept-clause-after
returns-in-Kept-clause-after c = λ below stamp calls h.
    notice_reserved below stamp _ _ calls c.reserve.ensures.rest c.reserve.ensures.after (subst (λ n. IsNotice below stamp n calls) c.in-Kept.is h)
