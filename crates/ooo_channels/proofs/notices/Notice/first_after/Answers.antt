use Rattle.std.proofs.Common.{subst}
use Rattle.ooo_channels.specs.Kept.{IsNoticeKept}
use Rattle.ooo_channels.proofs.Keeping.{first_kept}
use Rattle.ooo_channels.proofs.notices.Notice.first_after.Goals as goal

pub returns-in-Kept : goal.returns-in-Kept
returns-in-Kept c = λ below calls kept later.
    first_kept below _ calls c.args.since _ (subst (λ n. IsNoticeKept below n calls) c.in-Kept.is kept) later c.first_after.ensures.fires
