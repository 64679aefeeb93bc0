-- It may where its place is below the cut.
use Rattle.std.proofs.Common.{subst}
use Rattle.ooo_fronts.specs.Choices.{IsReadyAt}
use Rattle.ooo_fronts.proofs.Choosing.{may_not, may_where}
use Rattle.ooo_fronts.proofs.choice.Choice.may_run.Goals as goal

pub returns : goal.returns
returns c = λ r least b k.
    may_where r least b c.args.p c.in-Some.place (c.in-Some.ensures.ready r least b k) c.is_below.result (c.is_below.ensures r least b k)

pub returns-in_default : goal.returns-in_default
returns-in_default c = λ r least b k.
    (λ t. absurd cc, λ h. absurd (may_not r least b c.args.p (subst (IsReadyAt r least b c.args.p) c.in_default.is (c.ready_at.ensures.ready r least b k)) h))
