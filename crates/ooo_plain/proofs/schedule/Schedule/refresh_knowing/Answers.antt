use Rattle.std.proofs.Common.{refl, sym, subst}
use Rattle.std.proofs.lemmas.Result.{on_ok_weaker}
use Rattle.ooo_plain.specs.Schedule.{IsAsked}
use Rattle.ooo_plain.proofs.schedule.Schedule.refresh_knowing.Goals as goal

pub returns-then-waits_only : goal.returns-then-waits_only
returns-then-waits_only c = on_ok_weaker c.refresh_by.result (λ by. by c.args.bank.now (subst (λ h. IsAsked c.args.bank.now c.args.now h c.args.first) (sym (c.if-waits_only.ensures refl)) c.requires.first)) c.refresh_by.ensures
