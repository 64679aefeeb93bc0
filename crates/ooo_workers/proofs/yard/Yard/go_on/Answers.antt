use Rattle.std.proofs.Common.{sym, subst}
use Rattle.ooo_workers.specs.Passes.{GaveAndTook, RoundIs}
use Rattle.ooo_workers.proofs.Turns.{round_alone, round_lost, round_on}
use Rattle.ooo_workers.proofs.yard.Yard.go_on.Goals as goal

pub returns-in-Ok-None : goal.returns-in-Ok-None
returns-in-Ok-None g c =
    let n = c.args.job.process in
    round_alone c.args.pass.now c.run.new.pass n (subst (λ o. GaveAndTook n o c.args.pass.now c.run.new.pass) c.in-Ok-None.field-0-is c.in-Ok-None.ensures.ok)

pub returns-in-Ok-Some : goal.returns-in-Ok-Some
returns-in-Ok-Some g c =
    let n = c.args.job.process in
    subst (RoundIs c.args.pass.now c.run.new.pass) (sym c.job_or_end.ensures)
    (round_on c.args.pass.now c.run.new.pass n c.in-Ok-Some.turn (subst (λ o. GaveAndTook n o c.args.pass.now c.run.new.pass) c.in-Ok-Some.field-0-is c.in-Ok-Some.ensures.ok))

pub returns-in-Err : goal.returns-in-Err
returns-in-Err g c = round_lost c.args.pass.now c.run.new.pass c.args.job.process c.in-Err.ensures.refused
