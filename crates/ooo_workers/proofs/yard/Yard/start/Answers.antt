use Rattle.std.proofs.Common.{sym, subst}
use Rattle.ooo_workers.specs.Passes.{RoundIs}
use Rattle.ooo_workers.proofs.Turns.{round_refused, round_taken}
use Rattle.ooo_workers.proofs.yard.Yard.start.Goals as goal

pub returns-in-Ok : goal.returns-in-Ok
returns-in-Ok g c =
    subst (RoundIs c.args.pass.now c.take_one.new.pass) (sym c.job_or_end.ensures) (round_taken c.args.pass.now c.take_one.new.pass c.in-Ok.turn c.requires.idle c.in-Ok.ensures.turn)

pub returns-in-Err : goal.returns-in-Err
returns-in-Err g c = round_refused c.args.pass.now c.take_one.new.pass c.requires.idle c.in-Err.ensures.refused
