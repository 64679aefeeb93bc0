use Rattle.std.proofs.Common.{IfOk, subst, rules}
use Rattle.ooo_sim.specs.declared.outcome.Failure.TheVariants as failure
use Rattle.ooo_sim.specs.Boards.{IsAnswerFrom}
use Rattle.ooo_sim.proofs.Writing.{failed_first, wrote_all, wrote_prefix}
use Rattle.ooo_sim.proofs.call.tell.Goals as goal

pub returns-in-Err-Failed-clause-written : goal.returns-in-Err-Failed-clause-written
returns-in-Err-Failed-clause-written g c asked rest from = failed_first asked rest failure.Source (g.Si.Sink.held c.args.sink.now)

pub returns-in-Err-OutOfMemory-clause-written : goal.returns-in-Err-OutOfMemory-clause-written
returns-in-Err-OutOfMemory-clause-written g c asked rest from = failed_first asked rest failure.OutOfMemory (g.Si.Sink.held c.args.sink.now)

pub returns-in-Ok-write_text-clause-written : goal.returns-in-Ok-write_text-clause-written
returns-in-Ok-write_text-clause-written g c asked rest from =
    rw (c.replied.ensures.outcome, c.replied.ensures.board)
    (wrote_all c.one_reply.ensures asked rest c.in-Ok.answer (subst (λ r. IfOk r (IsAnswerFrom asked rest)) c.in-Ok.is from) _ _ (search rules))

pub returns-in-Err-clause-written : goal.returns-in-Err-clause-written
returns-in-Err-clause-written g c asked rest from =
    wrote_prefix c.one_reply.ensures asked rest c.in-Ok.answer (subst (λ r. IfOk r (IsAnswerFrom asked rest)) c.in-Ok.is from) _ _ (search rules)
