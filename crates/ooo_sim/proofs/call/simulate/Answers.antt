use Rattle.ooo_sim.specs.declared.outcome.Failure.TheVariants as failure
use Rattle.ooo_sim.specs.Requests.{request_of, words_of}
use Rattle.ooo_sim.proofs.Writing.{failed_first, took}
use Rattle.ooo_sim.proofs.call.simulate.Goals as goal

pub returns-in_default-clause-written : goal.returns-in_default-clause-written
returns-in_default-clause-written g c =
    failed_first (request_of (words_of c.args.words.now)) (g.So.Source.rest c.args.source.now) failure.OutOfMemory (g.Si.Sink.held c.args.sink.now)

pub returns-clause-written : goal.returns-clause-written
returns-clause-written g c =
    rw c.in-Ok.ensures.request at (c.tell.ensures.written c.in-Ok.request _ c.answered-answer.ensures.answer)

pub returns-clause-told : goal.returns-clause-told
returns-clause-told g c = c.tell.ensures.told c.in-Ok.request _ c.answered-answer.ensures.answer

pub returns-clause-taken : goal.returns-clause-taken
returns-clause-taken g c =
    took _ c.in-Ok.request _ c.answered-answer.result _ _ _ c.in-Ok.ensures.request c.answered-answer.ensures.untouched c.answered-answer.ensures.given c.tell.ensures.answered

pub returns-clause-source_fault : goal.returns-clause-source_fault
returns-clause-source_fault g c is =
    let unread = c.tell.ensures.unread is in (c.answered-answer.ensures.failed unread.0, unread.1)
