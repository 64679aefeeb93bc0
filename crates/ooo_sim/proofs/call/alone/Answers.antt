use Rattle.ooo_words.specs.Reading.{reading}
use Rattle.ooo_sim.specs.declared.outcome.Failure.TheVariants as failure
use Rattle.ooo_sim.specs.Requests.{request_of, words_of}
use Rattle.ooo_sim.proofs.Requests.{not_alone}
use Rattle.ooo_sim.proofs.Writing.{took, wrote_nothing}
use Rattle.ooo_sim.proofs.call.alone.Goals as goal

pub returns-in_default-clause-written : goal.returns-in_default-clause-written
returns-in_default-clause-written g c =
    wrote_nothing (request_of (words_of c.args.words.now)) (g.So.Source.rest c.args.source.now) failure.OutOfMemory (g.Si.Sink.held c.args.sink.now)

pub returns-in-Some-clause-some : goal.returns-in-Some-clause-some
returns-in-Some-clause-some g c taken =
    absurd (not_alone (reading (words_of c.args.words.now)) _ c.in-Ok.ensures.request c.in-Some.ensures.some taken)

pub returns-in-Some-clause-written : goal.returns-in-Some-clause-written
returns-in-Some-clause-written g c =
    rw c.in-Ok.ensures.request at (c.tell-outcome.ensures.written c.in-Ok.request _ c.in-Some.ensures.answer).0

pub returns-in-Some-clause-told : goal.returns-in-Some-clause-told
returns-in-Some-clause-told g c = c.tell-outcome.ensures.told c.in-Ok.request _ c.in-Some.ensures.answer

pub returns-in-Some-clause-taken : goal.returns-in-Some-clause-taken
returns-in-Some-clause-taken g c =
    took _ c.in-Ok.request _ c.in-Some.answer _ _ _ c.in-Ok.ensures.request c.in-Some.ensures.untouched c.in-Some.ensures.given c.tell-outcome.ensures.answered

pub returns-in-Some-clause-source_fault : goal.returns-in-Some-clause-source_fault
returns-in-Some-clause-source_fault g c is =
    let unread = c.tell-outcome.ensures.unread is in (c.in-Some.ensures.failed unread.0, unread.1)
