use Rattle.ooo_sim.proofs.Writing.{takes_none}
use Rattle.ooo_sim.proofs.call.answered.Goals as goal

pub returns-in-OfText-clause-answer : goal.returns-in-OfText-clause-answer
returns-in-OfText-clause-answer g c = rw c.in-OfText.is c.of_text.ensures.answer

pub returns-in-OfText-clause-given : goal.returns-in-OfText-clause-given
returns-in-OfText-clause-given g c = rw c.in-OfText.is c.of_text.ensures.given

pub returns-in-Run-clause-answer : goal.returns-in-Run-clause-answer
returns-in-Run-clause-answer g c = rw c.in-Run.is c.by_workers.ensures.answer

pub returns-in-Run-clause-given : goal.returns-in-Run-clause-given
returns-in-Run-clause-given g c = rw c.in-Run.is c.by_workers.ensures.given

pub returns-in-Bench-clause-answer : goal.returns-in-Bench-clause-answer
returns-in-Bench-clause-answer g c = rw c.in-Bench.is (c.generated.ensures.answer _)

pub returns-in-Bench-clause-given : goal.returns-in-Bench-clause-given
returns-in-Bench-clause-given g c = rw c.in-Bench.is (takes_none c.generated.result _)

pub returns-in-Refused-clause-answer : goal.returns-in-Refused-clause-answer
returns-in-Refused-clause-answer g c = rw c.in-Refused.is (c.refusal.ensures.answer _)

pub returns-in-Refused-clause-given : goal.returns-in-Refused-clause-given
returns-in-Refused-clause-given g c = rw c.in-Refused.is (takes_none c.refusal.result _)
