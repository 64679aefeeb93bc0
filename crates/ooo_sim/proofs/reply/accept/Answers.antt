use Rattle.ooo_sim.proofs.reply.accept.Goals as goal

pub returns-in-Ok-clause-accepted : goal.returns-in-Ok-clause-accepted
returns-in-Ok-clause-accepted c = (c.if-text-gt-MOST_BYTES.false, c.in-Ok.ensures.answer)

pub returns-in-Ok-clause-ready : goal.returns-in-Ok-clause-ready
returns-in-Ok-clause-ready c = c.accepted_are_ready.ensures c.args.text.now c.in-Ok.accepted c.in-Ok.ensures.answer

pub returns-in-Err-clause-refused : goal.returns-in-Err-clause-refused
returns-in-Err-clause-refused c = (c.if-text-gt-MOST_BYTES.false, c.in-Err.ensures.answer)
