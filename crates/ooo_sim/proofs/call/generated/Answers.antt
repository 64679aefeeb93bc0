use Rattle.ooo_sim.proofs.Writing.{generated_unread}
use Rattle.ooo_sim.proofs.call.generated.Goals as goal

pub returns-clause-answer : goal.returns-clause-answer
returns-clause-answer g c rest =
    generated_unread c.args.stages c.args.items c.args.seed c.args.workers c.in_ok-text.text.items rest _ c.in_ok-text.ensures
    (rw (c.deref.ensures.value, c.default_options.ensures.default) at c.in_ok-run_text.ensures)
