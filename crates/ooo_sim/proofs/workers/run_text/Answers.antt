use Rattle.ooo_sim.proofs.Boards.{all_answered}
use Rattle.ooo_sim.proofs.workers.run_text.Goals as goal

pub returns-in-Ok : goal.returns-in-Ok
returns-in-Ok g c =
    all_answered c.args.told c.args.options c.args.text.now c.in-Ok.ended c.in-Ok.ensures.driven c.told_of.result c.told_of.ensures.reply
    c.told_of.ensures.board
