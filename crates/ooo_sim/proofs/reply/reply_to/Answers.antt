use Rattle.ooo_sim.proofs.Answers.{all_accepted, all_refused}
use Rattle.ooo_sim.proofs.reply.reply_to.Goals as goal

pub returns-in-Ok : goal.returns-in-Ok
returns-in-Ok c =
    all_accepted c.args.wanted c.args.text.now c.in-Ok.accepted c.in-Ok.ensures.accepted c.reply_to_accepted-reply.result c.reply_to_accepted-reply.ensures

pub returns-in-Err : goal.returns-in-Err
returns-in-Err c =
    all_refused c.args.wanted c.args.text.now c.in-Err.why c.in-Err.ensures.refused c.refuse.result c.refuse.ensures.reply c.refuse.ensures.refused
