use Rattle.std.proofs.Common.{◌∙◌}
use Rattle.ooo_sim.proofs.Writing.{refused_unread}
use Rattle.ooo_sim.proofs.call.refusal.Goals as goal

pub returns-clause-answer : goal.returns-clause-answer
returns-clause-answer c rest =
    refused_unread c.args.why rest _ (c.without_board.ensures.reply ∙ c.in_ok-refuse.ensures.reply) c.without_board.ensures.board
