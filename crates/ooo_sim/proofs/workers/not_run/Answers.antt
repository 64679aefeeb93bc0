use Rattle.std.proofs.Common.{◌∙◌}
use Rattle.ooo_sim.proofs.Boards.{not_run_answered}
use Rattle.ooo_sim.proofs.workers.not_run.Goals as goal

pub returns-in_ok-refuse-in-Refused : goal.returns-in_ok-refuse-in-Refused
returns-in_ok-refuse-in-Refused c told options text is =
    not_run_answered told options text _ c.in-Refused.why is c.in-Refused.is c.in_ok-refuse-in-Refused.ensures.refused _
    (c.without_board.ensures.reply ∙ c.in_ok-refuse-in-Refused.ensures.reply) c.without_board.ensures.board
