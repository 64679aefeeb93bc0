use Rattle.std.proofs.Common.{◌∙◌, subst, sym}
use Rattle.ooo_plain.specs.Cycles.{AreInRange as AreRunLimits}
use Rattle.ooo_sim.proofs.Answers.{run_limits}
use Rattle.ooo_sim.proofs.workers.start.Goals as goal

pub first_board-requires-clause-range : goal.first_board-requires-clause-range
first_board-requires-clause-range c =
    subst AreRunLimits (sym c.limits_of.ensures)
    (run_limits c.args.options c.in_ok-accepted.accepted.bound c.in-Some.stop c.requires c.in_ok-accepted.ensures.ready.stop (sym c.stop_of.ensures ∙ c.in-Some.is))

pub returns-in-None-clause-refused : goal.returns-in-None-clause-refused
returns-in-None-clause-refused c =
    (c.in_ok-accepted.accepted, c.in_ok-accepted.ensures.accepted, sym c.stop_of.ensures ∙ c.in-None.is)

pub returns-in_ok-first_board-in-Some-clause-started : goal.returns-in_ok-first_board-in-Some-clause-started
returns-in_ok-first_board-in-Some-clause-started c = record {
  accepted = c.in_ok-accepted.accepted;
  is = c.in_ok-accepted.ensures.accepted;
  stop = c.in-Some.stop;
  stops = sym c.stop_of.ensures ∙ c.in-Some.is;
  model = c.in_ok-first_board-in-Some.ensures.model;
  limits = c.in_ok-first_board-in-Some.ensures.limits ∙ c.limits_of.ensures;
  fresh = rw (sym c.in_ok-first_board-in-Some.ensures.limits) at c.in_ok-first_board-in-Some.ensures.board;
}
