use Rattle.std.proofs.Common.{◌∙◌, subst, sym}
use Rattle.ooo_plain.specs.Cycles.{AreInRange as AreRunLimits}
use Rattle.ooo_sim.proofs.Answers.{all_reported, none_reported, run_limits}
use Rattle.ooo_sim.proofs.reply.told_plainly.Goals as goal

pub run_plainly-requires-clause-range : goal.run_plainly-requires-clause-range
run_plainly-requires-clause-range c =
    subst AreRunLimits (sym c.limits_of.ensures)
    (run_limits c.args.options c.args.accepted.now.bound c.in-Some.stop c.requires.range c.requires.ready.stop (sym c.stop_of.ensures ∙ c.in-Some.is))

pub returns-in-Some : goal.returns-in-Some
returns-in-Some c =
    all_reported c.args.told c.args.options c.args.accepted.now c.in-Some.stop (sym c.stop_of.ensures ∙ c.in-Some.is) c.run_plainly.result
    (rw c.limits_of.ensures at c.run_plainly.ensures)

pub returns-in-None : goal.returns-in-None
returns-in-None c =
    none_reported c.args.told c.args.options c.args.accepted.now (sym c.stop_of.ensures ∙ c.in-None.is) c.refuse.result c.refuse.ensures.reply
