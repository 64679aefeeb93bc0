use Rattle.std.proofs.Common.{subst}
use Rattle.std.proofs.lemmas.Result.{IfOk-weaker}
use Rattle.ooo_plain.specs.Cycles.{Cycles}
use Rattle.ooo_plain.specs.Running.{ShowsOver, ShowsRun}
use Rattle.ooo_plain.proofs.Reaching.{counts_below, reaches_next, is_over, shows_run}
use Rattle.ooo_plain.proofs.run.run_on.Goals as goal

pub cycle-requires-clause-counts : goal.cycle-requires-clause-counts
cycle-requires-clause-counts c = counts_below c.args.design.now c.args.limits c.cycles.engine c.requires.few c.requires.range c.cycles.invariant

pub finish-requires : goal.finish-requires
finish-requires c =
    let over = is_over c.args.design.now c.args.limits c.in-Over.end c.in-Over.at c.cycles.engine c.cycle.new.self
    (subst (λ t. Cycles c.args.design.now c.args.limits t c.cycles.engine c.cycle.new.self) c.in-Over.is c.in-Ok.ensures) c.cycles.invariant in
    (c.args.design.now, over.0, over.1)

pub returns-in-Over : goal.returns-in-Over
returns-in-Over c = IfOk-weaker c.finish.result (ShowsOver c.cycle.new.self c.in-Over.at c.in-Over.end) (ShowsRun c.args.design.now c.args.limits) (λ run shows. shows_run c.args.design.now c.args.limits c.in-Over.end c.in-Over.at c.cycles.engine c.cycle.new.self run
    (subst (λ t. Cycles c.args.design.now c.args.limits t c.cycles.engine c.cycle.new.self) c.in-Over.is c.in-Ok.ensures) c.cycles.invariant shows) c.finish.ensures

pub cycles-preserved : goal.cycles-preserved
cycles-preserved c = reaches_next c.args.design.now c.args.limits c.cycles.engine c.cycle.new.self
    (subst (λ t. Cycles c.args.design.now c.args.limits t c.cycles.engine c.cycle.new.self) c.in-Goes.is c.in-Ok.ensures) c.cycles.invariant
