-- The next one is in order, or those before it are all.
use Rattle.std.proofs.Common.{ap, sym, ◌∙◌, arith}
use Rattle.ooo_interp.proofs.Listed.{fewer_in_order, more_in_order, none_in_order}
use Rattle.ooo_interp.proofs.job_parts.in_order.Goals as goal

pub loop-at-init : goal.loop-at-init
loop-at-init c = none_in_order c.args.carried.now c.args.first (omega (arith, c.ranges.first))

pub returns : goal.returns
returns c = fewer_in_order c.args.carried.now c.args.first c.loop-at.at _ c.loop-at.invariant (omega (arith, c.loop-at-test.false))

pub loop-at-preserved : goal.loop-at-preserved
loop-at-preserved c = more_in_order c.args.carried.now c.args.first c.loop-at.at _ c.loop-at.invariant c.loop-at-test.true (ap (λ e. e.0) (sym c.index-carried-at.is) ∙ c.is_above_by.ensures.number c.if-not-is_above_by.false) (c.is_above_by.ensures.fits c.if-not-is_above_by.false)
