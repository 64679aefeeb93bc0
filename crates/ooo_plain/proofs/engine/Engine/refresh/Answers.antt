use Rattle.std.proofs.Common.{arith}
use Rattle.ooo_plain.proofs.Refreshing.{refreshed_none, refreshed_more, refreshed_all, may_refresh}
use Rattle.ooo_plain.proofs.engine.Engine.refresh.Goals as goal

pub loop-effect-init : goal.loop-effect-init
loop-effect-init c = refreshed_none c.args.design.now c.args.self.now

pub refresh_for-requires : goal.refresh_for-requires
refresh_for-requires c = may_refresh c.args.design.now c.args.effects.now c.loop-effect.effect-index _ c.args.self.now c.loop-effect.self c.loop-effect-test.true c.loop-effect.invariant c.requires

pub loop-effect-preserved : goal.loop-effect-preserved
loop-effect-preserved c = refreshed_more c.args.design.now c.args.effects.now c.loop-effect.effect-index _ c.args.self.now c.loop-effect.self c.loop-effect-test.true c.loop-effect.invariant c.refresh_for.new.self c.in_ok-refresh_for.ensures

pub returns : goal.returns
returns c = refreshed_all c.args.design.now c.args.effects.now c.loop-effect.effect-index c.args.self.now c.loop-effect.self (let h = c.loop-effect-test.false in omega (arith, h)) c.loop-effect.invariant
