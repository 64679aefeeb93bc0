use Rattle.std.proofs.Common.{arith}
use Rattle.ooo_plain.proofs.Joining.{joined_more, joined_all}
use Rattle.ooo_plain.proofs.schedule.Schedule.join_all.Goals as goal

pub loop-e-preserved : goal.loop-e-preserved
loop-e-preserved c = joined_more c.args.p c.loop-e.e-index c.args.events.now c.args.self.now c.loop-e.self c.join.new.self c.loop-e-test.true c.loop-e.invariant c.in_ok-join.ensures

pub returns : goal.returns
returns c = joined_all c.args.p c.loop-e.e-index c.args.events.now c.args.self.now c.loop-e.self (let h = c.loop-e-test.false in omega (arith, h)) c.loop-e.invariant
