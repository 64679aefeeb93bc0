use Rattle.ooo_channels.proofs.Reserving.{reserved_more, reserved_all, more-trans, covers_still}
use Rattle.ooo_channels.proofs.bank.Bank.reserve.Goals as goal

pub returns-in_err-reserve_for-clause-kept : goal.returns-in_err-reserve_for-clause-kept
returns-in_err-reserve_for-clause-kept c = λ more room.
    covers_still c.args.self.now c.reserve_for.new.self more (more-trans c.args.self.now c.loop-effect.self c.reserve_for.new.self c.loop-effect.invariant.more c.in_err-reserve_for.ensures.more) room

pub loop-effect-preserved : goal.loop-effect-preserved
loop-effect-preserved c =
    reserved_more c.args.self.now c.loop-effect.self c.reserve_for.new.self c.args.effects.now c.loop-effect.effect-index _ c.loop-effect-test.true c.loop-effect.invariant
    c.in_ok-reserve_for.ensures.more c.in_ok-reserve_for.ensures.room

pub returns-clause-room : goal.returns-clause-room
returns-clause-room c = reserved_all c.args.self.now c.loop-effect.self c.args.effects.now c.loop-effect.effect-index c.requires.0 c.loop-effect-test.false c.loop-effect.invariant c.requires.1

pub returns-clause-kept : goal.returns-clause-kept
returns-clause-kept c = λ more room. covers_still c.args.self.now c.loop-effect.self more c.loop-effect.invariant.more room
