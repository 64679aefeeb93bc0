use Rattle.std.proofs.Common.{take}
use Rattle.ooo_channels.specs.Operations.{after_effects}
use Rattle.ooo_channels.proofs.Apart.{others_left}
use Rattle.ooo_channels.proofs.Applying.{applied_none, next_room, next_may, applied_more, applied_all, room_after}
use Rattle.ooo_channels.proofs.bank.Bank.apply.Goals as goal

pub loop-effect-init : goal.loop-effect-init
loop-effect-init c = applied_none c.args.self.now c.args.at c.args.effects.now

pub apply_one-requires-clause-room : goal.apply_one-requires-clause-room
apply_one-requires-clause-room c =
    next_room c.args.self.now c.loop-effect.self c.args.at c.args.effects.now c.loop-effect.effect-index _ c.loop-effect-test.true c.loop-effect.invariant c.requires.room

pub apply_one-requires-clause-may : goal.apply_one-requires-clause-may
apply_one-requires-clause-may c =
    let may = c.requires.may in
    let fs = c.args.effects.now in (
      after_effects c.args.at may.0 (take c.loop-effect.effect-index fs),
      c.loop-effect.invariant.after may.0 may.1 may.2,
      next_may c.args.self.now c.loop-effect.self c.args.at fs c.loop-effect.effect-index _ c.loop-effect-test.true c.loop-effect.invariant may.0 may.1 may.2,
    )

pub loop-effect-preserved : goal.loop-effect-preserved
loop-effect-preserved c =
    applied_more c.args.self.now c.loop-effect.self c.args.at c.args.effects.now c.loop-effect.effect-index _ c.loop-effect-test.true c.loop-effect.invariant
    c.apply_one.new.self c.apply_one.ensures

pub returns-clause-after : goal.returns-clause-after
returns-clause-after c = applied_all c.args.self.now c.loop-effect.self c.args.at c.args.effects.now c.loop-effect.effect-index c.loop-effect-test.false c.loop-effect.invariant

pub returns-clause-room : goal.returns-clause-room
returns-clause-room c = room_after c.args.self.now c.loop-effect.self c.args.at c.args.effects.now c.loop-effect.effect-index c.loop-effect-test.false c.loop-effect.invariant

pub returns-clause-others : goal.returns-clause-others
returns-clause-others c = λ ops. others_left c.args.at ops c.args.effects.now
