use Rattle.std.proofs.Common.{◌≤◌, ◌+◌, length, arith}
use Rattle.std.proofs.lemmas.Option.{slice_get-get_or}
use Rattle.ooo_board.specs.Waking.{EffectsReach, Reaches}
use Rattle.ooo_board.proofs.Refreshing.{effects_more, effects_past, may_on, woken_as, woken_none, woken_then}
use Rattle.ooo_board.proofs.cores.Core.wake.Goals as goal

pub loop-effect-init : goal.loop-effect-init
loop-effect-init c = λ r s may there. woken_none r c.args.tables.now s (EffectsReach c.args.links.now c.args.effects.now 0) c.args.self.now may.waking (λ q h. let none = h.before in absurd (omega arith))

pub wake_for-requires : goal.wake_for-requires
wake_for-requires c =
    let w = c.requires.there in
    let may = w.2 in
    let there = w.3 in
    let old = c.loop-effect.invariant w.0 w.1 may there in
    let now = may_on c.args.links.now w.0 c.args.tables.now w.1 (EffectsReach c.args.links.now c.args.effects.now c.loop-effect.effect-index) c.args.self.now c.loop-effect.self may old in
    record { there = (w.0, w.1, now, there c.loop-effect.effect-index _ c.loop-effect-test.true) }

pub loop-effect-preserved : goal.loop-effect-preserved
loop-effect-preserved c = λ r s may there.
    let old = c.loop-effect.invariant r s may there in
    let effects = c.args.effects.now in
    let k = c.loop-effect.effect-index in
    let now = may_on c.args.links.now r c.args.tables.now s (EffectsReach c.args.links.now effects k) c.args.self.now c.loop-effect.self may old in
    woken_then r c.args.tables.now s (EffectsReach c.args.links.now effects k) (Reaches c.args.links.now _) (EffectsReach c.args.links.now effects (k + 1)) c.args.self.now c.loop-effect.self c.wake_for.new.self
    (λ q h. effects_more c.args.links.now effects k q _ (slice_get-get_or effects k _ c.loop-effect-test.true) h) old (c.wake_for.ensures r s now (there k _ c.loop-effect-test.true))

pub returns : goal.returns
returns c = λ r s may there.
    let past : length c.args.effects.now ≤ c.loop-effect.effect-index = omega arith in
    woken_as r c.args.tables.now s (EffectsReach c.args.links.now c.args.effects.now c.loop-effect.effect-index) (EffectsReach c.args.links.now c.args.effects.now (length c.args.effects.now)) c.args.self.now c.loop-effect.self
    (λ q h. effects_past c.args.links.now c.args.effects.now c.loop-effect.effect-index q past h) (c.loop-effect.invariant r s may there)
