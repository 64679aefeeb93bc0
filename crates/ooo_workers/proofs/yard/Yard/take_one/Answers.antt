use Rattle.std.proofs.Common.{subst, IfSome}
use Rattle.std.specs.Prelude.{IfNone}
use Rattle.ooo_workers.specs.Passes.{Rested, TurnIs}
use Rattle.ooo_workers.proofs.Turns.{on_err, rested_trans, rested_turn}
use Rattle.ooo_workers.proofs.yard.Yard.take_one.Goals as goal

pub returns-in-Some-2-clause-turn : goal.returns-in-Some-2-clause-turn
returns-in-Some-2-clause-turn g c = rested_turn c.args.pass.now c.loop.pass c.try_take.new.pass c.in-Some-2.turn c.loop.invariant (subst (λ o. IfSome o (TurnIs c.loop.pass c.try_take.new.pass)) c.in-Some-2.is c.in_ok-turn.ensures.some)

pub returns-in_err-turn-clause-refused : goal.returns-in_err-turn-clause-refused
returns-in_err-turn-clause-refused g c = on_err c.from_residual.result _ (rested_trans c.args.pass.now c.loop.pass c.try_take.new.pass c.loop.invariant c.in_err-turn.ensures.refused)

pub loop-preserved : goal.loop-preserved
loop-preserved g c =
    rested_trans c.args.pass.now c.loop.pass c.try_take.new.pass c.loop.invariant (subst (λ o. IfNone o (Rested c.loop.pass c.try_take.new.pass)) c.in_default.is c.in_ok-turn.ensures.none)
