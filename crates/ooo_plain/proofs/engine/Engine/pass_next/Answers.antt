use Rattle.std.proofs.Common.{None, Some}
use Rattle.ooo_plain.proofs.Evaluating.{may_take, may_turn, passed}
use Rattle.ooo_plain.proofs.engine.Engine.pass_next.Goals as goal

pub take-requires : goal.take-requires
take-requires c = let m = c.requires.may in may_take c.args.design.now c.args.self.now m.ops m.world m.mirrors m.planned

pub turn-requires-clause-may : goal.turn-requires-clause-may
turn-requires-clause-may c = may_turn c.args.design.now c.in-Some.p c.args.self.now c.take.new.self c.requires.may c.in-Some.ensures.taken c.in-Some.ensures.rest

pub returns-in-None : goal.returns-in-None
returns-in-None c = passed c.args.design.now c.args.statements c.in-Some.p None c.in_ok-turn.field-0 c.in-None.is c.args.self.now c.turn.new.self c.take.new.self c.in-Some.ensures.taken c.in-Some.ensures.rest c.in_ok-turn.ensures

pub returns-in-Some-2 : goal.returns-in-Some-2
returns-in-Some-2 c = λ w ops m h.
    (c.in-Some.p, passed c.args.design.now c.args.statements c.in-Some.p (Some c.in-Some-2.end) c.in_ok-turn.field-0 c.in-Some-2.is c.args.self.now c.turn.new.self c.take.new.self c.in-Some.ensures.taken c.in-Some.ensures.rest c.in_ok-turn.ensures w ops m h)
