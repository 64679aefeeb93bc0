-- The choice's pick; that of least place by the law.
use Rattle.std.proofs.Common.{arith, subst}
use Rattle.ooo_board.specs.Boards.{rules, state}
use Rattle.ooo_board.proofs.Steps.{IsKept, few}
use Rattle.ooo_board.proofs.board.Board.pick.Goals as goal

pub pick-requires-clause-few : goal.pick-requires-clause-few
pick-requires-clause-few c =
    let has = subst (λ x. IsKept x c.self.inside.core) c.self.view_is c.self.invariant.has in
    let n = few c.args.self.now c.self.inside.core has in
    let m = c.choice.ensures.fronts in
    omega (arith, n, m)

pub returns-clause-pick : goal.returns-clause-pick
returns-clause-pick c = λ sound. let b = c.args.self.now in c.pick.ensures.pick (rules b) b.tables.advance (state b).board c.choice.ensures.of

pub returns-clause-no_dead_end : goal.returns-clause-no_dead_end
returns-clause-no_dead_end c = λ sound still p below.
    let b = c.args.self.now in
    let has = subst (λ x. IsKept x c.self.inside.core) c.self.view_is c.self.invariant.has in
    let laws = c.laws.ensures b.design b.limits b.tables has.stands.ready in
    let of = c.choice.ensures.of in
    laws.least b.schedule has.stands.lawful still (λ q g is. (laws.in_reach b.schedule has.stands.lawful q g is).delta) c.choice.result.fronts.now of.fronts p below c.pick.result
    (c.pick.ensures.pick (rules b) b.tables.advance (state b).board of)
