-- Front by front.
use Rattle.std.proofs.Common.{subst}
use Rattle.ooo_fronts.specs.Holds.{IsFirstFrom}
use Rattle.ooo_fronts.proofs.Firsts.{first_of_all, none_of_all}
use Rattle.ooo_fronts.proofs.fronts.first_hold.Goals as goal

pub returns-in-Some : goal.returns-in-Some
returns-in-Some c =
    let a = c.args in
    first_of_all a.tables.now a.fronts.now a.p c.loop-q.q c.in-Some.hold c.loop-q.invariant (subst (IsFirstFrom a.tables.now a.fronts.now a.p c.loop-q.q) c.in-Some.is c.first_from.ensures)

pub returns : goal.returns
returns c = none_of_all c.args.tables.now c.args.fronts.now c.args.p c.loop-q.q c.loop-q-test.false c.loop-q.invariant
