-- Front by front.
use Rattle.std.proofs.Common.{◌+◌, sym, subst, arith, Option}
use Rattle.ooo_time.specs.declared.stamp.Stamp.{Stamp}
use Rattle.ooo_fronts.proofs.Earliest.{earliest_first, earliest_none, earliest_some, earliest_all, EarliestBelow, IsEarlier}
use Rattle.ooo_fronts.proofs.fronts.least_of.Goals as goal
use Rattle.ooo_fronts.proofs.fronts.least_of.Goals.{in-Some, in_default}

pub loop-front-init : goal.loop-front-init
loop-front-init c = earliest_first c.args.fronts.now

pub loop-front-preserved : goal.loop-front-preserved
loop-front-preserved c =
    let fronts = c.args.fronts.now in
    let i = c.loop-front.front-index in
    let P : Option Stamp → Type 0 = λ r. EarliestBelow fronts (i + 1) r in
    elim c.match-front.branch [
      | in-Some w ↦
          let is : IsEarlier w.in-Some.front.stamp c.loop-front.least w.earlier.result = record { one_of = w.earlier.ensures.one_of; first = w.earlier.ensures.first; second = w.earlier.ensures.second } in
          subst P (sym w.least-is) (earliest_some fronts i c.loop-front.least w.in-Some.front w.earlier.result w.in-Some.is c.loop-front.invariant is)
      | in_default w ↦ subst P (sym w.least-is) (earliest_none fronts i c.loop-front.least w.in_default.is c.loop-front.invariant)
    ]

pub returns : goal.returns
returns c = earliest_all c.args.fronts.now c.loop-front.front-index c.loop-front.least (omega (arith, c.loop-front-test.false)) c.loop-front.invariant
