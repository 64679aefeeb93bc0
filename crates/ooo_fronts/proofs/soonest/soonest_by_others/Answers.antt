-- Segment by segment.
use Rattle.std.proofs.Common.{◌+◌, ◌∙◌, sym, subst, arith, Option}
use Rattle.ooo_time.specs.declared.delay.Delay.{Delay}
use Rattle.ooo_fronts.proofs.Meeting.{IsLesserOf, LeastBelow, clashing_within, delays_to, least_all, least_first, least_none, least_some}
use Rattle.ooo_fronts.proofs.soonest.soonest_by_others.Goals as goal
use Rattle.ooo_fronts.proofs.soonest.soonest_by_others.Goals.{in-Some, in_default}

pub loop-b-init : goal.loop-b-init
loop-b-init c = least_first (delays_to c.args.tables.now c.args.a c.args.c c.clashing-clashing.result.now)

pub delay_by-requires-clause-by : goal.delay_by-requires-clause-by
delay_by-requires-clause-by c = clashing_within c.args.tables.now c.args.c c.clashing-clashing.result.now c.requires.aligned c.clashing-clashing.ensures.exact c.loop-b.b-index c.loop-b-test.true

pub loop-b-preserved : goal.loop-b-preserved
loop-b-preserved c =
    let f = delays_to c.args.tables.now c.args.a c.args.c c.clashing-clashing.result.now in
    let i = c.loop-b.b-index in
    let P : Option Delay → Type 0 = λ r. LeastBelow f (i + 1) r in
    elim c.match-delay_by.branch [
      | in-Some w ↦
          let is : IsLesserOf w.in-Some.delay c.loop-b.least w.lesser.result = record { one_of = w.lesser.ensures.one_of; first = w.lesser.ensures.first; second = w.lesser.ensures.second } in
          subst P (sym w.least-is) (least_some f i c.loop-b.least w.in-Some.delay w.lesser.result (sym c.delay_by.ensures ∙ w.in-Some.is) c.loop-b.invariant is)
      | in_default w ↦ subst P (sym w.least-is) (least_none f i c.loop-b.least (sym c.delay_by.ensures ∙ w.in_default.is) c.loop-b.invariant)
    ]

pub returns : goal.returns
returns c =
    least_all c.args.tables.now c.args.a c.args.c c.clashing-clashing.result.now c.loop-b.b-index c.loop-b.least c.requires.aligned c.clashing-clashing.ensures.exact
    (let x = c.loop-b-test.false in let y = c.loop-b.auto.b-index-end in omega (arith, x, y)) c.loop-b.invariant
