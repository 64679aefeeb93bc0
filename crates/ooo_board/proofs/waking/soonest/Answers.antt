use Rattle.std.proofs.Common.{◌<◌, length, arith, refl, ◌-◌}
use Rattle.ooo_board.proofs.Asking.{asked_all, asked_more, asked_none, may_ask}
use Rattle.ooo_board.proofs.waking.soonest.Goals as goal

pub events-init : goal.events-init
events-init c = asked_none c.args.bank.now c.args.events.now c.args.from _ refl

pub first-requires : goal.first-requires
first-requires c =
    let within = c.events.invariant.within in
    let more = c.events-test.true in
    let lt : c.events.i - 1 < length c.args.events.now = omega arith in
    may_ask c.args.bank.now c.args.events.now c.args.from (c.events.i - 1) lt c.requires

pub events-preserved : goal.events-preserved
events-preserved c =
    let within = c.events.invariant.within in
    let more = c.events-test.true in
    let lt : c.events.i - 1 < length c.args.events.now = omega arith in
    asked_more c.args.bank.now c.args.events.now c.args.from (c.events.i - 1) lt c.events.i c.events.first c.first.result c.sooner-first.result (omega arith) c.events.invariant c.first.ensures c.sooner-first.ensures

pub returns : goal.returns
returns c = asked_all c.args.bank.now c.args.events.now c.args.from c.events.i c.events.first (omega arith) c.events.invariant
