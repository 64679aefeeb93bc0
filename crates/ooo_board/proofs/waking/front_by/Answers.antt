use Rattle.std.proofs.Common.{ap, sym, ◌∙◌}
use Rattle.ooo_schedules.specs.Design.{front_by}
use Rattle.ooo_fronts.specs.Fronts.{maybe_front}
use Rattle.ooo_board.proofs.Asking.{asked, told_front}
use Rattle.ooo_board.specs.Cores.{wait_is}
use Rattle.ooo_board.proofs.waking.front_by.Goals as goal

pub soonest-fired-requires : goal.soonest-fired-requires
soonest-fired-requires c =
    let may = c.requires in
    (may.0, may.1, wait_is c.in-Some.waiting, asked c.args.bank.now c.args.below c.args.waiting.now c.in-Some.waiting c.in-Some.is c.as_slice.result.now c.default.result c.unwrap_or-since.result c.later.result c.as_slice.ensures c.default.ensures c.unwrap_or-since.ensures c.later.ensures may.0 may.1 may.2)

pub returns-in_err-stamp : goal.returns-in_err-stamp
returns-in_err-stamp c = λ r b may.
    ap maybe_front c.from_residual.ensures
    ∙ ap (front_by c.in-Some.waiting.segment) (sym c.in_err-stamp.was)
    ∙ told_front c.args.bank.now c.args.below c.args.waiting.now c.in-Some.waiting c.in-Some.is c.as_slice.result.now c.default.result c.unwrap_or-since.result c.later.result c.as_slice.ensures c.default.ensures c.unwrap_or-since.ensures c.later.ensures r b may c.soonest-fired.result c.sooner.result c.soonest-fired.ensures c.sooner.ensures

pub returns : goal.returns
returns c = λ r b may.
    ap (front_by c.in-Some.waiting.segment) (sym c.in_ok-stamp.was)
    ∙ told_front c.args.bank.now c.args.below c.args.waiting.now c.in-Some.waiting c.in-Some.is c.as_slice.result.now c.default.result c.unwrap_or-since.result c.later.result c.as_slice.ensures c.default.ensures c.unwrap_or-since.ensures c.later.ensures r b may c.soonest-fired.result c.sooner.result c.soonest-fired.ensures c.sooner.ensures
