use Rattle.std.proofs.Common.{sym}
use Rattle.ooo_board.proofs.Leaving.{has_segment, left_waiting, waits_in_time}
use Rattle.ooo_board.proofs.committing.waiting_after.Goals as goal

pub segment-requires : goal.segment-requires
segment-requires c = has_segment c.args.tables.now c.args.links.now c.args.p c.args.entry c.args.end c.args.at c.in-Waits.on c.in-Waits.is c.as_slice.result.now c.as_slice.ensures c.requires

pub timeout-requires : goal.timeout-requires
timeout-requires c = waits_in_time c.args.tables.now c.args.links.now c.args.p c.args.entry c.args.end c.args.at c.in-Waits.on c.in-Waits.is c.requires

pub returns-in-Waits : goal.returns-in-Waits
returns-in-Waits c = λ design limits.
    left_waiting c.args.tables.now c.args.links.now c.args.p c.args.entry c.args.end c.args.at c.in-Waits.on c.in-Waits.is design limits c.segment.result c.timeout.result
    (c.segment.ensures.at design limits c.args.tables.now (sym c.as_slice.ensures)) c.timeout.ensures
