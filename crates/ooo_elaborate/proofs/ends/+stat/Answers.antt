use Rattle.std.proofs.Common.{◌∙◌, ap}
use Rattle.ooo_elaborate.specs.Ends.{body_holds}
use Rattle.ooo_elaborate.proofs.Blocks.{block_holds}
use Rattle.ooo_elaborate.proofs.ends.+stat.Goals as goal

pub hold_stat-returns-in-Block : goal.hold_stat-returns-in-Block
hold_stat-returns-in-Block t c =
    rw (c.in-Block.is, block_holds c.args.process c.in-Block.body c.args.all.now)
    (c.hold_body.ensures ∙ ap (λ xs. body_holds c.args.process xs c.args.all.now) c.as_slice.ensures)
