use Rattle.std.proofs.Common.{◌∙◌, ap}
use Rattle.ooo_shapes.specs.Widths.{body_widths}
use Rattle.ooo_layout.proofs.Opened.{block_widths}
use Rattle.ooo_layout.proofs.widths.+stat.Goals as goal

pub of_stat-returns-in-Block : goal.of_stat-returns-in-Block
of_stat-returns-in-Block t c =
    rw (c.in-Block.is, block_widths c.in-Block.body) (c.of_body.ensures ∙ ap body_widths c.as_slice.ensures)
