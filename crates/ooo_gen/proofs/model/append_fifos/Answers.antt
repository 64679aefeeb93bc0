-- Fifo by fifo.
use Rattle.std.proofs.Common.{arith}
use Rattle.ooo_gen.specs.Text.{fifo_line}
use Rattle.ooo_gen.proofs.Lines.{line_more}
use Rattle.ooo_gen.proofs.model.append_fifos.Goals as goal

pub loop-fifo-preserved : goal.loop-fifo-preserved
loop-fifo-preserved c =
    line_more fifo_line 0 c.loop-fifo.fifo c.loop-fifo.fifo _ c.args.text.now.items c.loop-fifo.text.items c.append_around.new.text.items
    (omega arith) (omega arith) c.loop-fifo.invariant c.in_ok-append_around.ensures
