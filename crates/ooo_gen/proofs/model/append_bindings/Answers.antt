-- Stage by stage.
use Rattle.std.proofs.Common.{◌+◌, arith}
use Rattle.ooo_gen.specs.Text.{binding_line}
use Rattle.ooo_gen.proofs.Lines.{line_more}
use Rattle.ooo_gen.proofs.model.append_bindings.Goals as goal

pub loop-index-preserved : goal.loop-index-preserved
loop-index-preserved c =
    line_more binding_line 1 c.loop-index.index (c.loop-index.index + 1) _ c.args.text.now.items c.loop-index.text.items c.append_binding.new.text.items
    (omega arith) (omega arith) c.loop-index.invariant c.in_ok-append_binding.ensures
