-- Module by module.
use Rattle.std.specs.Prelude.{◌++◌, codes}
use Rattle.ooo_gen.specs.Text.{modules_text, source_lines, stage_lines, drain_lines}
use Rattle.ooo_gen.proofs.Lines.{part_more, last_part}
use Rattle.ooo_gen.proofs.model.append_modules.Goals as goal

pub returns : goal.returns
unfolding modules_text
returns c =
    let old = c.args.text.now.items in
    let text1 = c.append_around.new.text.items in
    let text2 = c.extend_from_slice.new.self.items in
    let source = codes "#include <systemc.h>\n" ++ source_lines c.args.items in
    let stages = part_more old text1 text2 source stage_lines c.in_ok-append_around.ensures c.in_ok-extend_from_slice.ensures.items in
    last_part c.append_around-2.result old text2 c.append_around-2.new.text.items (source ++ stage_lines) (drain_lines c.args.items) stages c.append_around-2.ensures
