-- Part by part.
use Rattle.std.specs.Prelude.{◌+◌, ◌++◌, codes}
use Rattle.std.specs.List.{flat_map, range_with_len}
use Rattle.ooo_gen.specs.Text.{main_text, fifo_line, seeded_line, binding_line, last_lines}
use Rattle.ooo_gen.proofs.Lines.{part_more, last_part}
use Rattle.ooo_gen.proofs.model.append_main.Goals as goal

pub returns : goal.returns
unfolding main_text
returns c =
    let old = c.args.text.now.items in
    let text1 = c.extend_from_slice.new.self.items in
    let text2 = c.append_fifos.new.text.items in
    let text3 = c.extend_from_slice-2.new.self.items in
    let text4 = c.append_stages.new.text.items in
    let text5 = c.extend_from_slice-3.new.self.items in
    let text6 = c.append_bindings.new.text.items in
    let head = codes "int sc_main(int argc, char* argv[]) {\n" in
    let fifos = flat_map fifo_line (range_with_len 0 (c.args.stages + 1)) in
    let source = codes "  Source s(\"s\");\n" in
    let stages = flat_map (seeded_line c.args.seed) (range_with_len 1 c.args.stages) in
    let drain = codes "  Drain d(\"d\");\n  s.out(f0);\n" in
    let bindings = flat_map binding_line (range_with_len 1 c.args.stages) in
    let h2 = part_more old text1 text2 head fifos c.in_ok-extend_from_slice.ensures.items c.in_ok-append_fifos.ensures in
    let h3 = part_more old text2 text3 (head ++ fifos) source h2 c.in_ok-extend_from_slice-2.ensures.items in
    let h4 = part_more old text3 text4 (head ++ fifos ++ source) stages h3 c.in_ok-append_stages.ensures in
    let h5 = part_more old text4 text5 (head ++ fifos ++ source ++ stages) drain h4 c.in_ok-extend_from_slice-3.ensures.items in
    let h6 = part_more old text5 text6 (head ++ fifos ++ source ++ stages ++ drain) bindings h5 c.in_ok-append_bindings.ensures in
    last_part c.append_around.result old text6 c.append_around.new.text.items (head ++ fifos ++ source ++ stages ++ drain ++ bindings) (last_lines c.args.stages) h6 c.append_around.ensures
