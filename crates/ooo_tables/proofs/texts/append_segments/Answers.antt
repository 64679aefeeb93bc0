-- Segment by segment.
use Rattle.std.proofs.Common.{◌<◌, length, arith}
use Rattle.std.specs.Prelude.{slice_get}
use Rattle.ooo_lemmas.proofs.Placed.{read_is}
use Rattle.ooo_tables.specs.Text.{segment_line}
use Rattle.ooo_tables.proofs.TextLemmas.{each_more, segment_written}
use Rattle.ooo_tables.proofs.texts.append_segments.Goals as goal

pub loop-n-preserved : goal.loop-n-preserved
loop-n-preserved c =
    let lt : c.loop-n.n < length c.args.segments.now = omega arith in
    let is = read_is c.args.segments.now c.loop-n.n c.index-segments-n.result lt c.index-segments-n.is in
    each_more _ _ _ c.loop-n.n (λ n. segment_line c.args.design.now c.args.names.now n (slice_get c.args.segments.now n)) c.loop-n.invariant (segment_written c.args.design.now c.args.names.now c.args.segments.now c.loop-n.n c.index-segments-n.result _ _ is c.in_ok-append_segment.ensures)
