-- Each node of the process, by whether it is a wait.
use Rattle.std.proofs.Common.{◌<◌, length, arith, sym}
use Rattle.ooo_segments.proofs.Lists.{read_is}
use Rattle.ooo_segments.proofs.Within.{process_closed, entry_after}
use Rattle.ooo_segments.proofs.Additions.{added_start, added_wait, added_other, added_all}
use Rattle.ooo_segments.proofs.segments.add_process.Goals as goal
use Rattle.ooo_segments.proofs.segments.add_process.Goals.{then-is_wait+in_ok-add_segment-2, else-is_wait}

pub loop-n-init : goal.loop-n-init
loop-n-init c = added_start _ _ _ _ _ c.in_ok-add_segment.ensures

pub add_segment-requires-then-is_wait-clause-entry : goal.add_segment-requires-then-is_wait-clause-entry
add_segment-requires-then-is_wait-clause-entry c =
    let within = (process_closed c.args.design.now c.args.p c.args.process.now c.requires.closed c.requires.process).within in
    let below : c.loop-n.n < c.args.process.now.end = c.loop-n-test.true in
    let inside : c.loop-n.n < length c.args.design.now.nodes = omega arith in
    let is = read_is _ _ _ _ c.as_slice.ensures inside c.index-as_slice-n.is in
    entry_after c.args.design.now c.args.process.now c.loop-n.n c.index-as_slice-n.result (record { from = c.loop-n.auto.n; below = below }) is (sym c.if-is_wait.ensures)

pub loop-n-preserved : goal.loop-n-preserved
loop-n-preserved c =
    let within = (process_closed c.args.design.now c.args.p c.args.process.now c.requires.closed c.requires.process).within in
    let below : c.loop-n.n < c.args.process.now.end = c.loop-n-test.true in
    let inside : c.loop-n.n < length c.args.design.now.nodes = omega arith in
    let is = read_is _ _ _ _ c.as_slice.ensures inside c.index-as_slice-n.is in
    elim c.if-is_wait.branch [
      | then-is_wait+in_ok-add_segment-2 w ↦
          rw w.segments-is (added_wait _ _ _ _ _ _ _ _ c.loop-n.auto.n below is (sym w.if-is_wait.ensures) c.loop-n.invariant w.in_ok-add_segment-2.ensures)
      | else-is_wait w ↦
          rw w.segments-is (added_other _ _ _ _ _ _ _ c.loop-n.auto.n below is (sym w.if-is_wait.ensures) c.loop-n.invariant)
    ]

pub returns : goal.returns
returns c = added_all _ _ _ _ _ _ c.loop-n-test.false c.loop-n.invariant
