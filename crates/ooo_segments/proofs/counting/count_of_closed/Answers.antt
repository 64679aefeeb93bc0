-- Each process by how many of its nodes are waits.
use Rattle.std.proofs.Common.{◌≡◌, arith, ap, ◌∙◌, ◌-◌, take, drop}
use Rattle.std.specs.Prelude.{count_by}
use Rattle.ooo_code.specs.Segments.{is_wait, nodes_of}
use Rattle.ooo_segments.proofs.Lists.{read_is}
use Rattle.ooo_segments.proofs.Counts.{count_more}
use Rattle.ooo_segments.proofs.counting.count_of_closed.Goals as goal

pub returns-then-count-left-clause-many : goal.returns-then-count-left-clause-many
returns-then-count-left-clause-many c =
    let is = read_is _ _ _ _ c.loop-process.invariant.items (rw c.loop-process.invariant.items at c.loop-process-test.true) c.process-item.is in
    let more = count_more c.args.design.now c.args.design.now.processes c.loop-process.process-index c.process-item.result is in
    let count = c.loop-process.invariant.count in
    let waits : c.waits-count.result ≡ count_by is_wait (nodes_of c.args.design.now c.process-item.result) =
    c.waits-count.ensures ∙ ap (λ xs. count_by is_wait (take (c.process-item.result.end - c.process-item.result.first) (drop c.process-item.result.first xs))) c.as_slice.ensures in
    let over = c.if-count-left.true in
    λ _. omega arith

pub loop-process-preserved : goal.loop-process-preserved
loop-process-preserved c =
    let is = read_is _ _ _ _ c.loop-process.invariant.items (rw c.loop-process.invariant.items at c.loop-process-test.true) c.process-item.is in
    let more = count_more c.args.design.now c.args.design.now.processes c.loop-process.process-index c.process-item.result is in
    let count = c.loop-process.invariant.count in
    let waits : c.waits-count.result ≡ count_by is_wait (nodes_of c.args.design.now c.process-item.result) =
    c.waits-count.ensures ∙ ap (λ xs. count_by is_wait (take (c.process-item.result.end - c.process-item.result.first) (drop c.process-item.result.first xs))) c.as_slice.ensures in
    record { items = c.loop-process.invariant.items; count = omega arith }
