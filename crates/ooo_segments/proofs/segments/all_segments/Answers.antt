-- Each process by its number, of which there are no more than segments.
use Rattle.std.proofs.Common.{◌≡◌, [], take, arith, sym, subst}
use Rattle.std.proofs.lemmas.List.{take_all}
use Rattle.std.proofs.lemmas.List.Elements.{All-nil}
use Rattle.ooo_code.specs.Segments.{IsSegment}
use Rattle.ooo_segments.specs.Beginnings.{AddsSegments}
use Rattle.ooo_segments.proofs.Lists.{read_is}
use Rattle.ooo_segments.proofs.Additions.{adds_then, beginnings_more, processes_few}
use Rattle.ooo_segments.proofs.segments.all_segments.Goals as goal

pub overflow_cast-p : goal.overflow_cast-p
overflow_cast-p c =
    let few = processes_few c.args.design.now 0 c.args.design.now.processes in
    let all = c.requires.few in
    let lt = rw c.loop-p.invariant.items at c.loop-p-test.true in
    omega arith

pub add_process-requires-clause-process : goal.add_process-requires-clause-process
add_process-requires-clause-process c =
    read_is _ _ _ _ c.loop-p.invariant.items (rw c.loop-p.invariant.items at c.loop-p-test.true) c.process-item.is

pub loop-p-preserved : goal.loop-p-preserved
loop-p-preserved c =
    let is = read_is _ _ _ _ c.loop-p.invariant.items (rw c.loop-p.invariant.items at c.loop-p-test.true) c.process-item.is in
    record {
      items = c.loop-p.invariant.items;
      adds =
          subst (λ bs. AddsSegments c.args.design.now [] c.add_process.new.segments.items bs)
          (sym (beginnings_more c.args.design.now c.args.design.now.processes c.loop-p.p c.process-item.result is))
          (adds_then _ _ _ _ _ _ c.loop-p.invariant.adds c.in_ok-add_process.ensures);
    }

pub returns : goal.returns
returns c =
    let all : take c.loop-p.p c.args.design.now.processes ≡ c.args.design.now.processes =
    take_all _ _ (rw c.loop-p.invariant.items at c.loop-p-test.false) in
    let adds = rw all at c.loop-p.invariant.adds in
    record { order = adds.order; each = adds.each (All-nil (IsSegment c.args.design.now)) }
