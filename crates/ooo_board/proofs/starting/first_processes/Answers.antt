use Rattle.std.proofs.Common.{◌≡◌, ◌+◌, ◌<◌, List, [], ◌∷◌, ◌++◌, ap, arith, length, subst, sym, ◌∙◌}
use Rattle.std.specs.Prelude.{Some, slice_get}
use Rattle.std.proofs.lemmas.Option.{slice_get-get_or}
use Rattle.ooo_lemmas.proofs.Placed.{inside}
use Rattle.ooo_code.specs.declared.design.Proc.{Proc}
use Rattle.ooo_code.specs.declared.segment.SegmentEntry.TheVariants.{Start}
use Rattle.ooo_dispatch.specs.Least.{rules_of}
use Rattle.ooo_dispatch.specs.Rules.{segment_at}
use Rattle.ooo_board.specs.declared.process.Process.{Process}
use Rattle.ooo_board.specs.Starting.{IsFirst}
use Rattle.ooo_board.proofs.Beginning.{AreBegun, few_processes, has_start, one_begun}
use Rattle.ooo_board.proofs.starting.first_processes.Goals as goal

pub overflow_cast-p-end : goal.overflow_cast-p-end
overflow_cast-p-end c =
    let few = few_processes c.args.design.now c.args.tables.now.graph.segments c.requires.tables.segments in
    let most = c.requires.tables.few in
    let same = ap length c.as_slice-processes.ensures in
    omega arith

pub segment-segment-requires : goal.segment-segment-requires
segment-segment-requires c =
    let design = c.args.design.now in
    let t = c.args.tables.now in
    let same = ap length c.as_slice-processes.ensures in
    let within : c.loop-p.p < length design.processes = omega arith in
    let q = inside design.processes c.loop-p.p within in
    let s = has_start design t.graph.segments c.requires.tables.segments c.loop-p.p q.0 q.1 in
    record {
      design = design;
      tables = t;
      are_tables = c.requires.tables;
      segments_are = sym c.as_slice-segments.ensures;
      links = c.requires.links;
      number = s.number;
      segment = s.segment;
      there = subst (λ xs. slice_get xs s.number ≡ Some s.segment) (sym c.as_slice-segments.ensures) s.there;
      begins = s.begins;
    }

pub loop-p-preserved : goal.loop-p-preserved
loop-p-preserved c = record {
  begun = λ limits.
      let design = c.args.design.now in
      let t = c.args.tables.now in
      let r = rules_of design limits t in
      let p = c.loop-p.p in
      let q : Proc = c.index-processes-p.result in
      let x = c.in-Ok.made in
      let is : slice_get design.processes p ≡ Some q =
      subst (λ xs. slice_get xs p ≡ Some q) c.as_slice-processes.ensures
      (slice_get-get_or c.as_slice-processes.result.now p q c.loop-p-test.true ∙ ap Some (sym c.index-processes-p.is)) in
      let first : IsFirst (segment_at r p Start) q x =
      subst (λ g. IsFirst g q x) (c.segment-segment.ensures.at design limits t (sym c.as_slice-segments.ensures)) c.in-Ok.ensures in
      let pushed : c.push_reserved.new.self.items ≡ c.loop-p.made.items ++ x ∷ [] = c.push_reserved.ensures.items in
      subst (AreBegun r (p + 1)) (sym {A = List Process} pushed) (one_begun r p c.loop-p.made.items q x is first (c.loop-p.invariant.begun limits));
  room = omega (arith, c.loop-p.invariant.room, c.loop-p-test.true, c.push_reserved.ensures.len, c.push_reserved.ensures.capacity);
}

pub push_reserved-requires : goal.push_reserved-requires
push_reserved-requires c = omega (arith, c.loop-p.invariant.room, c.loop-p-test.true)

pub returns : goal.returns
returns c limits =
    let h = c.loop-p.invariant.begun limits in
    let same = ap length c.as_slice-processes.ensures in
    let counted = h.counted in
    record { counted = omega arith; each = h.each }
