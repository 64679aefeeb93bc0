use Rattle.std.proofs.Common.{◌≡◌, ◌∙◌, ◌-◌, ◌+◌, ◌<◌, ap, arith, length, replicate, set, subst, sym}
use Rattle.std.specs.Prelude.{Some, slice_get}
use Rattle.std.proofs.lemmas.Option.{slice_get-get_or}
use Rattle.ooo_code.specs.declared.segment.Segment.{Segment}
use Rattle.ooo_code.specs.Segments.{IsSegment}
use Rattle.ooo_board.specs.Links.{AreStarts}
use Rattle.ooo_board.proofs.Looking.{segment_process}
use Rattle.ooo_board.proofs.Made.{no_starts, starts_on}
use Rattle.ooo_board.proofs.links.all_starts.Goals as goal

pub loop-g-init : goal.loop-g-init
loop-g-init c =
    (omega arith, no_starts c.args.design.now c.args.segments.now c.in_ok-starts.starts.items (c.in_ok-starts.ensures.items_if_clones_equal (λ y h. h) ∙ ap (λ n. replicate n 0) c.len.ensures))

pub loop-g-preserved : goal.loop-g-preserved
loop-g-preserved c =
    let g = c.loop-g.g - 1 in
    let s : Segment = c.index-segments-g.result in
    let more : c.loop-g.g ≡ g + 1 = omega (arith, c.loop-g-test.true) in
    let within : g < length c.args.segments.now = omega (arith, c.loop-g.invariant.0, c.loop-g-test.true) in
    let is : slice_get c.args.segments.now g ≡ Some s = slice_get-get_or c.args.segments.now g s within ∙ ap Some (sym c.index-segments-g.is) in
    let segment : IsSegment c.args.design.now s = subst (IsSegment c.args.design.now) (sym c.index-segments-g.is) (c.requires.segments g s within) in
    let so_far : AreStarts c.args.design.now (g + 1) c.args.segments.now c.loop-g.starts.items = subst (λ n. AreStarts c.args.design.now n c.args.segments.now c.loop-g.starts.items) more c.loop-g.invariant.1 in
    let next = starts_on c.args.design.now g c.args.segments.now c.loop-g.starts.items s is (segment_process c.args.design.now s segment) so_far in
    (omega (arith, c.loop-g.invariant.0), subst (λ (x : Segment). AreStarts c.args.design.now g c.args.segments.now (set c.loop-g.starts.items x.process g)) c.index-segments-g.is next)

pub returns : goal.returns
returns c = subst (λ n. AreStarts c.args.design.now n c.args.segments.now c.loop-g.starts.items) (omega (arith, c.loop-g-test.false)) c.loop-g.invariant.1
