use Rattle.std.proofs.Common.{◌≡◌, ◌<◌, [], List, ℕ, ap, arith, get_or, length, replicate, subst, sym, ◌∙◌}
use Rattle.std.specs.Prelude.{All, Some, slice_get}
use Rattle.std.proofs.lemmas.List.Elements.{All-contains_itself}
use Rattle.std.proofs.lemmas.Option.{slice_get-get_or}
use Rattle.ooo_code.specs.declared.segment.Segment.{Segment}
use Rattle.ooo_code.specs.Segments.{IsSegment}
use Rattle.ooo_access.specs.declared.access.Access.{Access}
use Rattle.ooo_board.specs.Links.{Adds}
use Rattle.ooo_board.proofs.Looking.{segment_process, waiters_on}
use Rattle.ooo_board.proofs.Made.{all_waiting, no_waiters}
use Rattle.ooo_board.proofs.links.all_waiters.Goals as goal

pub loop-g-init : goal.loop-g-init
loop-g-init c = no_waiters c.args.design.now c.args.segments.now c.args.access.now c.in_ok-waiters.waiters.items (c.in_ok-waiters.ensures ∙ ap (λ n. replicate {A = List ℕ} n []) c.len.ensures)

pub returns : goal.returns
returns c = all_waiting c.args.design.now c.loop-g.g c.args.segments.now c.args.access.now c.loop-g.waiters.items c.loop-g-test.false c.loop-g.invariant

pub add_waiter-requires : goal.add_waiter-requires
add_waiter-requires c =
    let g = c.loop-g.g in
    let a : Access = c.index-access-g.result in
    let n = c.requires.access.count in
    let within : g < length c.args.access.now = omega arith in
    let a_is : slice_get c.args.access.now g ≡ Some a = slice_get-get_or c.args.access.now g a within ∙ ap Some (sym c.index-access-g.is) in
    let waited : c.as_slice.result.now ≡ a.waited = c.as_slice.ensures ∙ ap (λ (x : Access). x.waited) (sym c.index-access-g.is) in
    subst (λ count. All (λ e. e < count) c.as_slice.result.now) (sym c.loop-g.invariant.count)
    (subst (All (λ e. e < length c.args.design.now.events)) (sym waited) (λ k d lt. c.requires.waits g (get_or a.waited k d) a a_is (All-contains_itself a.waited k d lt)))

pub loop-g-preserved : goal.loop-g-preserved
loop-g-preserved c =
    let g = c.loop-g.g in
    let a : Access = c.index-access-g.result in
    let s : Segment = c.index-segments-g.result in
    let n = c.requires.access.count in
    let within : g < length c.args.access.now = omega arith in
    let a_is : slice_get c.args.access.now g ≡ Some a = slice_get-get_or c.args.access.now g a within ∙ ap Some (sym c.index-access-g.is) in
    let s_is : slice_get c.args.segments.now g ≡ Some s = slice_get-get_or c.args.segments.now g s c.loop-g-test.true ∙ ap Some (sym c.index-segments-g.is) in
    let waited : c.as_slice.result.now ≡ a.waited = c.as_slice.ensures ∙ ap (λ (x : Access). x.waited) (sym c.index-access-g.is) in
    let segment : IsSegment c.args.design.now s = subst (IsSegment c.args.design.now) (sym c.index-segments-g.is) (c.requires.segments g s c.loop-g-test.true) in
    waiters_on c.args.design.now g c.args.segments.now c.args.access.now c.loop-g.waiters.items c.add_waiter.new.waiters.items s a s_is a_is (segment_process c.args.design.now s segment)
    (subst (λ xs. Adds xs s.process c.loop-g.waiters.items c.add_waiter.new.waiters.items) waited c.in-Ok.ensures) c.loop-g.invariant
