use Rattle.std.proofs.Common.{◌≡◌, subst, sym, ap, ◌∙◌, arith, length, List}
use Rattle.ooo_workers.specs.Passes.{PassIs, Ranged, fresh_from, EachWorks, Closes}
use Rattle.ooo_workers.proofs.Joins.{ranged_after, ranged_fresh, length_fresh, all_idle, overlay, board_begins, each_length}
use Rattle.ooo_workers.proofs.driving.drive.Goals as goal

pub work_all-requires-clause-passes : goal.work_all-requires-clause-passes
work_all-requires-clause-passes g c = λ κs more k d lt.
    let id = c.in_ok-yard.yard.table.shared.table_id in
    let ranged : Ranged id 0 c.as_mut_slice.result.now = subst (λ (l : List PassIs). Ranged id 0 l) (sym (c.as_mut_slice.ensures.value ∙ c.in_ok-yard.ensures.1)) (ranged_fresh id c.args.board 0 c.args.workers) in
    all_idle id 0 c.as_mut_slice.result.now ranged k d lt

pub close-requires : goal.close-requires
close-requires g c =
    let id = c.in_ok-yard.yard.table.shared.table_id in
    let are = c.as_mut_slice.ensures.value ∙ c.in_ok-yard.ensures.1 in
    let old = fresh_from id c.args.board 0 c.args.workers in
    let works : EachWorks old c.work_all.new.passes = subst (λ (l : List PassIs). EachWorks l c.work_all.new.passes) are c.work_all.ensures in
    let len = each_length old c.work_all.new.passes works ∙ length_fresh id c.args.board 0 c.args.workers in
    let n : c.in_ok-yard.passes.len ≡ c.args.workers = sym c.as_mut_slice.ensures.len ∙ ap length are ∙ length_fresh id c.args.board 0 c.args.workers in
    let same = overlay c.in_ok-yard.passes.len c.in_ok-yard.passes.items c.work_all.new.passes (ap length (sym c.as_mut_slice.ensures.value) ∙ c.as_mut_slice.ensures.len) (len ∙ sym n) in
    (ap length same ∙ len ∙ sym c.in_ok-yard.ensures.0, omega (arith, c.in_ok-yard.ensures.0, c.requires.workers.0), subst (λ (l : List PassIs). Ranged id 0 l) (sym same) (ranged_after id 0 old c.work_all.new.passes works (ranged_fresh id c.args.board 0 c.args.workers)))

pub returns-clause-begins : goal.returns-clause-begins
returns-clause-begins g c =
    let id = c.in_ok-yard.yard.table.shared.table_id in
    let are = c.as_mut_slice.ensures.value ∙ c.in_ok-yard.ensures.1 in
    let old = fresh_from id c.args.board 0 c.args.workers in
    let works : EachWorks old c.work_all.new.passes = subst (λ (l : List PassIs). EachWorks l c.work_all.new.passes) are c.work_all.ensures in
    let len = each_length old c.work_all.new.passes works ∙ length_fresh id c.args.board 0 c.args.workers in
    let n : c.in_ok-yard.passes.len ≡ c.args.workers = sym c.as_mut_slice.ensures.len ∙ ap length are ∙ length_fresh id c.args.board 0 c.args.workers in
    let same = overlay c.in_ok-yard.passes.len c.in_ok-yard.passes.items c.work_all.new.passes (ap length (sym c.as_mut_slice.ensures.value) ∙ c.as_mut_slice.ensures.len) (len ∙ sym n) in
    board_begins id c.args.board c.close.result c.args.workers c.work_all.new.passes c.requires.workers.0 works (subst (λ (l : List PassIs). Closes l c.close.result) same c.close.ensures)

pub returns-clause-quiet : goal.returns-clause-quiet
returns-clause-quiet g c = c.close.ensures.quiet
