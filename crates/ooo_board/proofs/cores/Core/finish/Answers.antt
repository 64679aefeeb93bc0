use Rattle.std.proofs.Common.{ap, arith, length, sym, subst, ◌∙◌}
use Rattle.std.specs.Prelude.{filter}
use Rattle.std.specs.List.Sorted.{IsPermutation, IsSortedBy}
use Rattle.ooo_dispatch.specs.Banks.{operations_on}
use Rattle.ooo_dispatch.specs.Least.{rules_of}
use Rattle.ooo_dispatch.specs.ReadOff.{break_shown, counted_before, end_at, ended_by, latest_stamp, precedes, stop_shown}
use Rattle.ooo_board.specs.Cores.{after}
use Rattle.ooo_board.specs.Forgetting.{forgetting}
use Rattle.ooo_board.specs.Finishing.{AreHistoriesBy, break_of, ends_of, shows}
use Rattle.ooo_board.proofs.Concluding.{asked, channels_are, run_shows, stop_low}
use Rattle.ooo_board.proofs.cores.Core.finish.Goals as goal

pub counted_before-before-requires : goal.counted_before-before-requires
counted_before-before-requires c =
    let (limits, t, steps, f) = c.requires.over in
    stop_low c.args.design.now limits t steps c.args.self.now f (c.reports_are_read_off.ensures c.args.design.now limits t f.has.stands.ready steps f.has.stands.lawful)

pub histories-requires : goal.histories-requires
histories-requires c =
    let (limits, t, steps, f) = c.requires.over in
    let design = c.args.design.now in
    let off = c.reports_are_read_off.ensures design limits t f.has.stands.ready steps f.has.stands.lawful in
    let count = c.len-count.ensures in
    let same = channels_are design limits t steps c.args.self.now f off in
    (forgetting c.args.self.now.below (operations_on (rules_of design limits t) (after design limits t steps).board), asked design limits t steps c.args.self.now f off, omega (arith, count, same))

pub returns : goal.returns
returns c = λ limits t steps found f run_is.
    let design = c.args.design.now in
    let core = c.args.self.now in
    let next = c.least-next.result in
    let r = rules_of design limits t in
    let ops = forgetting core.below (operations_on r (after design limits t steps).board) in
    let off = c.reports_are_read_off.ensures design limits t f.has.stands.ready steps f.has.stands.lawful in
    let by = counted_before core.cut.deltas (ends_of core.cut next) in
    let shown = c.put_in_order.new.pieces.items in
    run_shows design limits t steps core f off next
    (record { pieces = c.from_vec.result; channels = c.from_vec-2.result; end = c.end_of.result; activations = c.count_shown.result })
    (record {
      least = c.least-next.ensures.board r (after design limits t steps).board f.has.core.has_fronts;
      pieces =
          subst (IsPermutation (filter (λ x. shows core.cut next x.place) core.pieces.items)) (sym c.from_vec.ensures)
          (subst (λ ps. IsPermutation ps shown) (c.in_ok-pieces.ensures ∙ ap (filter (λ x. shows core.cut next x.place)) c.as_slice.ensures.value) c.put_in_order.ensures.same);
      in_order = subst (IsSortedBy (λ x y. precedes x.place y.place)) (sym c.from_vec.ensures) c.put_in_order.ensures.in_order;
      histories =
          subst (AreHistoriesBy ops by (length design.channels)) (sym c.from_vec-2.ensures)
          (subst (λ n. AreHistoriesBy ops by n c.in-Ok.made.items) c.len-count.ensures
          (subst (λ o. AreHistoriesBy ops o c.len-count.result c.in-Ok.made.items) c.counted_before-before.ensures
          (c.in-Ok.ensures ops (asked design limits t steps core f off))));
      end =
          c.end_of.ensures r (sym f.has.core.has_cut.stop)
          ∙ ap (λ l. ended_by (break_shown core.cut.deltas (ends_of core.cut next) (break_of core.cut.broken)) (stop_shown core.cut.deltas next core.cut.stopped) (end_at r l next))
          (c.latest_shown-latest.ensures ∙ ap (λ ps. latest_stamp (filter (shows core.cut next) ps)) c.as_slice-2.ensures.value);
      activations = c.count_shown.ensures ∙ ap (λ ps. length (filter (shows core.cut next) ps)) c.as_slice-3.ensures.value;
    })
    found (c.every_list_agrees.ensures.reports design limits t found f.has.stands.ready run_is steps f.has.stands.lawful f.over)
