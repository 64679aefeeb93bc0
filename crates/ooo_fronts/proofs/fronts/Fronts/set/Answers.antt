-- The old front leaves, and the new one enters.
use Rattle.std.proofs.Common.{◌≡◌, ◌∙◌, sym, ap, subst, length, drop, set, None, arith}
use Rattle.std.specs.Vec.{with_items}
use Rattle.std.proofs.lemmas.List.{with_items_is}
use Rattle.ooo_fronts.specs.Fronts.{AreFit}
use Rattle.ooo_fronts.specs.Holds.{AreCounts, AreHolds}
use Rattle.ooo_fronts.proofs.Counted.{fit_after, same_fronts, same_holds}
use Rattle.ooo_fronts.proofs.Entries.{holds_without}
use Rattle.ooo_fronts.proofs.Mending.{set_again, whole_again}
use Rattle.ooo_fronts.proofs.fronts.Fronts.set.Goals as goal

pub leave-requires-clause-fit : goal.leave-requires-clause-fit
leave-requires-clause-fit c =
    let same = same_fronts c.args.self.now c.self.inside.fronts.items c.self.inside.counts.items c.self.inside.holds.items c.self.view_is in
    subst (AreFit c.args.tables.now) (same ∙ sym c.as_slice.ensures.value) c.requires.fit

pub leave-requires-clause-holds : goal.leave-requires-clause-holds
leave-requires-clause-holds c =
    let kept = c.args.self.now in
    let fronts = same_fronts kept c.self.inside.fronts.items c.self.inside.counts.items c.self.inside.holds.items c.self.view_is ∙ sym c.as_slice.ensures.value in
    let holds = same_holds kept c.self.inside.fronts.items c.self.inside.counts.items c.self.inside.holds.items c.self.view_is ∙ sym c.as_slice-2.ensures.value in
    subst (λ xs. AreHolds c.args.tables.now xs c.as_slice-2.result.now) fronts (subst (AreHolds c.args.tables.now kept.fronts) holds c.requires.kept.holds)

pub enter-requires-clause-fit : goal.enter-requires-clause-fit
enter-requires-clause-fit c =
    subst (AreFit c.args.tables.now) (sym c.as_slice-3.ensures.value)
    (fit_after c.args.self.now c.self.inside.fronts.items c.self.inside.counts.items c.self.inside.holds.items c.self.view_is c.args.tables.now c.args.p c.args.front c.requires.within c.requires.fit c.requires.new)

pub enter-requires-clause-counts : goal.enter-requires-clause-counts
enter-requires-clause-counts c =
    let a = c.args in
    let t = a.tables.now in
    let items = c.self.inside.fronts.items in
    let fronts : set c.as_slice-3.result.now a.p None ≡ set c.as_slice.result.now a.p None =
    ap (λ xs. set xs a.p None) c.as_slice-3.ensures.value ∙ set_again items a.p a.front None ∙ sym (ap (λ xs. set xs a.p None) c.as_slice.ensures.value) in
    let counts = c.leave.new.counts in
    let many : length counts ≡ c.self.inside.counts.len = let x = c.leave.auto.counts in let y = c.as_mut_slice.ensures.len in omega (arith, x, y) in
    let lent : c.as_mut_slice-2.result.now ≡ counts = c.as_mut_slice-2.ensures.value ∙ whole_again counts (drop (length counts) c.self.inside.counts.items) c.self.inside.counts.len many in
    subst (λ xs. AreCounts t xs c.as_mut_slice-2.result.now) (sym fronts) (subst (AreCounts t (set c.as_slice.result.now a.p None)) (sym lent) c.leave.ensures)

pub enter-requires-clause-holds : goal.enter-requires-clause-holds
enter-requires-clause-holds c =
    let a = c.args in
    let t = a.tables.now in
    let inside = c.self.inside in
    let kept = same_fronts a.self.now inside.fronts.items inside.counts.items inside.holds.items c.self.view_is in
    let fronts : set a.self.now.fronts a.p None ≡ set c.as_slice-3.result.now a.p None =
    ap (λ xs. set xs a.p None) kept ∙ sym (ap (λ xs. set xs a.p None) c.as_slice-3.ensures.value ∙ set_again inside.fronts.items a.p a.front None) in
    let holds : a.self.now.holds ≡ c.as_mut_slice-3.result.now = same_holds a.self.now inside.fronts.items inside.counts.items inside.holds.items c.self.view_is ∙ sym c.as_mut_slice-3.ensures.value in
    let left = holds_without t a.self.now.fronts a.p c.requires.within a.self.now.holds c.requires.kept.holds in
    subst (λ xs. AreHolds t xs c.as_mut_slice-3.result.now) fronts (subst (AreHolds t (set a.self.now.fronts a.p None)) holds left)

pub returns-clause-kept : goal.returns-clause-kept
returns-clause-kept c =
    let t = c.args.tables.now in
    let inside = c.self.inside in
    let fronts = set inside.fronts.items c.args.p c.args.front in
    let many_counts : length c.enter.new.counts ≡ inside.counts.len = let x = c.enter.auto.counts in let y = c.as_mut_slice-2.ensures.len in omega (arith, x, y) in
    let many_holds : length c.enter.new.holds ≡ inside.holds.len = let x = c.enter.auto.holds in let y = c.as_mut_slice-3.ensures.len in omega (arith, x, y) in
    let counts = with_items_is (with_items inside.counts c.leave.new.counts) c.enter.new.counts many_counts in
    let holds = with_items_is inside.holds c.enter.new.holds many_holds in
    record {
      counts = subst (AreCounts t fronts) (sym counts) (subst (λ xs. AreCounts t xs c.enter.new.counts) c.as_slice-3.ensures.value c.enter.ensures.counts);
      holds = subst (AreHolds t fronts) (sym holds) (subst (λ xs. AreHolds t xs c.enter.new.holds) c.as_slice-3.ensures.value c.enter.ensures.holds);
    }

pub returns-clause-fit : goal.returns-clause-fit
returns-clause-fit c =
    fit_after c.args.self.now c.self.inside.fronts.items c.self.inside.counts.items c.self.inside.holds.items c.self.view_is c.args.tables.now c.args.p c.args.front c.requires.within c.requires.fit c.requires.new
