-- Those that the front can hold up, and the process itself.
use Rattle.std.proofs.Common.{◌≡◌, ◌≢◌, ◌∙◌, ◌<◌, ◌-◌, ℕ, inl, inr, sym, ap, subst, None, length, get_or, set, arith}
use Rattle.std.specs.Prelude.{Contains}
use Rattle.std.proofs.lemmas.Bool.{cases_eq}
use Rattle.std.proofs.lemmas.List.{get_or-set_same, length-set}
use Rattle.std.proofs.lemmas.List.Elements.{Contains-get_or}
use Rattle.ooo_fronts.specs.Holds.{entry_in, held}
use Rattle.ooo_fronts.specs.Reaching.{CanHoldProcess, IsListOf}
use Rattle.ooo_fronts.proofs.Counted.{fit_at, held_none}
use Rattle.ooo_fronts.proofs.Entries.{entry_fits, entry_taken}
use Rattle.ooo_fronts.proofs.Mending.{counts_and, mended_but, mended_more, mended_next, unaffected}
use Rattle.ooo_fronts.proofs.fronts.leave.Goals as goal

pub affected-affected-requires : goal.affected-affected-requires
affected-affected-requires c =
    let fit = fit_at c.args._tables.now c.args.fronts.now c.requires.fit c.args.p c.in-Some.old c.in-Some.is in
    let lt = fit.segment in
    let many = c.requires.reaches.affected.many in
    omega (arith, lt, many)

pub loop-q-init : goal.loop-q-init
loop-q-init c =
    let a = c.args in
    let many = length-set a.fronts.now a.p None in
    let lt : a.p < length a.counts.now = let x = c.requires.counts.count in let y = c.requires.within in omega (arith, x, y) in
    record {
      mended = mended_but a._tables.now a.p a.fronts.now (set a.fronts.now a.p None) c.affected-affected.result.now a.counts.now 0 (sym many) c.requires.counts;
      own = get_or-set_same a.counts.now a.p 0 0 lt;
    }

pub lower-requires-clause-entry : goal.lower-requires-clause-entry
lower-requires-clause-entry c = λ some.
    let a = c.args in
    let t = a._tables.now in
    let fronts = a.fronts.now in
    let xs = c.affected-affected.result.now in
    let i = c.loop-q.q-index in
    let q = get_or xs i 0 in
    let fit = fit_at t fronts c.requires.fit a.p c.in-Some.old c.in-Some.is in
    let list = subst (IsListOf (CanHoldProcess t c.in-Some.old.segment)) (sym c.affected-affected.ensures) (c.requires.reaches.affected.each c.in-Some.old.segment fit.segment) in
    let can = (list.exact q).0 (Contains-get_or xs i 0 c.loop-q-test.true) in
    let ne : q ≢ a.p = λ e. some (ap (λ k. get_or c.loop-q.counts k 0) e ∙ c.loop-q.invariant.own) in
    let was = mended_next t a.p fronts (set fronts a.p None) xs i c.loop-q.counts list.ascending c.loop-q-test.true c.loop-q.invariant.mended ne in
    let many : length c.loop-q.counts ≡ length fronts = c.loop-q.invariant.mended.count ∙ length-set fronts a.p None in
    rw many (entry_fits t fronts a.p c.requires.within a.holds.now c.requires.holds c.in-Some.old c.in-Some.is q ne can (get_or c.loop-q.counts q 0) was some)

pub loop-q-preserved : goal.loop-q-preserved
loop-q-preserved c =
    let a = c.args in
    let t = a._tables.now in
    let fronts = a.fronts.now in
    let xs = c.affected-affected.result.now in
    let i = c.loop-q.q-index in
    let q = get_or xs i 0 in
    let fit = fit_at t fronts c.requires.fit a.p c.in-Some.old c.in-Some.is in
    let list = subst (IsListOf (CanHoldProcess t c.in-Some.old.segment)) (sym c.affected-affected.ensures) (c.requires.reaches.affected.each c.in-Some.old.segment fit.segment) in
    let can = (list.exact q).0 (Contains-get_or xs i 0 c.loop-q-test.true) in
    let many : length c.loop-q.counts ≡ length fronts = c.loop-q.invariant.mended.count ∙ length-set fronts a.p None in
    let taken : get_or c.lower.new.counts q 0 ≡ get_or c.loop-q.counts q 0 - entry_in (length fronts) a.holds.now a.p q = c.lower.ensures.count ∙ ap (λ n. get_or c.loop-q.counts q 0 - entry_in n a.holds.now a.p q) many in
    record {
      mended = mended_more t a.p fronts (set fronts a.p None) xs i c.loop-q.counts c.lower.new.counts c.loop-q-test.true c.loop-q.invariant.mended c.lower.ensures.only (λ ne.
          let was = mended_next t a.p fronts (set fronts a.p None) xs i c.loop-q.counts list.ascending c.loop-q-test.true c.loop-q.invariant.mended ne in
          taken ∙ entry_taken t fronts a.p c.requires.within a.holds.now c.requires.holds c.in-Some.old c.in-Some.is q ne can (get_or c.loop-q.counts q 0) was);
      own = elim (cases_eq a.p q) [
        | inl same ↦
            let none : get_or c.loop-q.counts q 0 ≡ 0 = ap (λ k. get_or c.loop-q.counts k 0) (sym same) ∙ c.loop-q.invariant.own in
            let here = ap (λ k. get_or c.lower.new.counts k 0) same in
            omega (arith, here, taken, none)
        | inr other ↦ c.lower.ensures.only.others a.p other ∙ c.loop-q.invariant.own
      ];
    }

pub returns : goal.returns
returns c =
    let a = c.args in
    let t = a._tables.now in
    let xs = c.affected-affected.result.now in
    let fit = fit_at t a.fronts.now c.requires.fit a.p c.in-Some.old c.in-Some.is in
    let list = subst (IsListOf (CanHoldProcess t c.in-Some.old.segment)) (sym c.affected-affected.ensures) (c.requires.reaches.affected.each c.in-Some.old.segment fit.segment) in
    let alike : (k : ℕ) → k ≢ a.p → (Contains xs k → ⊥) → held t a.fronts.now k ≡ held t (set a.fronts.now a.p None) k = λ k ne out. sym (unaffected t a.fronts.now a.p c.in-Some.old c.requires.within c.in-Some.is c.requires.fit k ne (λ can. out ((list.exact k).1 can))) in
    counts_and t a.p a.fronts.now (set a.fronts.now a.p None) xs c.loop-q.q-index c.loop-q.counts c.loop-q-test.false c.loop-q.invariant.mended alike
    (c.loop-q.invariant.own ∙ sym (held_none t (set a.fronts.now a.p None) a.p (get_or-set_same a.fronts.now a.p None None c.requires.within)))
