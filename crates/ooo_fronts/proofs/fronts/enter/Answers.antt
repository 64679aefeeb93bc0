-- Those that the front can hold up, and the process itself.
use Rattle.std.proofs.Common.{◌≡◌, ◌≢◌, ◌<◌, ℕ, sym, subst, None, length, length, set, arith}
use Rattle.std.specs.Prelude.{Contains}
use Rattle.std.proofs.lemmas.List.{length-set}
use Rattle.ooo_fronts.specs.Holds.{held}
use Rattle.ooo_fronts.specs.Reaching.{CanHoldProcess, IsListOf}
use Rattle.ooo_fronts.proofs.Counted.{fit_at}
use Rattle.ooo_fronts.proofs.Entries.{holds_with, row_more}
use Rattle.ooo_fronts.proofs.Mending.{counts_with, mended_more, mended_next, unaffected}
use Rattle.ooo_fronts.proofs.fronts.enter.Goals as goal

pub affected-affected-requires : goal.affected-affected-requires
affected-affected-requires c =
    let fit = fit_at c.args.tables.now c.args.fronts.now c.requires.fit c.args.p c.in-Some.new c.in-Some.is in
    let lt = fit.segment in
    let many = c.requires.reaches.affected.many in
    omega (arith, lt, many)

pub raise-requires-clause-held : goal.raise-requires-clause-held
raise-requires-clause-held c =
    let a = c.args in
    let t = a.tables.now in
    let xs = c.affected-affected.result.now in
    let fit = fit_at t a.fronts.now c.requires.fit a.p c.in-Some.new c.in-Some.is in
    let list = subst (IsListOf (CanHoldProcess t c.in-Some.new.segment)) (sym c.affected-affected.ensures) (c.requires.reaches.affected.each c.in-Some.new.segment fit.segment) in
    mended_next t a.p (set a.fronts.now a.p None) a.fronts.now xs c.loop-q.q-index c.loop-q.counts list.ascending c.loop-q-test.true c.loop-q.invariant.mended

pub loop-q-preserved : goal.loop-q-preserved
loop-q-preserved c =
    let a = c.args in
    let t = a.tables.now in
    let fronts = a.fronts.now in
    let xs = c.affected-affected.result.now in
    let i = c.loop-q.q-index in
    record {
      mended = mended_more t a.p (set fronts a.p None) fronts xs i c.loop-q.counts c.raise.new.counts c.loop-q-test.true c.loop-q.invariant.mended c.raise.ensures.only c.raise.ensures.held;
      row = row_more t fronts a.p c.in-Some.new c.in-Some.is xs a.holds.now i c.loop-q.holds c.raise.new.holds c.loop-q.invariant.row c.raise.ensures.others c.raise.ensures.entry;
    }

pub returns-clause-counts : goal.returns-clause-counts
returns-clause-counts c =
    let a = c.args in
    let t = a.tables.now in
    let xs = c.affected-affected.result.now in
    let fit = fit_at t a.fronts.now c.requires.fit a.p c.in-Some.new c.in-Some.is in
    let list = subst (IsListOf (CanHoldProcess t c.in-Some.new.segment)) (sym c.affected-affected.ensures) (c.requires.reaches.affected.each c.in-Some.new.segment fit.segment) in
    let alike : (k : ℕ) → k ≢ a.p → (Contains xs k → ⊥) → held t (set a.fronts.now a.p None) k ≡ held t a.fronts.now k = λ k ne out. unaffected t a.fronts.now a.p c.in-Some.new c.requires.within c.in-Some.is c.requires.fit k ne (λ can. out ((list.exact k).1 can)) in
    let lt : a.p < length a.fronts.now = let x = length-set a.fronts.now a.p None in let y = c.requires.within in omega (arith, x, y) in
    counts_with t a.p (set a.fronts.now a.p None) a.fronts.now xs c.loop-q.q-index c.loop-q.counts c.count_of.result c.loop-q-test.false lt c.loop-q.invariant.mended alike c.count_of.ensures.count

pub returns-clause-holds : goal.returns-clause-holds
returns-clause-holds c =
    let a = c.args in
    let t = a.tables.now in
    let xs = c.affected-affected.result.now in
    let fit = fit_at t a.fronts.now c.requires.fit a.p c.in-Some.new c.in-Some.is in
    let list = subst (IsListOf (CanHoldProcess t c.in-Some.new.segment)) (sym c.affected-affected.ensures) (c.requires.reaches.affected.each c.in-Some.new.segment fit.segment) in
    holds_with t a.fronts.now a.p c.in-Some.new c.in-Some.is xs a.holds.now c.loop-q.q-index c.loop-q.holds c.count_of.new.holds c.requires.within list c.loop-q-test.false c.requires.holds c.loop-q.invariant.row c.count_of.ensures.others c.count_of.ensures.column
