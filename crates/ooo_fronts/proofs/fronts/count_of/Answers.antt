-- Process by process.
use Rattle.std.proofs.Common.{◌∙◌, ◌+◌, ◌<◌, sym, ap, subst, length, arith}
use Rattle.std.proofs.lemmas.List.{get_or_default}
use Rattle.ooo_fronts.specs.Holds.{holds_from}
use Rattle.ooo_fronts.specs.Reaching.{CanBeHeldBy, IsListOf}
use Rattle.ooo_fronts.proofs.Counted.{few_so_far, fit_at, held_none, held_some}
use Rattle.ooo_fronts.proofs.Entries.{column_all, column_first, column_more, column_none, column_stays}
use Rattle.ooo_fronts.proofs.Mending.{holders_are_all, total_of_fronts}
use Rattle.ooo_fronts.proofs.Reached.{added_all, added_first, added_more, added_so_far}
use Rattle.ooo_fronts.proofs.fronts.count_of.Goals as goal

pub returns-in_default : goal.returns-in_default
returns-in_default c =
    let a = c.args in
    record {
      count = sym (held_none a.tables.now a.fronts.now a.p c.in_default.is);
      others = column_stays (length a.fronts.now) a.p a.holds.now;
      column = column_none a.tables.now a.fronts.now a.p a.holds.now c.in_default.is;
    }

pub holders-holders-requires : goal.holders-holders-requires
holders-holders-requires c =
    let fit = fit_at c.args.tables.now c.args.fronts.now c.requires.fit c.args.p c.in-Some.f c.in-Some.is in
    let lt = c.requires.reaches.processes c.in-Some.f.segment fit.segment in
    let e = fit.process in
    omega (arith, lt, e)

pub loop-q-init : goal.loop-q-init
loop-q-init c =
    let a = c.args in
    let t = a.tables.now in
    let f = c.in-Some.f in
    let fit = fit_at t a.fronts.now c.requires.fit a.p f c.in-Some.is in
    let lt : a.p < length a.reaches.now.holders = let x = c.requires.reaches.processes f.segment fit.segment in let e = fit.process in omega (arith, x, e) in
    let xs = c.holders-holders.result.now in
    let list = subst (IsListOf (CanBeHeldBy t a.p)) (sym c.holders-holders.ensures) (c.requires.reaches.holders.each a.p lt) in
    let all = holders_are_all t a.reaches.now a.fronts.now a.p f xs c.requires.reaches c.requires.fit c.in-Some.is list in
    record {
      count = sym (added_first (holds_from t a.fronts.now a.p f) (length a.fronts.now + length a.reaches.now.holders) xs all);
      column = column_first t a.fronts.now a.p f c.in-Some.is xs a.holds.now;
    }

pub holds_from-count-requires-clause-held : goal.holds_from-count-requires-clause-held
holds_from-count-requires-clause-held c = fit_at c.args.tables.now c.args.fronts.now c.requires.fit c.args.p c.in-Some.f c.in-Some.is

pub overflow_add-count : goal.overflow_add-count
overflow_add-count c =
    let a = c.args in
    let t = a.tables.now in
    let f = c.in-Some.f in
    let fit = fit_at t a.fronts.now c.requires.fit a.p f c.in-Some.is in
    let lt : a.p < length a.reaches.now.holders = let x = c.requires.reaches.processes f.segment fit.segment in let e = fit.process in omega (arith, x, e) in
    let xs = c.holders-holders.result.now in
    let i = c.loop-q.q-index in
    let n = length a.fronts.now + length a.reaches.now.holders in
    let from = holds_from t a.fronts.now a.p f in
    let list = subst (IsListOf (CanBeHeldBy t a.p)) (sym c.holders-holders.ensures) (c.requires.reaches.holders.each a.p lt) in
    let all = holders_are_all t a.reaches.now a.fronts.now a.p f xs c.requires.reaches c.requires.fit c.in-Some.is list in
    let more = added_more from n xs all i c.loop-q-test.true in
    let top = added_so_far from n xs all (i + 1) in
    let same = total_of_fronts t a.fronts.now a.p f (length a.reaches.now.holders) in
    let few = few_so_far t a.fronts.now a.p f (length a.fronts.now) c.requires.aligned in
    let here = ap from (get_or_default xs i 0 n c.loop-q-test.true) in
    let is = c.holds_from-count.ensures.count in
    let so_far = c.loop-q.invariant.count in
    let processes = c.requires.few in
    omega (arith, more, top, same, few, here, is, so_far, processes)

pub loop-q-preserved : goal.loop-q-preserved
loop-q-preserved c =
    let a = c.args in
    let t = a.tables.now in
    let f = c.in-Some.f in
    let fit = fit_at t a.fronts.now c.requires.fit a.p f c.in-Some.is in
    let lt : a.p < length a.reaches.now.holders = let x = c.requires.reaches.processes f.segment fit.segment in let e = fit.process in omega (arith, x, e) in
    let xs = c.holders-holders.result.now in
    let i = c.loop-q.q-index in
    let n = length a.fronts.now + length a.reaches.now.holders in
    let from = holds_from t a.fronts.now a.p f in
    let list = subst (IsListOf (CanBeHeldBy t a.p)) (sym c.holders-holders.ensures) (c.requires.reaches.holders.each a.p lt) in
    let all = holders_are_all t a.reaches.now a.fronts.now a.p f xs c.requires.reaches c.requires.fit c.in-Some.is list in
    let more = added_more from n xs all i c.loop-q-test.true in
    let here = ap from (get_or_default xs i 0 n c.loop-q-test.true) in
    let is = c.holds_from-count.ensures.count in
    let so_far = c.loop-q.invariant.count in
    record {
      count = omega (arith, more, here, is, so_far);
      column = column_more t a.fronts.now a.p f c.in-Some.is xs a.holds.now i c.loop-q.holds c.holds_from-count.new.holds c.loop-q.invariant.column c.holds_from-count.ensures.others c.holds_from-count.ensures.entry;
    }

pub returns : goal.returns
returns c =
    let a = c.args in
    let t = a.tables.now in
    let f = c.in-Some.f in
    let fit = fit_at t a.fronts.now c.requires.fit a.p f c.in-Some.is in
    let lt : a.p < length a.reaches.now.holders = let x = c.requires.reaches.processes f.segment fit.segment in let e = fit.process in omega (arith, x, e) in
    let xs = c.holders-holders.result.now in
    let n = length a.fronts.now + length a.reaches.now.holders in
    let from = holds_from t a.fronts.now a.p f in
    let list = subst (IsListOf (CanBeHeldBy t a.p)) (sym c.holders-holders.ensures) (c.requires.reaches.holders.each a.p lt) in
    let all = holders_are_all t a.reaches.now a.fronts.now a.p f xs c.requires.reaches c.requires.fit c.in-Some.is list in
    record {
      count =
          c.loop-q.invariant.count ∙ added_all from n xs all c.loop-q.q-index c.loop-q-test.false ∙ total_of_fronts t a.fronts.now a.p f (length a.reaches.now.holders) ∙ sym (held_some t a.fronts.now a.p f c.in-Some.is);
      others = c.loop-q.invariant.column.others;
      column = column_all t a.fronts.now a.p f c.in-Some.is xs a.holds.now c.loop-q.q-index c.loop-q.holds c.requires.fit list c.loop-q-test.false c.loop-q.invariant.column;
    }
