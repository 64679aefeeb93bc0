-- By how much the count rises.
use Rattle.std.proofs.Common.{◌≡◌, ◌∙◌, ◌+◌, ◌<◌, Some, sym, ap, length, get_or, arith}
use Rattle.std.proofs.lemmas.List.{get_or-set_same}
use Rattle.ooo_fronts.specs.Holds.{holds_of}
use Rattle.ooo_fronts.proofs.Counted.{at_front, few_held, fit_at, fit_itself}
use Rattle.ooo_fronts.proofs.Entries.{entry_is, entry_set}
use Rattle.ooo_fronts.proofs.Mending.{others_none, others_some}
use Rattle.ooo_fronts.proofs.fronts.raise.Goals as goal

pub holds_of-more-requires-clause-fit : goal.holds_of-more-requires-clause-fit
holds_of-more-requires-clause-fit c = fit_itself c.args.tables.now c.args.p c.args.g (fit_at c.args.tables.now c.args.fronts.now c.requires.fit c.args.p c.args.g c.requires.own)

pub holds_of-more-requires-clause-held : goal.holds_of-more-requires-clause-held
holds_of-more-requires-clause-held c = fit_at c.args.tables.now c.args.fronts.now c.requires.fit c.args.q c.in-Some.f (sym c.front_at.ensures ∙ c.in-Some.is)

pub overflow_add-counts : goal.overflow_add-counts
overflow_add-counts c =
    let a = c.args in
    let ne = c.if-q-p.false in
    let changed = others_some a.tables.now a.fronts.now a.p a.g (at_front a.fronts.now a.p a.g c.requires.own) c.requires.own a.q c.in-Some.f ne (sym c.front_at.ensures ∙ c.in-Some.is) in
    let was = c.requires.held ne in
    let is = c.holds_of-more.ensures.exact in
    let few = few_held a.tables.now a.fronts.now a.q c.requires.aligned in
    let processes = c.requires.few in
    omega (arith, changed, was, is, few, processes)

pub returns-in-Some-clause-held : goal.returns-in-Some-clause-held
returns-in-Some-clause-held c = λ ne.
    let a = c.args in
    let e = sym c.front_at.ensures ∙ c.in-Some.is in
    let changed = others_some a.tables.now a.fronts.now a.p a.g (at_front a.fronts.now a.p a.g c.requires.own) c.requires.own a.q c.in-Some.f ne e in
    let was = c.requires.held ne in
    let is = c.holds_of-more.ensures.exact in
    let lt : a.q < length a.counts.now = let x = at_front a.fronts.now a.q c.in-Some.f e in let y = c.requires.count in omega (arith, x, y) in
    let here = get_or-set_same a.counts.now a.q (get_or a.counts.now a.q 0 + c.holds_of-more.result) 0 lt in
    omega (arith, changed, was, is, here)

pub returns-in_default-clause-held : goal.returns-in_default-clause-held
returns-in_default-clause-held c = λ ne.
    let a = c.args in
    c.requires.held ne ∙ others_none a.tables.now a.fronts.now a.p a.g (at_front a.fronts.now a.p a.g c.requires.own) c.requires.own a.q ne (sym c.front_at.ensures ∙ c.in_default.is)

pub returns-in-Some-clause-others : goal.returns-in-Some-clause-others
returns-in-Some-clause-others c =
    let a = c.args in
    let row = at_front a.fronts.now a.p a.g c.requires.own in
    let place = at_front a.fronts.now a.q c.in-Some.f (sym c.front_at.ensures ∙ c.in-Some.is) in
    rw c.entry_of.ensures.place (entry_set (length a.fronts.now) a.p a.q c.holds_of-more.result a.holds.now row place c.requires.size)

pub returns-in-Some-clause-entry : goal.returns-in-Some-clause-entry
returns-in-Some-clause-entry c = λ f ne e.
    let a = c.args in
    let is = sym c.front_at.ensures ∙ c.in-Some.is in
    let row = at_front a.fronts.now a.p a.g c.requires.own in
    let place = at_front a.fronts.now a.q c.in-Some.f is in
    let same : c.in-Some.f ≡ f = let both : Some c.in-Some.f ≡ Some f = sym is ∙ e in cc in
    rw c.entry_of.ensures.place (entry_is (length a.fronts.now) a.p a.q c.holds_of-more.result a.holds.now row place c.requires.size ∙ c.holds_of-more.ensures.exact ∙ ap (holds_of a.tables.now a.g a.q) same)
