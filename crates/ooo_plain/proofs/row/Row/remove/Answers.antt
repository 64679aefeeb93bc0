use Rattle.std.proofs.Common.{◌≡◌, ◌<◌, ◌∙◌, false, true, refl, sym, subst}
use Rattle.std.proofs.lemmas.List.Quantifiers.{all_pairs_remove}
use Rattle.std.specs.Prelude.{AllPairs}
use Rattle.std.specs.List.{remove}
use Rattle.ooo_plain.specs.Row.{Loses, stands_in}
use Rattle.ooo_plain.proofs.Rows.{loses_none, loses_one, not_among, not_at, removed_first, removed_from, row_of, stood}
use Rattle.ooo_plain.proofs.row.Row.remove.Goals as goal

pub invariant_of-self-in-Some : goal.invariant_of-self-in-Some
invariant_of-self-in-Some c =
    subst (AllPairs (λ a b. a < b)) (sym (removed_from c.remove.result _ _ c.self.inside.processes.items c.remove.new.self.items c.in-Some.ensures.counted c.remove.ensures.variant c.remove.ensures.items))
    (all_pairs_remove (λ a b. a < b) c.self.inside.processes.items c.in-Some.at c.in-Some.ensures.within c.self.invariant)

pub returns-in-Some-clause-left : goal.returns-in-Some-clause-left
returns-in-Some-clause-left c =
    let items = removed_from c.remove.result _ _ c.self.inside.processes.items c.remove.new.self.items c.in-Some.ensures.counted c.remove.ensures.variant c.remove.ensures.items in
    subst (λ ps. Loses c.args.due (stands_in c.args.self.now) (stands_in (row_of c.self.inside.stamp ps))) (sym items)
    (subst (λ r. Loses c.args.due (stands_in r) (stands_in (row_of c.self.inside.stamp (remove c.self.inside.processes.items c.in-Some.at)))) c.self.view_is
    (loses_one c.self.inside.stamp c.self.inside.processes.items c.args.due (c.if-not-is_same.ensures) c.in-Some.at c.in-Some.ensures.within c.in-Some.ensures.is c.self.invariant))

pub returns-then-is_first-clause-left : goal.returns-then-is_first-clause-left
returns-then-is_first-clause-left c =
    let place = c.if-is_first.ensures refl in
    subst (λ ps. Loses c.args.due (stands_in c.args.self.now) (stands_in (row_of c.self.inside.stamp ps))) (sym (c.pop_front.ensures.rest ∙ sym (removed_first c.self.inside.processes.items place.within)))
    (subst (λ r. Loses c.args.due (stands_in r) (stands_in (row_of c.self.inside.stamp (remove c.self.inside.processes.items 0)))) c.self.view_is
    (loses_one c.self.inside.stamp c.self.inside.processes.items c.args.due (c.if-not-is_same.ensures) 0 place.within place.is c.self.invariant))

pub returns-then-not-is_same-clause-stood : goal.returns-then-not-is_same-clause-stood
returns-then-not-is_same-clause-stood c = subst (λ r. false ≡ stands_in r c.args.due) c.self.view_is (sym (not_at (row_of c.self.inside.stamp c.self.inside.processes.items) c.args.due c.if-not-is_same.ensures))

pub returns-then-not-is_same-clause-left : goal.returns-then-not-is_same-clause-left
returns-then-not-is_same-clause-left c =
    loses_none c.args.due (stands_in c.args.self.now) (subst (λ r. stands_in r c.args.due ≡ false) c.self.view_is (not_at (row_of c.self.inside.stamp c.self.inside.processes.items) c.args.due c.if-not-is_same.ensures))

pub returns-then-is_first-clause-stood : goal.returns-then-is_first-clause-stood
returns-then-is_first-clause-stood c =
    let place = c.if-is_first.ensures refl in
    subst (λ r. true ≡ stands_in r c.args.due) c.self.view_is (sym (stood c.self.inside.stamp c.self.inside.processes.items c.args.due c.if-not-is_same.ensures 0 place.within place.is))

pub returns-in-None-clause-stood : goal.returns-in-None-clause-stood
returns-in-None-clause-stood c = subst (λ r. false ≡ stands_in r c.args.due) c.self.view_is (sym (not_among (row_of c.self.inside.stamp c.self.inside.processes.items) c.args.due c.in-None.ensures))

pub returns-in-None-clause-left : goal.returns-in-None-clause-left
returns-in-None-clause-left c =
    loses_none c.args.due (stands_in c.args.self.now) (subst (λ r. stands_in r c.args.due ≡ false) c.self.view_is (not_among (row_of c.self.inside.stamp c.self.inside.processes.items) c.args.due c.in-None.ensures))

pub returns-in-Some-clause-stood : goal.returns-in-Some-clause-stood
returns-in-Some-clause-stood c =
    subst (λ r. true ≡ stands_in r c.args.due) c.self.view_is
    (sym (stood c.self.inside.stamp c.self.inside.processes.items c.args.due c.if-not-is_same.ensures c.in-Some.at c.in-Some.ensures.within c.in-Some.ensures.is))
