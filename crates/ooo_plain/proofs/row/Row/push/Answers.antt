use Rattle.std.proofs.Common.{◌≡◌, ℕ, ◌<◌, List, ◌∙◌, ◌++◌, ◌∷◌, [], refl, sym, subst, ap}
use Rattle.std.proofs.lemmas.List.Quantifiers.{all_pairs_push}
use Rattle.std.specs.Prelude.{AllPairs}
use Rattle.ooo_plain.specs.Row.{Gains, MayEnd, stands_in}
use Rattle.ooo_plain.proofs.Rows.{gains_one, row_of}
use Rattle.ooo_plain.proofs.row.Row.push.Goals as goal

pub invariant_of-self-2 : goal.invariant_of-self-2
invariant_of-self-2 c =
    let may = subst (λ r. MayEnd r c.args.due) (sym c.self.view_is) (c.if-not-may_end.ensures refl) in
    subst (AllPairs (λ a b. a < b)) (sym {A = List ℕ} c.in_ok-push_back.ensures.items)
    (all_pairs_push (λ a b. a < b) c.self.inside.processes.items c.args.due.process c.self.invariant (λ i d lt. may.above i d lt))

pub returns-clause-done : goal.returns-clause-done
returns-clause-done c =
    let items : c.push_back.new.self.items ≡ c.args.self.now.processes ++ c.args.due.process ∷ [] = c.in_ok-push_back.ensures.items ∙ ap (λ r. r.processes ++ c.args.due.process ∷ []) c.self.view_is in
    subst (λ ps. Gains c.args.due (stands_in c.args.self.now) (stands_in (row_of c.args.due.stamp ps))) (sym items) (gains_one c.args.self.now c.args.due (c.if-not-may_end.ensures refl))
