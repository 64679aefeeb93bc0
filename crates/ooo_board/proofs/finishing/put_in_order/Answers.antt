use Rattle.std.proofs.Common.{get_or, ◌+◌, rules, sym, ◌∙◌}
use Rattle.std.proofs.lemmas.List.Sorted.{answers_always}
use Rattle.ooo_board.proofs.Concluding.{by_order}
use Rattle.ooo_board.proofs.finishing.put_in_order.Goals as goal

pub returns-clause-in_order : goal.returns-clause-in_order
returns-clause-in_order c = λ k d le lt.
    let items = c.sort_unstable_by_key.new.self.items in
    sym (by_order (get_or items (k + 1) d).place (get_or items k d).place)
    ∙ c.sort_unstable_by_key.ensures.sorted (λ p. p.place) (answers_always _ _ _ (λ f a r q k. search rules)) k d le lt
