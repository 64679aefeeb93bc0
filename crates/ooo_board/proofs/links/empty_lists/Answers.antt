use Rattle.std.proofs.Common.{◌≡◌, ◌∙◌, ◌++◌, ◌∷◌, [], List, ℕ, ap, arith, replicate}
use Rattle.std.proofs.lemmas.List.{replicate_more}
use Rattle.ooo_board.proofs.links.empty_lists.Goals as goal

pub loop-list-init : goal.loop-list-init
loop-list-init c = record { items = c.in_ok-lists.ensures.items; room = omega (arith, c.in_ok-lists.ensures.len, c.in_ok-lists.ensures.capacity) }

pub push_reserved-requires : goal.push_reserved-requires
push_reserved-requires c = omega (arith, c.loop-list.invariant.room, c.loop-list-test.true)

pub loop-list-preserved : goal.loop-list-preserved
loop-list-preserved c =
    let n = c.loop-list._list in
    record {
      items = c.push_reserved.ensures.items ∙ ap (λ (x : List ℕ). c.loop-list.lists.items ++ x ∷ []) c.new.ensures ∙ ap (λ (ls : List (List ℕ)). ls ++ [] ∷ []) c.loop-list.invariant.items ∙ replicate_more n [];
      room = omega (arith, c.loop-list.invariant.room, c.loop-list-test.true, c.push_reserved.ensures.len, c.push_reserved.ensures.capacity);
    }

pub returns : goal.returns
returns c = c.loop-list.invariant.items ∙ ap (λ n. replicate {A = List ℕ} n []) (let same : c.loop-list._list ≡ c.args.count = omega arith in same)
