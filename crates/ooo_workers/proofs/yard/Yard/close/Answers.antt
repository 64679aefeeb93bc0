use Rattle.std.proofs.Common.{ℕ, ◌<◌, ◌≡◌, refl, rules, subst, sym, ap, ◌∙◌, arith, IsSome}
use Rattle.ooo_board.specs.Boards.{Shown}
use Rattle.ooo_workers.specs.Passes.{Closes}
use Rattle.ooo_workers.proofs.Keeps.{joins}
use Rattle.ooo_workers.proofs.Gather.{joined_first, next_is, joined_more, Joined, popped, last_yard, no_more, left_board, is_it}
use Rattle.ooo_workers.proofs.yard.Yard.close.Goals as goal

pub joins-init : goal.joins-init
joins-init c =
    let id = c.args.self.table.shared.table_id in
    let is = popped _ _ _ _ _ c.pop.ensures.items c.unwrap-last.ensures c.last.view_is in
    record {
      table = last_yard id _ _ _ c.last.inside.place.me.0 is c.requires.2;
      hand = c.last.invariant.0;
      all = joined_first id _ _ _ c.last.inside.place.me.0 is c.requires.2 c.last.invariant.1 c.last.invariant.2 c.last.invariant.3;
    }

pub join_seat-requires : goal.join_seat-requires
join_seat-requires c =
    let all = c.joins.invariant.all in
    let is = popped _ _ _ _ _ c.pop-in-joins.ensures.items c.in-Some.is c.pass.view_is in
    let n = next_is _ _ _ _ _ c.joins.place.me.0 c.pass.inside.place.me.0 all is in
    (c.joins.invariant.table, n.0, c.pass.invariant.0, search rules, joins _ _ _ _ _ all.turn c.pass.invariant.2 all.out n.2 all.some_part c.pass.invariant.1 n.1)

pub joins-preserved : goal.joins-preserved
joins-preserved c =
    let is = popped _ _ _ _ _ c.pop-in-joins.ensures.items c.in-Some.is c.pass.view_is in
    let more = joined_more _ _ _ _ _ c.joins.place.me.0 c.pass.inside.place.me.0 c.joins.invariant.all is in
    record {
      table = c.join_seat.ensures.0 ∙ c.joins.invariant.table;
      hand = ap (λ m. m.1) c.join_seat.ensures.2 ∙ c.joins.invariant.hand;
      all = subst (Joined _ _ _) (sym (ap (λ m. m.0) c.join_seat.ensures.2)) more;
    }

pub unwrap-board-requires : goal.unwrap-board-requires
unwrap-board-requires c =
    let nil = no_more c.joins.passes.items _ c.in_default.is (λ lt. c.pop-in-joins.ensures.variant.1 (omega (arith, lt, c.joins.passes.ok))) in
    let t = left_board c.args.self.table.shared.key.passes c.joins.place.id _ _ _ c.joins.place.me.0 _ _ _ nil c.joins.invariant.all (c.requires.0 ∙ sym c.args.self.counted) (subst (λ (n : ℕ). 0 < n) (sym c.args.self.counted) c.requires.1) c.close_with-closed.ensures.values.2 c.take.ensures.value in
    subst IsSome (sym t.1) refl

pub returns : goal.returns
returns c =
    let nil = no_more c.joins.passes.items _ c.in_default.is (λ lt. c.pop-in-joins.ensures.variant.1 (omega (arith, lt, c.joins.passes.ok))) in
    let t = left_board c.args.self.table.shared.key.passes c.joins.place.id _ _ _ c.joins.place.me.0 _ _ _ nil c.joins.invariant.all (c.requires.0 ∙ sym c.args.self.counted) (subst (λ (n : ℕ). 0 < n) (sym c.args.self.counted) c.requires.1) c.close_with-closed.ensures.values.2 c.take.ensures.value in
    let same : t.0 ≡ c.unwrap-board.result = is_it c.take.result t.0 c.unwrap-board.result t.1 c.unwrap-board.ensures in
    subst (λ (b : Shown). Closes c.args.passes.items b) (same ∙ sym c.open.ensures ∙ sym c.into_inner.ensures) t.2
