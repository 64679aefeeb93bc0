use Rattle.std.proofs.Common.{ℕ, rules, subst, sym, ap, ◌∙◌, ◌≡◌, ◌+◌, ◌-◌, ◌++◌, List, arith}
use Rattle.ooo_workers.specs.Passes.{PassIs, pass_of, fresh_from, made_by}
use Rattle.ooo_workers.proofs.Keeps.{splits}
use Rattle.ooo_workers.proofs.Gather.{dealt_more, fresh_is, made_later}
use Rattle.ooo_workers.proofs.yard.Yard.deal.Goals as goal

pub split_seat-next-requires : goal.split_seat-next-requires
split_seat-next-requires c = (search rules, search rules, splits _ _ _ c.passes.invariant.turn (omega (arith, c.passes.invariant.parts)))

pub passes-preserved : goal.passes-preserved
passes-preserved c =
    let inv = c.passes.invariant in
    let ens = c.split_seat-next.ensures in
    let id = c.args.first.table_id in
    let b = c.args.first.me.0.known in
    let n = c.passes.rest.me.0.number in
    let left = c.passes.left in
    let whole = fresh_from id b 0 c.args.self.now.passes in
    let p = pass_of c.split_seat-next.new.seat.table_id c.split_seat-next.new.seat.me.0 in
    let num : c.split_seat-next.result.me.0.number ≡ n + 1 = ap (λ m. m.0.number) ens.4 in
    let p_is = fresh_is id _ b n c.split_seat-next.new.seat.me.0 (ens.0 ∙ inv.table) (ap (λ m. m.0.number) ens.2) (ap (λ m. m.0.known) ens.2 ∙ inv.known) (ap (λ m. m.0.made) ens.2 ∙ inv.made) (ap (λ m. m.0.out) ens.2 ∙ inv.out) in
    record {
      some = omega arith;
      number = omega (arith, num, inv.number);
      parts = ap (λ m. m.0.parts) ens.4 ∙ ap (λ (k : ℕ). k - 1) inv.parts;
      known = ap (λ m. m.0.known) ens.4 ∙ inv.known;
      made = ap (λ m. m.0.made) ens.4 ∙ made_later b.schedule n ∙ ap (made_by b.schedule) (sym num);
      out = ap (λ m. m.0.out) ens.4;
      turn = ap (λ m. m.0.turn) ens.4;
      heard = ap (λ m. m.0.heard) ens.4;
      hand = ap (λ m. m.1) ens.4;
      table = ens.3 ∙ inv.table;
      room = omega (arith, inv.room, c.push_reserved.ensures.len, c.push_reserved.ensures.capacity);
      dealt = subst (λ (k : ℕ). c.push_reserved.new.self.items ++ fresh_from id b k (left - 1) ≡ whole) (sym num)
          (ap (λ (l : List PassIs). l ++ fresh_from id b (n + 1) (left - 1)) c.push_reserved.ensures.items ∙ dealt_more id b n left c.passes.all.items whole p (omega arith) inv.dealt p_is);
    }
