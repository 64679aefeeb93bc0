use Rattle.std.proofs.Common.{◌≡◌, ◌+◌, ◌++◌, [], ◌∷◌, arith, refl, ap, sym, ◌∙◌}
use Rattle.ooo_channels.specs.Cycles.{cycle_at}
use Rattle.ooo_channels.specs.Entries.{took_entry}
use Rattle.ooo_channels.proofs.Fifos.{taken_fifo, taken_fits}
use Rattle.ooo_channels.proofs.Applying.{HasNoticeRoom-less}
use Rattle.ooo_channels.proofs.fifo.FifoState.take.Goals as goal

pub push_reserved-requires : goal.push_reserved-requires
push_reserved-requires c = let mid = c.move_to.ensures.room 1 c.requires.room in omega (arith, mid.history)

pub overflow_add-self : goal.overflow_add-self
overflow_add-self c =
    let may = c.requires.available in
    let fits = taken_fits c.move_to.new.self (cycle_at c.args.at may.0) (c.move_to.ensures.cycle may.0 may.1) may.2 in
    omega (arith, fits)

pub returns-clause-cycle : goal.returns-clause-cycle
returns-clause-cycle c = λ x n h some.
    let mid = c.move_to.ensures.cycle x h in
    let here : c.args.at ≡ (cycle_at c.args.at x).stamp = sym (c.move_to.ensures.stamp c.requires.in_order) ∙ mid.stamp in
    let v = c.unwrap-value.result in
    taken_fifo c.move_to.new.self _ (cycle_at c.args.at x) v mid some
    refl refl c.pop_front.ensures.rest (rw c.unwrap-value.ensures at c.pop_front.ensures.lookup) refl refl
    (c.push_reserved.ensures.items ∙ ap (λ z. c.move_to.new.self.history.items ++ took_entry z v ∷ []) here)

pub returns-clause-room : goal.returns-clause-room
returns-clause-room c = λ n room.
    let mid = c.move_to.ensures.room (n + 1) room in
    record {
      history = omega (arith, mid.history, c.push_reserved.ensures.len, c.push_reserved.ensures.capacity);
      values = omega (arith, mid.values, c.pop_front.ensures.len, c.pop_front.ensures.capacity);
      puts = HasNoticeRoom-less (n + 1) n _ (omega arith) mid.puts;
      takes = c.renew.ensures.room n mid.takes;
    }
