use Rattle.std.proofs.Common.{sym, ap, ◌∙◌}
use Rattle.ooo_workers.proofs.Turns.{turned_all}
use Rattle.ooo_workers.proofs.yard.Yard.try_take.Goals as goal

pub returns-clause-some : goal.returns-clause-some
returns-clause-some g c =
    let place = c.pass.inside.place in
    turned_all place.table_id c.act-turn.new.place.table_id place.me.0 c.seize-board.new.place.me.0 c.act-turn.new.place.me.0 c.seize-board.result.0.value c.act-turn.result c.args.pass.now (sym c.pass.view_is) (c.act-turn.ensures.own.0 ∙ c.seize-board.ensures.own) (ap (λ m. m.0) c.seize-board.ensures.now) c.seize-board.ensures.begins c.seize-board.ensures.job c.act-turn.ensures.some
