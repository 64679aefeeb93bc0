use Rattle.std.proofs.Common.{sym, ap, ◌∙◌}
use Rattle.ooo_workers.proofs.Calls.{gave_and_took, rested_pass}
use Rattle.ooo_workers.proofs.yard.Yard.give_and_take_one.Goals as goal

pub returns-in-Err-clause-refused : goal.returns-in-Err-clause-refused
returns-in-Err-clause-refused g c =
    let place = c.pass.inside.place in (
      rested_pass place.table_id c.free.new.place.table_id place.me.0 c.seize-board.new.place.me.0 c.free.new.place.me.0 c.seize-board.result.0.value c.args.pass.now (sym c.pass.view_is) (c.free.ensures.own ∙ c.seize-board.ensures.own)
          (ap (λ m. m.0) c.seize-board.ensures.now) c.seize-board.ensures.begins c.seize-board.ensures.job (ap (λ m. m.0) c.free.ensures.now),
      c.in-Err.ensures.refused.1,
    )

pub returns-clause-ok : goal.returns-clause-ok
returns-clause-ok g c =
    let place = c.pass.inside.place in
    let p = c.args.done.process in
    let out = ap (λ q. q.out) c.pass.view_is ∙ c.requires.job.0 in
    gave_and_took place.table_id c.act-turn.new.place.table_id place.me.0 c.seize-board.new.place.me.0 c.note-board.new.place.me.0 c.act-turn.new.place.me.0 c.seize-board.result.0.value p c.args.pass.now c.act-turn.result c.unwrap_or.result (sym c.pass.view_is)
    (c.act-turn.ensures.own.0 ∙ c.note-board.ensures.own ∙ c.seize-board.ensures.own) (ap (λ m. m.0) c.seize-board.ensures.now) c.seize-board.ensures.begins (c.seize-board.ensures.out p out) (ap (λ m. m.0) c.note-board.ensures.now) c.act-turn.ensures.some c.act-turn.ensures.none
    c.act-turn.ensures.refused c.unwrap_or.ensures
