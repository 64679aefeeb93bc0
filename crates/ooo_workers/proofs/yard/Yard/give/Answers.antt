use Rattle.std.proofs.Common.{refl, sym, ap, ◌∙◌}
use Rattle.ooo_dispatch.specs.declared.step.Step.TheVariants.{Commit}
use Rattle.ooo_workers.proofs.Calls.{rested_pass, stepped_pass}
use Rattle.ooo_workers.proofs.yard.Yard.give.Goals as goal

pub returns-in-Ok-clause-ok : goal.returns-in-Ok-clause-ok
returns-in-Ok-clause-ok g c =
    let place = c.pass.inside.place in
    let p = c.args.done.process in
    let out = ap (λ q. q.out) c.pass.view_is ∙ c.requires.job.0 in
    stepped_pass place.table_id c.free_after.new.place.table_id place.me.0 c.seize-board.new.place.me.0 c.free_after.new.place.me.0 c.seize-board.result.0.value (Commit p) _ c.args.pass.now refl (sym c.pass.view_is) (c.free_after.ensures.own ∙ c.seize-board.ensures.own)
    (ap (λ m. m.0) c.seize-board.ensures.now) c.seize-board.ensures.begins (c.seize-board.ensures.out p out) (ap (λ m. m.0) c.free_after.ensures.now)

pub returns-in-Err-clause-refused : goal.returns-in-Err-clause-refused
returns-in-Err-clause-refused g c =
    let place = c.pass.inside.place in (
      rested_pass place.table_id c.free.new.place.table_id place.me.0 c.seize-board.new.place.me.0 c.free.new.place.me.0 c.seize-board.result.0.value c.args.pass.now (sym c.pass.view_is) (c.free.ensures.own ∙ c.seize-board.ensures.own)
          (ap (λ m. m.0) c.seize-board.ensures.now) c.seize-board.ensures.begins c.seize-board.ensures.job (ap (λ m. m.0) c.free.ensures.now),
      c.in-Err.ensures.refused.1,
    )
