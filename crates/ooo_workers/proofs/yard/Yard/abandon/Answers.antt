use Rattle.std.proofs.Common.{refl, sym, ap, ◌∙◌}
use Rattle.ooo_dispatch.specs.declared.step.Step.TheVariants.{Abandon}
use Rattle.ooo_workers.proofs.Calls.{if_it_is, stepped_pass}
use Rattle.ooo_workers.proofs.yard.Yard.abandon.Goals as goal

pub returns : goal.returns
returns g c =
    let place = c.pass.inside.place in
    let p = c.unwrap-process.result in
    let out = c.pass.invariant.4 ∙ c.unwrap-process.ensures in
    if_it_is c.args.pass.now.out p _ (ap (λ q. q.out) (sym c.pass.view_is) ∙ out)
    (stepped_pass place.table_id c.free_after.new.place.table_id place.me.0 c.seize-board.new.place.me.0 c.free_after.new.place.me.0 c.seize-board.result.0.value (Abandon p) _ c.args.pass.now refl (sym c.pass.view_is) (c.free_after.ensures.own ∙ c.seize-board.ensures.own)
    (ap (λ m. m.0) c.seize-board.ensures.now) c.seize-board.ensures.begins (c.seize-board.ensures.out p out) (ap (λ m. m.0) c.free_after.ensures.now))
