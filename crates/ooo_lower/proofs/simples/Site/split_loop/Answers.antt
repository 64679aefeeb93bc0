use Rattle.std.proofs.Common.{Option, Some, ◌∙◌, ap, subst, sym}
use Rattle.std.proofs.lemmas.Result.{on_ok_weaker}
use Rattle.ooo_bound.specs.declared.stat.LinedSimple.{LinedSimple}
use Rattle.ooo_layout.specs.Scenes.{home_at}
use Rattle.ooo_lower.specs.Tasks.{Rest, Splits, before, left_of, tested}
use Rattle.ooo_shapes.specs.Shapes.{after_shape, callees_within, loop_shape, shape_of}
use Rattle.ooo_lower.proofs.simples.Site.split_loop.Goals as goal

pub returns-in-None : goal.returns-in-None
returns-in-None c =
    let home = home_at c.args.self.scene in
    let callees = callees_within c.args.self.spot.depth home in
    let whole : Option LinedSimple → Rest = λ o. before (loop_shape c.args.self.spot.line (tested c.args.looped.test) (after_shape home callees o) (shape_of home callees c.args.looped.body.now)) c.args.self.spot.around c.args.self.spot.next (left_of home c.args.tasks.now) in
    on_ok_weaker c.split_plain_loop.result (subst (λ o. Splits (whole o) (left_of home c.split_plain_loop.new.tasks) c.args.at) (sym c.in-None.is)) c.split_plain_loop.ensures

pub returns-in-Some : goal.returns-in-Some
returns-in-Some c =
    let home = home_at c.args.self.scene in
    let callees = callees_within c.args.self.spot.depth home in
    let whole : Option LinedSimple → Rest = λ o. before (loop_shape c.args.self.spot.line (tested c.args.looped.test) (after_shape home callees o) (shape_of home callees c.args.looped.body.now)) c.args.self.spot.around c.args.self.spot.next (left_of home c.args.tasks.now) in
    on_ok_weaker c.split_stepped_loop.result (subst (λ o. Splits (whole o) (left_of home c.split_stepped_loop.new.tasks) c.args.at) (sym (c.in-Some.is ∙ ap Some (sym c.get.ensures)))) c.split_stepped_loop.ensures
