use Rattle.std.proofs.lemmas.Result.{on_ok_weaker}
use Rattle.ooo_layout.specs.Extents.{else_shape}
use Rattle.ooo_layout.specs.Scenes.{home_at}
use Rattle.ooo_lower.specs.Tasks.{left_of}
use Rattle.ooo_lower.proofs.Apart.{if_split}
use Rattle.ooo_shapes.specs.Shapes.{callees_within, shape_of}
use Rattle.ooo_lower.proofs.simples.Site.split_if.Goals as goal

pub returns : goal.returns
returns c =
    let home = home_at c.args.self.scene in
    let callees = callees_within c.args.self.spot.depth home in
    on_ok_weaker c.push-2.result
    (if_split c.args.self.spot.line c.args.test.now (shape_of home callees c.args.yes.now) (else_shape home callees c.args.no.now) c.args.self.spot.around _ _ c.args.self.spot.next c.args.at _ _ _ _ (left_of home c.args.tasks.now) (left_of home c.push_else.new.tasks) (left_of home c.push.new.tasks) (left_of home c.push-2.new.tasks) c.in-Ok.ensures c.in-Ok-stat_size.ensures c.in-Ok-past.ensures c.in-Ok-else_size.ensures c.begins-yes_to.ensures c.begins-no_to.ensures (λ p. c.in-Ok-push_else.ensures home p) (c.in-Ok-push.ensures home))
    (c.push-2.ensures home)
