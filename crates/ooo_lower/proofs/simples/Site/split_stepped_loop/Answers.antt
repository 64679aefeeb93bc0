use Rattle.std.proofs.lemmas.Result.{on_ok_weaker}
use Rattle.ooo_layout.specs.Scenes.{home_at}
use Rattle.ooo_lower.specs.Tasks.{left_of, tested}
use Rattle.ooo_lower.proofs.Apart.{loop_split}
use Rattle.ooo_shapes.specs.Shapes.{callees_within, lined_shape, shape_of}
use Rattle.ooo_lower.proofs.simples.Site.split_stepped_loop.Goals as goal

pub returns : goal.returns
returns c =
    let home = home_at c.args.self.scene in
    let callees = callees_within c.args.self.spot.depth home in
    on_ok_weaker c.push-2.result
    (loop_split c.args.self.spot.line (tested c.args.test) (lined_shape home callees c.args.after.now) (shape_of home callees c.args.body.now) c.args.self.spot.around _ _ c.args.self.spot.next c.args.at _ _ (left_of home c.args.tasks.now) (left_of home c.push_turn.new.tasks) (left_of home c.push.new.tasks) (left_of home c.push-2.new.tasks) c.in-Ok.ensures c.in-Ok-lined_size.ensures c.in-Ok-past.ensures c.begins-again.ensures c.in-Ok-push_turn.ensures (c.in-Ok-push.ensures home))
    (c.push-2.ensures home)
