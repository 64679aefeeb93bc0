use Rattle.std.proofs.Common.{arith}
use Rattle.std.proofs.lemmas.Result.{on_ok_weaker}
use Rattle.ooo_layout.specs.Scenes.{home_at}
use Rattle.ooo_lower.specs.Tasks.{left_of, looped_shape}
use Rattle.ooo_lower.proofs.Apart.{for_split}
use Rattle.ooo_shapes.specs.Shapes.{callees_within, lined_shapes}
use Rattle.ooo_lower.proofs.simples.Site.split_for.Goals as goal

pub returns : goal.returns
returns c =
    let home = home_at c.args.self.scene in
    let callees = callees_within c.args.self.spot.depth home in
    on_ok_weaker c.push.result
    (for_split (lined_shapes home callees c.args.begin.now) (looped_shape home callees c.args.self.spot.line c.args.looped) c.args.self.spot.around c.in-Ok-past.found c.args.self.spot.next c.args.at _ (left_of home c.args.tasks.now) (left_of home c.split_loop.new.tasks) (left_of home c.push.new.tasks) (omega arith) c.in-Ok.ensures c.in-Ok-past.ensures c.in-Ok-split_loop.ensures)
    (c.push.ensures home)
