use Rattle.std.proofs.lemmas.Result.{on_ok_weaker}
use Rattle.ooo_layout.specs.Scenes.{home_at}
use Rattle.ooo_lower.specs.Tasks.{left_of, tested}
use Rattle.ooo_lower.proofs.Apart.{plain_loop_split}
use Rattle.ooo_shapes.specs.Shapes.{callees_within, shape_of}
use Rattle.ooo_lower.proofs.simples.Site.split_plain_loop.Goals as goal

pub returns : goal.returns
returns c =
    let home = home_at c.args.self.scene in
    on_ok_weaker c.push_turn.result
    (plain_loop_split c.args.self.spot.line (tested c.args.test) (shape_of home (callees_within c.args.self.spot.depth home) c.args.body.now) c.args.self.spot.around c.args.self.spot.next c.args.at (left_of home c.args.tasks.now) (left_of home c.push_turn.new.tasks))
    c.push_turn.ensures
