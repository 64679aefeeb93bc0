use Rattle.std.proofs.lemmas.Result.{on_ok_weaker}
use Rattle.ooo_layout.specs.Scenes.{home_at}
use Rattle.ooo_lower.specs.Tasks.{left_of}
use Rattle.ooo_lower.proofs.Apart.{only_split}
use Rattle.ooo_shapes.specs.Shapes.{callees_within}
use Rattle.ooo_lower.proofs.simples.Site.split_body.Goals as goal

pub returns-in-len1 : goal.returns-in-len1
returns-in-len1 c =
    let home = home_at c.args.self.scene in
    on_ok_weaker c.push.result
    (only_split home (callees_within c.args.self.spot.depth home) c.args.self.spot.around c.args.self.spot.next c.args.at c.args.body.now c.only-item.result (left_of home c.args.tasks.now) (left_of home c.push.new.tasks) c.in-len1.len_at_least c.in-len1.len_below c.only-item.is)
    (c.push.ensures home)
