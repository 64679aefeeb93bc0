use Rattle.std.proofs.Common.{ap}
use Rattle.std.proofs.lemmas.Result.{on_ok_weaker}
use Rattle.ooo_layout.specs.Scenes.{home_at}
use Rattle.ooo_lower.specs.Tasks.{left_of}
use Rattle.ooo_lower.proofs.Left.{goes_put}
use Rattle.ooo_lower.proofs.Stated.{goes_as}
use Rattle.ooo_shapes.specs.Shapes.{callees_within, simple_shape}
use Rattle.ooo_lower.proofs.simples.Site.take_simple.Goals as goal

pub returns-in-None : goal.returns-in-None
returns-in-None c =
    let home = home_at c.args.self.scene in
    on_ok_weaker c.emit_simple.result
    (goes_put _ c.args.self.spot.around c.args.self.spot.next (left_of home c.args.tasks.now) c.args.code.now c.emit_simple.new.code)
    (c.emit_simple.ensures (callees_within c.args.self.spot.depth home))

pub returns-in-Some : goal.returns-in-Some
returns-in-Some c =
    let home = home_at c.args.self.scene in
    let callees = callees_within c.args.self.spot.depth home in
    on_ok_weaker c.take_call.result
    (goes_as _ _ c.args.self.spot.around c.args.self.spot.next (left_of home c.args.tasks.now) _ c.args.code.now _
    (ap (simple_shape home callees c.args.x.now.line) c.in-Some.ensures))
    c.take_call.ensures
