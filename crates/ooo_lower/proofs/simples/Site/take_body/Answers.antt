use Rattle.std.proofs.lemmas.Result.{on_ok_weaker}
use Rattle.ooo_layout.specs.Scenes.{home_at}
use Rattle.ooo_lower.specs.Tasks.{left_of}
use Rattle.ooo_lower.proofs.Left.{goes_split, splits_first, splits_on}
use Rattle.ooo_shapes.specs.Shapes.{body_shape, callees_within}
use Rattle.ooo_lower.proofs.simples.Site.take_body.Goals as goal

pub returns : goal.returns
returns c =
    let home = home_at c.args.self.scene in
    let s = c.args.self.spot in
    let callees = callees_within s.depth home in
    let same = c.bare.ensures.shape_is home callees in
    let at = c.in-Ok.found in
    let old = left_of home c.args.tasks.now in
    let new = left_of home c.split_body.new.tasks in
    on_ok_weaker c.split_body.result
    (λ split. goes_split _ new at c.args.code.now c.in-Ok.ensures
    (splits_on _ _ new at
    (splits_first (body_shape home callees c.args.body.now) (body_shape home callees c.bare.result.now) s.around s.around s.next s.next old at (λ free. same.nodes_are s.around free at s.next) same.slots_are same.size_is)
    split))
    c.split_body.ensures
