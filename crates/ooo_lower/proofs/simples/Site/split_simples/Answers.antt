use Rattle.std.proofs.Common.{refl, ◌-◌, length, arith}
use Rattle.ooo_layout.specs.Scenes.{home_at}
use Rattle.ooo_lower.specs.Tasks.{left_of}
use Rattle.ooo_lower.proofs.Apart.{simples_done, simples_first, simples_more}
use Rattle.ooo_shapes.specs.Shapes.{callees_within}
use Rattle.ooo_lower.proofs.simples.Site.split_simples.Goals as goal

pub parts-init : goal.parts-init
parts-init c =
    let home = home_at c.args.self.scene in
    (omega arith, simples_first home (callees_within c.args.self.spot.depth home) c.args.self.spot.around c.args.self.spot.next c.args.at _ (length c.args.xs.now) c.args.xs.now (left_of home c.args.tasks.now) refl)

pub parts-preserved : goal.parts-preserved
parts-preserved c =
    let home = home_at c.args.self.scene in (
      omega (arith, c.parts.invariant.0),
      simples_more home (callees_within c.args.self.spot.depth home) c.args.self.spot.around _ _ c.args.self.spot.next c.args.at c.in-Ok.found c.parts.rest _ _ c.parts.left (c.parts.left - 1) c.args.xs.now _ (left_of home c.args.tasks.now) (left_of home c.parts.tasks) (left_of home c.push.new.tasks)
          c.parts-test.true refl (omega (arith, c.parts.invariant.0, c.parts-test.true)) c.index-xs-left.is c.in-Ok-lined_size.ensures c.in-Ok-sum.ensures c.in-Ok-rest_at.ensures c.begins-to.ensures (c.in-Ok-push.ensures home) c.parts.invariant.1,
    )

pub returns : goal.returns
returns c =
    let home = home_at c.args.self.scene in
    simples_done home (callees_within c.args.self.spot.depth home) c.args.self.spot.around c.args.self.spot.next c.args.at c.in-Ok.found c.parts.rest c.parts.left c.args.xs.now (left_of home c.args.tasks.now) (left_of home c.parts.tasks) c.parts-test.false c.in-Ok.ensures c.parts.invariant.1
