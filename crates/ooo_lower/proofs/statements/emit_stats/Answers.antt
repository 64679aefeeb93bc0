use Rattle.ooo_layout.specs.Scenes.{home_at}
use Rattle.ooo_lower.specs.Tasks.{before, nothing_left}
use Rattle.ooo_lower.proofs.Stated.{tasks_done, tasks_first, tasks_more}
use Rattle.ooo_shapes.specs.Shapes.{shape_within}
use Rattle.ooo_lower.proofs.statements.emit_stats.Goals as goal

pub steps-init : goal.steps-init
steps-init c =
    let home = home_at c.args.site.scene in
    tasks_first home (shape_within c.args.site.spot.depth home c.args.body.now) c.args.site.spot.around c.args.site.spot.next c.new-tasks.result c.push.new.tasks c.args.code.now c.new-tasks.ensures (c.in-Ok.ensures home)

pub steps-preserved : goal.steps-preserved
steps-preserved c =
    let home = home_at c.args.site.scene in
    tasks_more home (before (shape_within c.args.site.spot.depth home c.args.body.now) c.args.site.spot.around c.args.site.spot.next nothing_left) c.steps.tasks c.pop.new.self c.take.new.tasks c.in-Some.task c.args.code.now c.steps.code c.take.new.code c.in-Some.ensures c.steps.invariant c.in-Ok-take.ensures

pub returns-in-None : goal.returns-in-None
returns-in-None c =
    let home = home_at c.args.site.scene in
    tasks_done home (shape_within c.args.site.spot.depth home c.args.body.now) c.args.site.spot.around c.args.site.spot.next c.steps.tasks c.args.code.now c.steps.code c.in-None.ensures.0 c.steps.invariant
