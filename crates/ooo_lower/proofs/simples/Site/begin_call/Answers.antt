use Rattle.std.proofs.Common.{◌∙◌, ap, subst, length}
use Rattle.std.proofs.lemmas.Result.{on_ok_weaker}
use Rattle.ooo_layout.specs.Scenes.{home_at}
use Rattle.ooo_lower.specs.Codes.{Puts}
use Rattle.ooo_lower.specs.Tasks.{before, left_of}
use Rattle.ooo_lower.proofs.Called.{call_begun}
use Rattle.ooo_shapes.specs.Shapes.{argument_nodes, shape_within}
use Rattle.ooo_lower.proofs.simples.Site.begin_call.Goals as goal

pub returns : goal.returns
returns c =
    let home = home_at c.args.self.scene in
    let f = c.args.function.now in
    let body = shape_within c.args.self.spot.depth home f.body in
    let p = c.in-Ok.found in
    on_ok_weaker c.push-2.result
    (λ e. call_begun home c.args.call.into.now c.args.call.args.now f body c.args.self.spot c.in-Ok-frame_of.found p.free p.first p.leave c.args.code.now c.put_counted.new.self c.push_kinds.new.code c.put_zeros.new.code c.put_arguments.new.code (left_of home c.args.tasks.now) (left_of home c.push.new.tasks) (left_of home c.push-2.new.tasks)
    c.in-Ok.ensures.free_is
    c.in-Ok.ensures.first_is
    c.in-Ok.ensures.leave_is
    c.in-Ok-frame_of.ensures
    c.in-Ok-put_counted.ensures
    c.in-Ok-push_kinds.ensures
    c.in-Ok-put_zeros.ensures
    (subst (λ ks. Puts (argument_nodes c.args.self.spot.around c.in-Ok-frame_of.found c.args.self.spot.line 0 ks c.args.call.args.now (length c.put_zeros.new.code.nodes)) c.put_zeros.new.code c.put_arguments.new.code) c.as_slice-params.ensures c.in-Ok-put_arguments.ensures)
    (c.in-Ok-push.ensures home)
    (e ∙ ap (λ xs. before (shape_within c.args.self.spot.depth home xs) c.in-Ok-frame_of.found p.leave (left_of home c.push.new.tasks)) c.as_slice.ensures))
    (c.push-2.ensures home)
