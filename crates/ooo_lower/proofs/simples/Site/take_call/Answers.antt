use Rattle.std.proofs.Common.{ap, subst, sym}
use Rattle.std.proofs.lemmas.Result.{on_ok_weaker}
use Rattle.ooo_layout.specs.Scenes.{home_at}
use Rattle.ooo_lower.specs.Tasks.{Goes, before, left_of}
use Rattle.ooo_lower.proofs.Called.{no_call_begun}
use Rattle.ooo_shapes.specs.Shapes.{call_shape}
use Rattle.ooo_lower.proofs.simples.Site.take_call.Goals as goal

pub returns-in-None : goal.returns-in-None
returns-in-None c =
    let home = home_at c.args.self.scene in
    no_call_begun _ c.args.self.spot.around c.args.self.spot.next (left_of home c.args.tasks.now) c.args.code.now (ap (call_shape home c.args.self.spot.line c.args.call.into.now c.args.call.args.now) c.in-None.ensures)

pub begin_call-requires : goal.begin_call-requires
begin_call-requires c =
    c.requires c.args.call.function c.in-Some.function.now c.in_ok-outline-in-Some.outline c.in-Some.ensures.1 c.in_ok-outline-in-Some.ensures

pub returns-in_ok-outline-in-Some : goal.returns-in_ok-outline-in-Some
returns-in_ok-outline-in-Some c =
    let home = home_at c.args.self.scene in
    on_ok_weaker c.begin_call.result
    (subst (λ g. Goes (before (call_shape home c.args.self.spot.line c.args.call.into.now c.args.call.args.now g) c.args.self.spot.around c.args.self.spot.next (left_of home c.args.tasks.now)) (left_of home c.begin_call.new.tasks) c.args.code.now c.begin_call.new.code) (sym c.in-Some.ensures.2))
    c.begin_call.ensures
