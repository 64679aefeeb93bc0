use Rattle.std.proofs.Common.{ap}
use Rattle.std.proofs.lemmas.Result.{on_ok_weaker}
use Rattle.ooo_layout.specs.Scenes.{home_at}
use Rattle.ooo_lower.specs.Tasks.{left_of, part_shape}
use Rattle.ooo_lower.proofs.Left.{goes_put}
use Rattle.ooo_lower.proofs.Stated.{goes_as}
use Rattle.ooo_shapes.specs.Shapes.{callees_within}
use Rattle.ooo_lower.proofs.simples.Site.take.Goals as goal

pub returns-in-Body : goal.returns-in-Body
returns-in-Body c =
    let home = home_at c.args.self.scene in
    let s = c.args.self.spot in
    on_ok_weaker c.take_body.result
    (λ g. goes_as _ _ s.around s.next (left_of home c.args.tasks.now) (left_of home c.take_body.new.tasks) c.args.code.now _ (ap (part_shape home (callees_within s.depth home) s) c.in-Body.is) g)
    c.take_body.ensures

pub returns-in-Stat : goal.returns-in-Stat
returns-in-Stat c =
    let home = home_at c.args.self.scene in
    let s = c.args.self.spot in
    on_ok_weaker c.take_stat.result
    (λ g. goes_as _ _ s.around s.next (left_of home c.args.tasks.now) (left_of home c.take_stat.new.tasks) c.args.code.now _ (ap (part_shape home (callees_within s.depth home) s) c.in-Stat.is) g)
    c.take_stat.ensures

pub returns-in-Simples : goal.returns-in-Simples
returns-in-Simples c =
    let home = home_at c.args.self.scene in
    let s = c.args.self.spot in
    on_ok_weaker c.take_simples.result
    (λ g. goes_as _ _ s.around s.next (left_of home c.args.tasks.now) (left_of home c.take_simples.new.tasks) c.args.code.now _ (ap (part_shape home (callees_within s.depth home) s) c.in-Simples.is) g)
    c.take_simples.ensures

pub returns-in-Simple : goal.returns-in-Simple
returns-in-Simple c =
    let home = home_at c.args.self.scene in
    let s = c.args.self.spot in
    on_ok_weaker c.take_simple.result
    (λ g. goes_as _ _ s.around s.next (left_of home c.args.tasks.now) (left_of home c.take_simple.new.tasks) c.args.code.now _ (ap (part_shape home (callees_within s.depth home) s) c.in-Simple.is) g)
    c.take_simple.ensures

pub returns-in-Pass : goal.returns-in-Pass
returns-in-Pass c =
    let home = home_at c.args.self.scene in
    let s = c.args.self.spot in
    on_ok_weaker c.put_pass.result
    (λ g. goes_as _ _ s.around s.next (left_of home c.args.tasks.now) (left_of home c.args.tasks.now) c.args.code.now _ (ap (part_shape home (callees_within s.depth home) s) c.in-Pass.is) (goes_put _ s.around s.next (left_of home c.args.tasks.now) c.args.code.now _ g))
    c.put_pass.ensures

pub returns-in-Test : goal.returns-in-Test
returns-in-Test c =
    let home = home_at c.args.self.scene in
    let s = c.args.self.spot in
    on_ok_weaker c.put_test.result
    (λ g. goes_as _ _ s.around s.next (left_of home c.args.tasks.now) (left_of home c.args.tasks.now) c.args.code.now _ (ap (part_shape home (callees_within s.depth home) s) c.in-Test.is) (goes_put _ s.around s.next (left_of home c.args.tasks.now) c.args.code.now _ g))
    c.put_test.ensures

pub returns-in-Leave : goal.returns-in-Leave
returns-in-Leave c =
    let home = home_at c.args.self.scene in
    let s = c.args.self.spot in
    on_ok_weaker c.put_leave.result
    (λ g. goes_as _ _ s.around s.next (left_of home c.args.tasks.now) (left_of home c.args.tasks.now) c.args.code.now _ (ap (part_shape home (callees_within s.depth home) s) c.in-Leave.is) (goes_put _ s.around s.next (left_of home c.args.tasks.now) c.args.code.now _ g))
    c.put_leave.ensures
