use Rattle.std.proofs.Common.{◌∙◌, ap}
use Rattle.std.proofs.lemmas.Result.{on_ok_weaker}
use Rattle.ooo_layout.specs.Scenes.{home_at}
use Rattle.ooo_lower.specs.Tasks.{left_of}
use Rattle.ooo_lower.proofs.Shaped.{shape_Break, shape_Continue, shape_Return}
use Rattle.ooo_lower.proofs.Stated.{block_is, do_is, for_is, goes_as, if_is, jump_taken, simple_is, while_is}
use Rattle.ooo_code.specs.declared.node.NodeKind.TheVariants as kind
use Rattle.ooo_shapes.specs.Shapes.{body_shape, callees_within, lined_shape, return_kind, shape_of}
use Rattle.ooo_lower.proofs.simples.Site.take_stat.Goals as goal

pub returns-in-Block : goal.returns-in-Block
returns-in-Block c =
    let home = home_at c.args.self.scene in
    let callees = callees_within c.args.self.spot.depth home in
    let s = c.args.self.spot in
    on_ok_weaker c.take_body.result
    (λ g. goes_as _ _ s.around s.next (left_of home c.args.tasks.now) (left_of home c.take_body.new.tasks) c.args.code.now _ (block_is home callees c.args.stat.now c.in-Block.body c.as_slice.result.now c.in-Block.is c.as_slice.ensures) g)
    c.take_body.ensures

pub returns-in-Simple : goal.returns-in-Simple
returns-in-Simple c =
    let home = home_at c.args.self.scene in
    let callees = callees_within c.args.self.spot.depth home in
    let s = c.args.self.spot in
    on_ok_weaker c.take_simple.result
    (λ g. goes_as _ _ s.around s.next (left_of home c.args.tasks.now) (left_of home c.take_simple.new.tasks) c.args.code.now _ (simple_is home callees c.args.stat.now c.in-Simple.x c.get.result.now c.in-Simple.is c.get.ensures) g)
    c.take_simple.ensures

pub returns-in-Break : goal.returns-in-Break
returns-in-Break c =
    let home = home_at c.args.self.scene in
    let callees = callees_within c.args.self.spot.depth home in
    let s = c.args.self.spot in
    on_ok_weaker c.put_jump.result
    (jump_taken (shape_of home callees c.args.stat.now) s.around c.in-Break.line s.next (λ t. kind.Goto) (λ t. t.break_to) (left_of home c.args.tasks.now) c.args.code.now _ (ap (shape_of home callees) c.in-Break.is ∙ shape_Break home callees c.in-Break.line))
    c.put_jump.ensures

pub returns-in-Continue : goal.returns-in-Continue
returns-in-Continue c =
    let home = home_at c.args.self.scene in
    let callees = callees_within c.args.self.spot.depth home in
    let s = c.args.self.spot in
    on_ok_weaker c.put_jump-in-Continue.result
    (jump_taken (shape_of home callees c.args.stat.now) s.around c.in-Continue.line s.next (λ t. kind.Goto) (λ t. t.continue_to) (left_of home c.args.tasks.now) c.args.code.now _ (ap (shape_of home callees) c.in-Continue.is ∙ shape_Continue home callees c.in-Continue.line))
    c.put_jump-in-Continue.ensures

pub returns-in-Return : goal.returns-in-Return
returns-in-Return c =
    let home = home_at c.args.self.scene in
    let callees = callees_within c.args.self.spot.depth home in
    let s = c.args.self.spot in
    on_ok_weaker c.put_return.result
    (jump_taken (shape_of home callees c.args.stat.now) s.around c.in-Return.line s.next (λ t. return_kind t c.in-Return.value) (λ t. t.return_to) (left_of home c.args.tasks.now) c.args.code.now _ (ap (shape_of home callees) c.in-Return.is ∙ shape_Return home callees c.in-Return.line c.in-Return.value))
    c.put_return.ensures

pub returns-in-If : goal.returns-in-If
returns-in-If c =
    let home = home_at c.args.self.scene in
    let callees = callees_within c.args.self.spot.depth home in
    let s = c.args.self.spot in
    on_ok_weaker c.take_if.result
    (λ g. goes_as _ _ s.around s.next (left_of home c.args.tasks.now) (left_of home c.take_if.new.tasks) c.args.code.now _ (if_is home callees c.in-If.line c.args.stat.now c.in-If.yes c.get-in-If-2.result.now c.in-If.no c.in-If.test c.get-in-If.result.now c.in-If.is c.get-in-If.ensures c.get-in-If-2.ensures) g)
    c.take_if.ensures

pub returns-in-While : goal.returns-in-While
returns-in-While c =
    let home = home_at c.args.self.scene in
    let callees = callees_within c.args.self.spot.depth home in
    let s = c.args.self.spot in
    on_ok_weaker c.take_while.result
    (λ g. goes_as _ _ s.around s.next (left_of home c.args.tasks.now) (left_of home c.take_while.new.tasks) c.args.code.now _ (while_is home callees c.in-While.line c.args.stat.now c.in-While.body c.get-in-While-2.result.now c.in-While.test c.get-in-While.result.now c.in-While.is c.get-in-While.ensures c.get-in-While-2.ensures) g)
    c.take_while.ensures

pub returns-in-Do : goal.returns-in-Do
returns-in-Do c =
    let home = home_at c.args.self.scene in
    let callees = callees_within c.args.self.spot.depth home in
    let s = c.args.self.spot in
    on_ok_weaker c.take_do.result
    (λ g. goes_as _ _ s.around s.next (left_of home c.args.tasks.now) (left_of home c.take_do.new.tasks) c.args.code.now _ (do_is home callees c.in-Do.line c.args.stat.now c.in-Do.body c.get-in-Do.result.now c.in-Do.test c.get-in-Do-2.result.now c.in-Do.is c.get-in-Do-2.ensures c.get-in-Do.ensures) g)
    c.take_do.ensures

pub returns-in-For : goal.returns-in-For
returns-in-For c =
    let home = home_at c.args.self.scene in
    let callees = callees_within c.args.self.spot.depth home in
    let s = c.args.self.spot in
    on_ok_weaker c.take_for.result
    (λ g. goes_as _ _ s.around s.next (left_of home c.args.tasks.now) (left_of home c.take_for.new.tasks) c.args.code.now _ (for_is home callees c.in-For.line c.args.stat.now c.in-For.body c.get-in-For.result.now c.in-For.begin c.as_slice-in-For.result.now c.in-For.test _ c.in-For.after c.in-For.is c.as_slice-in-For.ensures c.test_of.ensures c.get-in-For.ensures) g)
    c.take_for.ensures
