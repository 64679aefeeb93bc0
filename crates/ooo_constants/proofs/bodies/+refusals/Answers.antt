use Rattle.std.proofs.Common.{◌∙◌, ap}
use Rattle.ooo_constants.specs.Bodies.{body_refusals, told_of}
use Rattle.ooo_constants.specs.Meanings.{Constants, constants_of}
use Rattle.ooo_constants.proofs.Blocks.{refusals_of_block, told_of_if, told_of_for}
use Rattle.ooo_constants.proofs.Told.{told_more}
use Rattle.ooo_constants.proofs.bodies.+refusals.Goals as goal

pub refuse_stat-returns-in-Block : goal.refuse_stat-returns-in-Block
refuse_stat-returns-in-Block t c =
    rw (c.in-Block.is, refusals_of_block (constants_of c.args.known) c.in-Block.field-0 c.in-Block.body)
    (c.refuse_stats.ensures ∙ ap (λ xs. told_of c.args.told.now (body_refusals (constants_of c.args.known) xs)) c.as_slice.ensures)

pub refuse_stat-returns-in-If : goal.refuse_stat-returns-in-If
refuse_stat-returns-in-If t c =
    told_of_if (constants_of c.args.known) c.args.statement.now c.in-If.field-0 c.in-If.field-1 c.in-If.yes c.get-in-If.result.now
    c.in-If.no c.args.told.now c.refuse_stat.new.told c.refuse_else.new.told c.in-If.is c.get-in-If.ensures c.refuse_stat.ensures
    c.refuse_else.ensures

pub refuse_stat-returns-in-For : goal.refuse_stat-returns-in-For
refuse_stat-returns-in-For t c =
    told_of_for (constants_of c.args.known) c.args.statement.now c.in-For.field-0 c.in-For.begins c.in-For.field-2 c.in-For.after
    c.in-For.body c.get-in-For.result.now c.args.told.now c.refuse_start.new.told c.refuse_step.new.told
    c.refuse_stat-in-For.new.told c.in-For.is c.get-in-For.ensures c.refuse_start.ensures c.refuse_step.ensures
    c.refuse_stat-in-For.ensures

pub refuse_stats-parts-preserved : goal.refuse_stats-parts-preserved
refuse_stats-parts-preserved t c =
    let k : Constants = constants_of c.args.known in
    told_more k c.parts.told c.refuse_stat.new.told (told_of c.args.told.now (body_refusals k c.args.body.now)) c.args.body.now
    c.parts.statement-index c.statement-item.result c.parts-test.true c.statement-item.is c.refuse_stat.ensures c.parts.invariant
