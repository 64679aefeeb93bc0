use Rattle.std.proofs.Common.{◌∙◌, ap, refl, ◌++◌}
use Rattle.ooo_constants.specs.Bodies.{body_calls, else_calls, start_calls, stat_calls, step_calls}
use Rattle.ooo_constants.proofs.Blocks.{calls_of_block, calls_of_for, calls_of_if, calls_of_local, calls_of_simple}
use Rattle.ooo_constants.proofs.Lists.{appended, in_three, in_two}
use Rattle.ooo_constants.proofs.calls.+calls.Goals as goal

pub add_stat-returns-in-Block : goal.add_stat-returns-in-Block
add_stat-returns-in-Block t c =
    rw (c.in-Block.is, calls_of_block c.in-Block.field-0 c.in-Block.body) (rw c.as_slice.ensures at c.add_stats.ensures)

pub add_stat-returns-in-Local : goal.add_stat-returns-in-Local
add_stat-returns-in-Local t c =
    rw (c.in-Local.is, calls_of_local c.in-Local.local)
    (rw (c.as_slice-in-Local.ensures, c.get.ensures) at c.add_declarators.ensures)

pub add_stat-returns-in-Simple : goal.add_stat-returns-in-Simple
add_stat-returns-in-Simple t c =
    rw (c.in-Simple.is, calls_of_simple c.in-Simple.statement) (rw c.get-in-Simple.ensures at c.add_simple.ensures)

pub add_stat-returns-in_ok-add_stat-in-If : goal.add_stat-returns-in_ok-add_stat-in-If
add_stat-returns-in_ok-add_stat-in-If t c =
    rw (
      c.in-If.is,
      calls_of_if c.in-If.field-0 c.in-If.field-1 c.in-If.yes c.in-If.no,
      in_two c.args.calls.now.items c.add_stat.new.calls.items (stat_calls c.in-If.yes) (else_calls c.in-If.no)
          (c.in_ok-add_stat-in-If.ensures ∙ ap (λ x. c.args.calls.now.items ++ stat_calls x) c.get-in-If.ensures),
    )
    c.add_else.ensures

pub add_stat-returns-in_ok-add_step-in-For : goal.add_stat-returns-in_ok-add_step-in-For
add_stat-returns-in_ok-add_step-in-For t c =
    rw (
      c.in-For.is,
      calls_of_for c.in-For.field-0 c.in-For.begins c.in-For.field-2 c.in-For.after c.in-For.body,
      in_three c.args.calls.now.items c.add_start.new.calls.items c.add_step.new.calls.items (start_calls c.in-For.begins)
          (step_calls c.in-For.after) (stat_calls c.in-For.body) c.in_ok-add_start-in-For.ensures c.in_ok-add_step-in-For.ensures,
    )
    (rw c.get-in-For.ensures at c.add_stat-in-For.ensures)

pub add_stats-parts-preserved : goal.add_stats-parts-preserved
add_stats-parts-preserved t c =
    appended stat_calls body_calls (λ x xs. refl) c.parts.calls.items c.add_stat.new.calls.items
    (c.args.calls.now.items ++ body_calls c.args.body.now) c.args.body.now c.parts.statement-index c.statement-item.result
    c.parts-test.true c.statement-item.is c.in_ok-add_stat.ensures c.parts.invariant
