use Rattle.std.proofs.Common.{arith, rules, suc, ◌+◌, ◌-◌, ◌≡◌, List, Some, length, refl, sym, ap, ◌∙◌}
use Rattle.std.proofs.lemmas.Grind.{common_steps}
use Rattle.ooo_syntax.specs.declared.stat.Stat.{Stat}
use Rattle.ooo_grammar.specs.Forms.{Got}
use Rattle.ooo_grammar.specs.Sets.{in_set}
use Rattle.ooo_grammar.specs.Names.{begins_stat}
use Rattle.ooo_grammar.specs.Statements.{after_while, block_stat, do_stat, for_stat, if_stat, maybe_other, other_stat, stat, while_stat}
use Rattle.ooo_grammar.specs.Steps.{stops_first, stops_second, got_second, loop_turn, loop_stops}
use Rattle.ooo_statements.specs.Loops.{next_stat}
use Rattle.ooo_statements.proofs.Elses.{else_gives, if_tail}
use Rattle.ooo_simple.specs.Steps.{gives_second}
use Rattle.ooo_statements.proofs.Blocks.{stats_init, none_stops}
use Rattle.ooo_statements.proofs.statements.+statement.Goals as goal

pub read_stats-turns-init : goal.read_stats-turns-init
read_stats-turns-init t c = stats_init c.args.limits c.args.tokens.now c.in_ok-list.rest.now c.in_ok-list.list _ c.in_ok-list.ensures (omega arith)

pub read_stats-returns-in_err-list : goal.read_stats-returns-in_err-list
read_stats-returns-in_err-list t c =
    let s = none_stops c.args.limits c.args.tokens.now c.in_err-list.field-0.0 c.in_err-list.ensures in
    first_of (search rules, grind (arith, common_steps))

pub read_stats-returns-in_err-more : goal.read_stats-returns-in_err-more
read_stats-returns-in_err-more t c =
    let n = length c.in_ok-list.rest.now in
    let e : n - c.turns._turn ≡ suc (n - (c.turns._turn + 1)) = omega (arith, c.turns-test.true) in
    let s = loop_stops (in_set begins_stat) (next_stat c.args.limits) _ (n - c.turns._turn) (n - (c.turns._turn + 1)) c.turns.list c.turns.rest.now c.in_err-more.field-0.0 c.turns.invariant e in
    first_of (search rules, grind (arith, common_steps))

pub read_stats-turns-preserved : goal.read_stats-turns-preserved
read_stats-turns-preserved t c =
    let n = length c.in_ok-list.rest.now in
    let e : n - c.turns._turn ≡ suc (n - (c.turns._turn + 1)) = omega (arith, c.turns-test.true) in
    let s = loop_turn (in_set begins_stat) (next_stat c.args.limits) _ (n - c.turns._turn) (n - (c.turns._turn + 1)) c.turns.list c.in_ok-more.more c.turns.rest.now c.in_ok-more.after.now c.turns.invariant e in
    first_of (search rules, grind (arith, common_steps))

pub read_else_part-returns : goal.read_else_part-returns
read_else_part-returns t c = else_gives c.args.limits c.args.dangling c.args.tokens.now c.read_maybe_other.result c.if-dangling.false c.read_maybe_other.ensures

pub read_after_condition-returns : goal.read_after_condition-returns
read_after_condition-returns t c =
    if_tail c.args.limits c.args.at c.args.test c.in-Ok.found.0 c.in-Ok-read_else_part.found.0 c.is_open-dangling.result c.args.tokens.now c.in-Ok.found.1.now c.in-Ok-read_else_part.found.1.now c.is_open-dangling.ensures c.in-Ok.ensures c.in-Ok-read_else_part.ensures
    ∙ ap (λ (s : Stat). Got s c.in-Ok-read_else_part.found.1.now) (sym c.in_ok-if_of.ensures)

pub read_next_stat-returns-in-Err : goal.read_next_stat-returns-in-Err
read_next_stat-returns-in-Err t c = stops_first _ _ _ c.in-Err.ensures

pub read_next_stat-returns : goal.read_next_stat-returns
read_next_stat-returns t c = got_second _ c.in-Ok.ensures (ap (λ (ss : List Stat). Got ss c.in-Ok.found.1.now) (sym c.in_ok-with_stat.ensures))

pub read_block-returns-in-Err : goal.read_block-returns-in-Err
unfolding block_stat
read_block-returns-in-Err t c = stops_first _ _ _ c.in-Err.ensures

pub read_block-returns-in-Err-read_stats : goal.read_block-returns-in-Err-read_stats
unfolding block_stat
read_block-returns-in-Err-read_stats t c = stops_second _ _ c.in-Ok.ensures (stops_first _ _ _ (stops_first _ _ _ c.in-Err-read_stats.ensures))

pub read_block-returns-in-Err-followed : goal.read_block-returns-in-Err-followed
unfolding block_stat
read_block-returns-in-Err-followed t c = stops_second _ _ c.in-Ok.ensures (stops_first _ _ _ (stops_second _ _ c.in-Ok-read_stats.ensures c.in-Err-followed.ensures))

pub read_block-returns : goal.read_block-returns
unfolding block_stat
read_block-returns t c = got_second _ c.in-Ok.ensures (got_second _ (got_second _ c.in-Ok-read_stats.ensures c.in-Ok-followed.ensures) refl)

pub read_other-returns-in-Err : goal.read_other-returns-in-Err
unfolding other_stat
read_other-returns-in-Err t c = stops_first _ _ _ c.in-Err.ensures

pub read_other-returns : goal.read_other-returns
unfolding other_stat
read_other-returns t c = gives_second _ _ c.in-Ok.ensures c.read_inner_stat.ensures

pub read_maybe_other-returns-then-not-starts : goal.read_maybe_other-returns-then-not-starts
unfolding maybe_other
read_maybe_other-returns-then-not-starts t c = rw (sym c.starts.ensures ∙ c.if-not-starts.true) refl

pub read_maybe_other-returns-in-Err : goal.read_maybe_other-returns-in-Err
unfolding maybe_other
read_maybe_other-returns-in-Err t c = rw (sym c.starts.ensures ∙ c.if-not-starts.false) (stops_first _ _ _ c.in-Err.ensures)

pub read_maybe_other-returns : goal.read_maybe_other-returns
unfolding maybe_other
read_maybe_other-returns t c = rw (sym c.starts.ensures ∙ c.if-not-starts.false) (got_second _ c.in-Ok.ensures (ap (λ (s : Stat). Got (Some s) c.in-Ok.found.1.now) (sym c.in_ok-boxed.ensures)))

pub read_if-returns-in-Err : goal.read_if-returns-in-Err
unfolding if_stat
read_if-returns-in-Err t c = stops_first _ _ _ c.in-Err.ensures

pub read_if-returns-in-Err-read_condition : goal.read_if-returns-in-Err-read_condition
unfolding if_stat
read_if-returns-in-Err-read_condition t c = stops_second _ _ c.in-Ok.ensures (stops_first _ _ _ c.in-Err-read_condition.ensures)

pub read_if-returns : goal.read_if-returns
unfolding if_stat
read_if-returns t c = gives_second _ _ c.in-Ok.ensures (gives_second _ _ c.in-Ok-read_condition.ensures c.read_after_condition.ensures)

pub read_while-returns-in-Err : goal.read_while-returns-in-Err
unfolding while_stat
read_while-returns-in-Err t c = stops_first _ _ _ c.in-Err.ensures

pub read_while-returns-in-Err-read_condition : goal.read_while-returns-in-Err-read_condition
unfolding while_stat
read_while-returns-in-Err-read_condition t c = stops_second _ _ c.in-Ok.ensures (stops_first _ _ _ c.in-Err-read_condition.ensures)

pub read_while-returns : goal.read_while-returns
unfolding while_stat
read_while-returns t c = gives_second _ _ c.in-Ok.ensures (gives_second _ _ c.in-Ok-read_condition.ensures c.read_after_while.ensures)

pub read_do-returns-in-Err : goal.read_do-returns-in-Err
unfolding do_stat
read_do-returns-in-Err t c = stops_first _ _ _ c.in-Err.ensures

pub read_do-returns-in-Err-read_inner_stat : goal.read_do-returns-in-Err-read_inner_stat
unfolding do_stat
read_do-returns-in-Err-read_inner_stat t c = stops_second _ _ c.in-Ok.ensures (stops_first _ _ _ c.in-Err-read_inner_stat.ensures)

pub read_do-returns : goal.read_do-returns
unfolding do_stat
read_do-returns t c = gives_second _ _ c.in-Ok.ensures (gives_second _ _ c.in-Ok-read_inner_stat.ensures c.read_after_do.ensures)

pub read_after_while-returns-in-Err : goal.read_after_while-returns-in-Err
unfolding after_while
read_after_while-returns-in-Err t c = stops_first _ _ _ c.in-Err.ensures

pub read_after_while-returns : goal.read_after_while-returns
unfolding after_while
read_after_while-returns t c = got_second _ c.in-Ok.ensures (ap (λ (s : Stat). Got s c.in-Ok.found.1.now) (sym c.in_ok-while_of.ensures))

pub read_for-returns-in-Err : goal.read_for-returns-in-Err
unfolding for_stat
read_for-returns-in-Err t c = stops_first _ _ _ c.in-Err.ensures

pub read_for-returns-in-Err-read_for_first : goal.read_for-returns-in-Err-read_for_first
unfolding for_stat
read_for-returns-in-Err-read_for_first t c = stops_second _ _ c.in-Ok.ensures (stops_first _ _ _ c.in-Err-read_for_first.ensures)

pub read_for-returns-in-Err-read_for_test : goal.read_for-returns-in-Err-read_for_test
unfolding for_stat
read_for-returns-in-Err-read_for_test t c = stops_second _ _ c.in-Ok.ensures (stops_second _ _ c.in-Ok-read_for_first.ensures (stops_first _ _ _ c.in-Err-read_for_test.ensures))

pub read_for-returns-in-Err-read_for_step : goal.read_for-returns-in-Err-read_for_step
unfolding for_stat
read_for-returns-in-Err-read_for_step t c = stops_second _ _ c.in-Ok.ensures (stops_second _ _ c.in-Ok-read_for_first.ensures (stops_second _ _ c.in-Ok-read_for_test.ensures (stops_first _ _ _ c.in-Err-read_for_step.ensures)))

pub read_for-returns : goal.read_for-returns
unfolding for_stat
read_for-returns t c = gives_second _ _ c.in-Ok.ensures (gives_second _ _ c.in-Ok-read_for_first.ensures (gives_second _ _ c.in-Ok-read_for_test.ensures (gives_second _ _ c.in-Ok-read_for_step.ensures c.read_for_body.ensures)))

pub read_stat-returns-then-starts : goal.read_stat-returns-then-starts
unfolding stat
read_stat-returns-then-starts t c = rw (sym c.starts.ensures ∙ c.if-starts.true) c.read_block.ensures

pub read_stat-returns-then-starts-2 : goal.read_stat-returns-then-starts-2
unfolding stat
read_stat-returns-then-starts-2 t c = rw (sym c.starts.ensures ∙ c.if-starts.false, sym c.starts-2.ensures ∙ c.if-starts-2.true) c.read_empty.ensures

pub read_stat-returns-then-starts-3 : goal.read_stat-returns-then-starts-3
unfolding stat
read_stat-returns-then-starts-3 t c = rw (sym c.starts.ensures ∙ c.if-starts.false, sym c.starts-2.ensures ∙ c.if-starts-2.false, sym c.starts-3.ensures ∙ c.if-starts-3.true) c.read_break.ensures

pub read_stat-returns-then-starts-4 : goal.read_stat-returns-then-starts-4
unfolding stat
read_stat-returns-then-starts-4 t c = rw (sym c.starts.ensures ∙ c.if-starts.false, sym c.starts-2.ensures ∙ c.if-starts-2.false, sym c.starts-3.ensures ∙ c.if-starts-3.false, sym c.starts-4.ensures ∙ c.if-starts-4.true) c.read_continue.ensures

pub read_stat-returns-then-starts-5 : goal.read_stat-returns-then-starts-5
unfolding stat
read_stat-returns-then-starts-5 t c = rw (sym c.starts.ensures ∙ c.if-starts.false, sym c.starts-2.ensures ∙ c.if-starts-2.false, sym c.starts-3.ensures ∙ c.if-starts-3.false, sym c.starts-4.ensures ∙ c.if-starts-4.false, sym c.starts-5.ensures ∙ c.if-starts-5.true) c.read_return.ensures

pub read_stat-returns-then-begins_with_type : goal.read_stat-returns-then-begins_with_type
unfolding stat
read_stat-returns-then-begins_with_type t c = rw (sym c.starts.ensures ∙ c.if-starts.false, sym c.starts-2.ensures ∙ c.if-starts-2.false, sym c.starts-3.ensures ∙ c.if-starts-3.false, sym c.starts-4.ensures ∙ c.if-starts-4.false, sym c.starts-5.ensures ∙ c.if-starts-5.false, sym c.begins_with_type.ensures ∙ c.if-begins_with_type.true) c.read_local_stat.ensures

pub read_stat-returns-then-begins_with_simple : goal.read_stat-returns-then-begins_with_simple
unfolding stat
read_stat-returns-then-begins_with_simple t c = rw (sym c.starts.ensures ∙ c.if-starts.false, sym c.starts-2.ensures ∙ c.if-starts-2.false, sym c.starts-3.ensures ∙ c.if-starts-3.false, sym c.starts-4.ensures ∙ c.if-starts-4.false, sym c.starts-5.ensures ∙ c.if-starts-5.false, sym c.begins_with_type.ensures ∙ c.if-begins_with_type.false, sym c.begins_with_simple.ensures ∙ c.if-begins_with_simple.true) c.read_simple_stat.ensures

pub read_stat-returns-then-starts-6 : goal.read_stat-returns-then-starts-6
unfolding stat
read_stat-returns-then-starts-6 t c = rw (sym c.starts.ensures ∙ c.if-starts.false, sym c.starts-2.ensures ∙ c.if-starts-2.false, sym c.starts-3.ensures ∙ c.if-starts-3.false, sym c.starts-4.ensures ∙ c.if-starts-4.false, sym c.starts-5.ensures ∙ c.if-starts-5.false, sym c.begins_with_type.ensures ∙ c.if-begins_with_type.false, sym c.begins_with_simple.ensures ∙ c.if-begins_with_simple.false, sym c.starts-6.ensures ∙ c.if-starts-6.true) c.read_if.ensures

pub read_stat-returns-then-starts-7 : goal.read_stat-returns-then-starts-7
unfolding stat
read_stat-returns-then-starts-7 t c = rw (sym c.starts.ensures ∙ c.if-starts.false, sym c.starts-2.ensures ∙ c.if-starts-2.false, sym c.starts-3.ensures ∙ c.if-starts-3.false, sym c.starts-4.ensures ∙ c.if-starts-4.false, sym c.starts-5.ensures ∙ c.if-starts-5.false, sym c.begins_with_type.ensures ∙ c.if-begins_with_type.false, sym c.begins_with_simple.ensures ∙ c.if-begins_with_simple.false, sym c.starts-6.ensures ∙ c.if-starts-6.false, sym c.starts-7.ensures ∙ c.if-starts-7.true) c.read_while.ensures

pub read_stat-returns-then-starts-8 : goal.read_stat-returns-then-starts-8
unfolding stat
read_stat-returns-then-starts-8 t c = rw (sym c.starts.ensures ∙ c.if-starts.false, sym c.starts-2.ensures ∙ c.if-starts-2.false, sym c.starts-3.ensures ∙ c.if-starts-3.false, sym c.starts-4.ensures ∙ c.if-starts-4.false, sym c.starts-5.ensures ∙ c.if-starts-5.false, sym c.begins_with_type.ensures ∙ c.if-begins_with_type.false, sym c.begins_with_simple.ensures ∙ c.if-begins_with_simple.false, sym c.starts-6.ensures ∙ c.if-starts-6.false, sym c.starts-7.ensures ∙ c.if-starts-7.false, sym c.starts-8.ensures ∙ c.if-starts-8.true) c.read_do.ensures

pub read_stat-returns : goal.read_stat-returns
unfolding stat
read_stat-returns t c = rw (sym c.starts.ensures ∙ c.if-starts.false, sym c.starts-2.ensures ∙ c.if-starts-2.false, sym c.starts-3.ensures ∙ c.if-starts-3.false, sym c.starts-4.ensures ∙ c.if-starts-4.false, sym c.starts-5.ensures ∙ c.if-starts-5.false, sym c.begins_with_type.ensures ∙ c.if-begins_with_type.false, sym c.begins_with_simple.ensures ∙ c.if-begins_with_simple.false, sym c.starts-6.ensures ∙ c.if-starts-6.false, sym c.starts-7.ensures ∙ c.if-starts-7.false, sym c.starts-8.ensures ∙ c.if-starts-8.false) c.read_for.ensures
